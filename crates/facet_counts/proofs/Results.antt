-- Results of dimensions: one more of them, their order, and that the order leaves no choice.
use Rattle.std.proofs.Common.{◌≡◌, ℕ, ◌+◌, ◌<◌, Bool, true, false, not, ◌||◌, ◌==◌, cond, List, [], ◌∷◌, ◌++◌, length, map, Option, Some, None, refl, sym, ap, subst, ◌∙◌, arith, rules}
use Rattle.std.specs.Prelude.{All, filter, option_to_list}
use Rattle.std.specs.Str.{bytes_eq}
use Rattle.std.specs.List.Sorted.{IsSorted, IsSortedBy, IsPermutation}
use Rattle.std.specs.Ordering.{int_cmp, is_lt, is_eq}
use Rattle.std.specs.Cmp.{IsTotalOrder}
use Rattle.std.specs.Cmp.Rules.{comparing}
use Rattle.std.specs.Cmp.Lexicographic.{bytes_decides}
use Rattle.std.proofs.lemmas.Bool.{true≢false, eqb-true, false_from_ne_true}
use Rattle.std.proofs.lemmas.List.{append-nil, length-map, get_or-map}
use Rattle.std.proofs.lemmas.List.Elements.{All-nil, All-cons, All-head, All-tail, All-filter, filter-append, filter_passes}
use Rattle.std.proofs.lemmas.List.Sums.{length-filter}
use Rattle.std.proofs.lemmas.List.Sorted.{All-permutation, sum_by-IsPermutation}
use Rattle.facet_names.specs.Paths.{path_eq, path_eq_equiv, path_cmp, path_ties}
use Rattle.facet_names.proofs.Ordered.{neither_is_less, second_is_equal, tail_sorted, first_is_first}
use Rattle.facet_model.specs.Documents.{Doc}
use Rattle.facet_model.specs.Flags.{Config}
use Rattle.facet_model.specs.declared.result.FacetResult.{FacetResult}
use Rattle.facet_model.specs.ResultViews.{result_view}
use Rattle.facet_model.specs.Results.{Listed, IsTop, AreAllDims, dims_cmp, listed}
use Rattle.facet_model.proofs.Unique.{top_determined}
use Rattle.taxo_list.proofs.Labels.{same_path}
use Rattle.facet_counts.specs.Dims.{AreDims}

-- the results of a dimension
abbrev pub of_dim : List ℕ → List Listed → List Listed
of_dim dim results = filter (λ x. path_eq x.path (dim ∷ [])) results

-- those that are of no dimension alone
abbrev pub deeper : List Listed → List Listed
deeper results = filter (λ x. not (length x.path == 1)) results

-- ---- one more dimension

-- a result has the path that it is of
top_path : (config : Config) (docs : List Doc) (path : List (List ℕ)) (n : ℕ) (x : Listed) → IsTop config docs path n (Some x) → x.path ≡ path
top_path config docs path n x top = by top.0 top.2
  where
    by : (all : _) → Some x ≡ listed config docs path n all → x.path ≡ path
    by [] e = absurd cc
    by (c ∷ cs) e = cc

path_apart : (d dim : List ℕ) → bytes_eq d dim ≡ false → path_eq (dim ∷ []) (d ∷ []) ≡ false
path_apart d dim apart = false_from_ne_true (path_eq (dim ∷ []) (d ∷ [])) (λ e. let same : dim ∷ [] ≡ d ∷ [] = same_path (dim ∷ []) (d ∷ []) e in true≢false (sym ((bytes_decides d dim).1 cc) ∙ apart))

module _ (among : List ℕ → Bool) (config : Config) (docs_of : List ℕ → List Doc) (n : ℕ) (dim : List ℕ) (new : among dim ≡ false) (results : List Listed) (dims : AreDims among config docs_of n results) where
  -- without a result
  pub noted_none : IsTop config (docs_of dim) (dim ∷ []) n None → AreDims (λ d. bytes_eq d dim || among d) config docs_of n results
  noted_none top = record { each = each; alone = dims.alone }
    where
      each : (d : List ℕ) → (r : Option Listed) × ((bytes_eq d dim || among d) ≡ true → IsTop config (docs_of d) (d ∷ []) n r) × ((bytes_eq d dim || among d) ≡ false → r ≡ None) × (of_dim d results ≡ option_to_list r)
      each d = by (bytes_eq d dim) refl
        where
          by : (b : Bool) → bytes_eq d dim ≡ b → (r : Option Listed) × ((b || among d) ≡ true → IsTop config (docs_of d) (d ∷ []) n r) × ((b || among d) ≡ false → r ≡ None) × (of_dim d results ≡ option_to_list r)
          by true e =
              let same : d ≡ dim = (bytes_decides d dim).0 e in
              let old = dims.each d in
              let none : old.0 ≡ None = old.2 (ap among same ∙ new) in
              (None, λ t. subst (λ k. IsTop config (docs_of k) (k ∷ []) n None) (sym same) top, λ t. refl, old.3 ∙ ap option_to_list none)
          by false e = dims.each d

  -- with one
  pub noted_some : (x : Listed) → IsTop config (docs_of dim) (dim ∷ []) n (Some x) → AreDims (λ d. bytes_eq d dim || among d) config docs_of n (results ++ x ∷ [])
  noted_some x top = record { each = each; alone = alone }
    where
      path : x.path ≡ dim ∷ []
      path = top_path config (docs_of dim) (dim ∷ []) n x top

      alone : deeper (results ++ x ∷ []) ≡ []
      alone =
          let one : not (length x.path == 1) ≡ false = ap (λ p. not (length p == 1)) path in
          filter-append (λ y. not (length y.path == 1)) results (x ∷ []) ∙ (λ t. dims.alone t ++ cond (one t) (x ∷ []) [])

      each : (d : List ℕ) → (r : Option Listed) × ((bytes_eq d dim || among d) ≡ true → IsTop config (docs_of d) (d ∷ []) n r) × ((bytes_eq d dim || among d) ≡ false → r ≡ None) × (of_dim d (results ++ x ∷ []) ≡ option_to_list r)
      each d = by (bytes_eq d dim) refl
        where
          whole : (b : Bool) → path_eq x.path (d ∷ []) ≡ b → of_dim d (results ++ x ∷ []) ≡ of_dim d results ++ cond b (x ∷ []) []
          whole b e = filter-append (λ y. path_eq y.path (d ∷ [])) results (x ∷ []) ∙ ap (λ b. of_dim d results ++ cond b (x ∷ []) []) e

          by : (b : Bool) → bytes_eq d dim ≡ b → (r : Option Listed) × ((b || among d) ≡ true → IsTop config (docs_of d) (d ∷ []) n r) × ((b || among d) ≡ false → r ≡ None) × (of_dim d (results ++ x ∷ []) ≡ option_to_list r)
          by true e =
              let same : d ≡ dim = (bytes_decides d dim).0 e in
              let old = dims.each d in
              let none : old.0 ≡ None = old.2 (ap among same ∙ new) in
              let here : path_eq x.path (d ∷ []) ≡ true = ap (λ p. path_eq p (d ∷ [])) (path ∙ ap (λ k. k ∷ []) (sym same)) ∙ path_eq_equiv.refl (d ∷ []) in
              (Some x, λ t. subst (λ k. IsTop config (docs_of k) (k ∷ []) n (Some x)) (sym same) top, λ t. absurd (true≢false t), whole true here ∙ ap (λ l. l ++ x ∷ []) (old.3 ∙ ap option_to_list none))
          by false e =
              let old = dims.each d in
              let apart : path_eq x.path (d ∷ []) ≡ false = ap (λ p. path_eq p (d ∷ [])) path ∙ path_apart d dim e in
              (old.0, old.1, old.2, whole false apart ∙ append-nil (of_dim d results) ∙ old.3)

-- ---- the order

-- at most one element passes, and it is the same one in another order
filter_permuted : {X : Type 0} (p : X → Bool) (xs ys : List X) → IsPermutation xs ys → (r : Option X) → filter p xs ≡ option_to_list r → filter p ys ≡ option_to_list r
filter_permuted {X} p xs ys moved None e = by (filter p ys) (length-filter p ys ∙ sum_by-IsPermutation (λ x. cond (p x) 1 0) xs ys moved ∙ sym (length-filter p xs) ∙ ap length e)
  where
    by : (zs : List X) → length zs ≡ 0 → zs ≡ []
    by [] size = refl
    by (z ∷ zs) size = absurd (omega arith)
filter_permuted {X} p xs ys moved (Some x) e =
    by (filter p ys) (length-filter p ys ∙ sum_by-IsPermutation (λ x. cond (p x) 1 0) xs ys moved ∙ sym (length-filter p xs) ∙ ap length e) (All-filter p (λ z. p z ≡ true → z ≡ x) ys (All-permutation (λ z. p z ≡ true → z ≡ x) xs ys moved (only xs e))) (filter_passes p ys)
  where
    by : (zs : List X) → length zs ≡ 1 → All (λ z. p z ≡ true → z ≡ x) zs → All (λ z. p z ≡ true) zs → zs ≡ x ∷ []
    by [] size same passes = absurd (omega arith)
    by (z ∷ []) size same passes = ap (λ k. k ∷ []) (All-head (λ z. p z ≡ true → z ≡ x) z [] same (All-head (λ z. p z ≡ true) z [] passes))
    by (z ∷ y ∷ zs) size same passes = absurd (omega arith)

    none : (zs : List X) → filter p zs ≡ [] → All (λ z. p z ≡ true → z ≡ x) zs
    none [] e = All-nil (λ z. p z ≡ true → z ≡ x)
    none (z ∷ zs) e = one (p z) refl e (none zs)
      where
        one : (b : Bool) → p z ≡ b → cond b (z ∷ filter p zs) (filter p zs) ≡ [] → (filter p zs ≡ [] → All (λ z. p z ≡ true → z ≡ x) zs) → All (λ z. p z ≡ true → z ≡ x) (z ∷ zs)
        one true h e again = absurd cc
        one false h e again = All-cons (λ z. p z ≡ true → z ≡ x) z zs (λ t. absurd (true≢false (sym t ∙ h))) (again e)

    only : (zs : List X) → filter p zs ≡ x ∷ [] → All (λ z. p z ≡ true → z ≡ x) zs
    only [] e = All-nil (λ z. p z ≡ true → z ≡ x)
    only (z ∷ zs) e = one (p z) refl e (only zs)
      where
        one : (b : Bool) → p z ≡ b → cond b (z ∷ filter p zs) (filter p zs) ≡ x ∷ [] → (filter p zs ≡ x ∷ [] → All (λ z. p z ≡ true → z ≡ x) zs) → All (λ z. p z ≡ true → z ≡ x) (z ∷ zs)
        one true h e again = let same : z ≡ x = cc in let rest : filter p zs ≡ [] = cc in All-cons (λ z. p z ≡ true → z ≡ x) z zs (λ t. same) (none zs rest)
        one false h e again = All-cons (λ z. p z ≡ true → z ≡ x) z zs (λ t. absurd (true≢false (sym t ∙ h))) (again e)

-- results in order are so as plain data
pub sorted_views : (rs : List FacetResult) → IsSortedBy (λ a b. is_lt (dims_cmp (result_view a) (result_view b))) rs → IsSorted dims_cmp (map result_view rs)
sorted_views [] h = λ k d low high. absurd (omega arith)
sorted_views (r ∷ rs) h = λ k d low high.
    let long : k + 1 < length (r ∷ rs) = omega (arith, length-map (r ∷ rs) result_view) in
    let here = get_or-map result_view (r ∷ rs) k r d (omega arith) in
    let next = get_or-map result_view (r ∷ rs) (k + 1) r d long in
    rw (here, next) (h k r low long)

-- The results of all dimensions, in order, are the answer.
pub ordered_dims : (among : List ℕ → Bool) (config : Config) (docs_of : List ℕ → List Doc) (n : ℕ) → ((dim : List ℕ) → among dim ≡ false → IsTop config (docs_of dim) (dim ∷ []) n None) → (xs ys : List Listed) → AreDims among config docs_of n xs → IsPermutation xs ys → IsSorted dims_cmp ys → AreAllDims config docs_of n ys
ordered_dims among config docs_of n others xs ys dims moved sorted = record {
  each = each;
  alone = filter_permuted (λ x. not (length x.path == 1)) xs ys moved None dims.alone;
  ordered = sorted;
}
  where
    each : (dim : List ℕ) → (r : Option Listed) × IsTop config (docs_of dim) (dim ∷ []) n r × (of_dim dim ys ≡ option_to_list r)
    each dim = by (among dim) refl
      where
        by : (b : Bool) → among dim ≡ b → (r : Option Listed) × IsTop config (docs_of dim) (dim ∷ []) n r × (of_dim dim ys ≡ option_to_list r)
        by true e = let at = dims.each dim in (at.0, at.1 e, filter_permuted (λ x. path_eq x.path (dim ∷ [])) xs ys moved at.0 at.3)
        by false e =
            let at = dims.each dim in
            (None, others dim e, filter_permuted (λ x. path_eq x.path (dim ∷ [])) xs ys moved None (at.3 ∙ ap option_to_list (at.2 e)))

-- ---- the order leaves no choice

pub dims_total : IsTotalOrder dims_cmp
dims_total = search (comparing, rules)

-- two results of which neither is first have the same path
tied : (x y : Listed) → is_lt (dims_cmp x y) ≡ false → is_lt (dims_cmp y x) ≡ false → x.path ≡ y.path
tied x y not_first not_second = same_path x.path y.path (path_ties x.path y.path ∙ ap is_eq (second_is_equal (int_cmp y.value x.value) (path_cmp x.path y.path) (neither_is_less (dims_cmp x y) (dims_cmp y x) not_first not_second (dims_total.antisymm y x))))

-- what holds of each element holds of the first that passes
passing : (P : Listed → Type 0) (p : Listed → Bool) (x : Listed) (zs ws : List Listed) → filter p zs ≡ x ∷ ws → All P zs → P x
passing P p x [] ws e each = absurd cc
passing P p x (z ∷ zs) ws e each = by (p z) e (λ rest. passing P p x zs ws rest (All-tail P z zs each))
  where
    by : (b : Bool) → cond b (z ∷ filter p zs) (filter p zs) ≡ x ∷ ws → (filter p zs ≡ x ∷ ws → P x) → P x
    by true e again = let same : z ≡ x = cc in subst P same (All-head P z zs each)
    by false e again = again e

-- the first of results that are of dimensions alone is of one, and the others are too
first_alone : (x : Listed) (xs : List Listed) → deeper (x ∷ xs) ≡ [] → ((dim : List ℕ) × (path_eq x.path (dim ∷ []) ≡ true)) × (deeper xs ≡ [])
first_alone x xs alone = by (length x.path == 1) refl alone
  where
    one : (p : List (List ℕ)) → length p ≡ 1 → (dim : List ℕ) × (path_eq p (dim ∷ []) ≡ true)
    one [] e = absurd (omega arith)
    one (dim ∷ []) e = (dim, path_eq_equiv.refl (dim ∷ []))
    one (dim ∷ next ∷ p) e = absurd (omega arith)

    by : (b : Bool) → (length x.path == 1) ≡ b → cond (not b) (x ∷ deeper xs) (deeper xs) ≡ [] → ((dim : List ℕ) × (path_eq x.path (dim ∷ []) ≡ true)) × (deeper xs ≡ [])
    by true e rest = (one x.path (eqb-true (length x.path) 1 e), rest)
    by false e rest = absurd cc

determined : (xs ys : List Listed) → deeper xs ≡ [] → deeper ys ≡ [] → IsSorted dims_cmp xs → IsSorted dims_cmp ys → ((dim : List ℕ) → of_dim dim xs ≡ of_dim dim ys) → xs ≡ ys
determined [] [] ax ay sx sy same = refl
determined [] (y ∷ ys) ax ay sx sy same =
    let dim = first_alone y ys ay in
    let here : of_dim dim.0.0 (y ∷ ys) ≡ y ∷ of_dim dim.0.0 ys = ap (λ b. cond b (y ∷ of_dim dim.0.0 ys) (of_dim dim.0.0 ys)) dim.0.1 in
    absurd (omega (arith, ap length (same dim.0.0 ∙ here)))
determined (x ∷ xs) [] ax ay sx sy same =
    let dim = first_alone x xs ax in
    let here : of_dim dim.0.0 (x ∷ xs) ≡ x ∷ of_dim dim.0.0 xs = ap (λ b. cond b (x ∷ of_dim dim.0.0 xs) (of_dim dim.0.0 xs)) dim.0.1 in
    absurd (omega (arith, ap length (sym here ∙ same dim.0.0)))
determined (x ∷ xs) (y ∷ ys) ax ay sx sy same =
    let first = first_alone x xs ax in
    let second = first_alone y ys ay in
    let x_here : of_dim first.0.0 (x ∷ xs) ≡ x ∷ of_dim first.0.0 xs = ap (λ b. cond b (x ∷ of_dim first.0.0 xs) (of_dim first.0.0 xs)) first.0.1 in
    let y_here : of_dim second.0.0 (y ∷ ys) ≡ y ∷ of_dim second.0.0 ys = ap (λ b. cond b (y ∷ of_dim second.0.0 ys) (of_dim second.0.0 ys)) second.0.1 in
    let not_first : is_lt (dims_cmp x y) ≡ false = passing (λ z. is_lt (dims_cmp z y) ≡ false) (λ z. path_eq z.path (first.0.0 ∷ [])) x (y ∷ ys) (of_dim first.0.0 xs) (sym (same first.0.0) ∙ x_here) (first_is_first dims_cmp dims_total y ys sy) in
    let not_second : is_lt (dims_cmp y x) ≡ false = passing (λ z. is_lt (dims_cmp z x) ≡ false) (λ z. path_eq z.path (second.0.0 ∷ [])) y (x ∷ xs) (of_dim second.0.0 ys) (same second.0.0 ∙ y_here) (first_is_first dims_cmp dims_total x xs sx) in
    let path : x.path ≡ y.path = tied x y not_first not_second in
    let both : x ∷ of_dim first.0.0 xs ≡ y ∷ of_dim first.0.0 ys = sym x_here ∙ same first.0.0 ∙ ap (λ b. cond b (y ∷ of_dim first.0.0 ys) (of_dim first.0.0 ys)) (ap (λ p. path_eq p (first.0.0 ∷ [])) (sym path) ∙ first.0.1) in
    let head : x ≡ y = cc in
    let rest : xs ≡ ys = determined xs ys first.1 second.1 (tail_sorted dims_cmp x xs sx) (tail_sorted dims_cmp y ys sy) (λ dim. later dim (path_eq x.path (dim ∷ [])) (path_eq y.path (dim ∷ [])) (ap (λ p. path_eq p (dim ∷ [])) path) (same dim)) in
    λ i. head i ∷ rest i
  where
    later : (dim : List ℕ) (a b : Bool) → a ≡ b → cond a (x ∷ of_dim dim xs) (of_dim dim xs) ≡ cond b (y ∷ of_dim dim ys) (of_dim dim ys) → of_dim dim xs ≡ of_dim dim ys
    later dim true true e same = cc
    later dim false false e same = same
    later dim true false e same = absurd (true≢false e)
    later dim false true e same = absurd (true≢false (sym e))

-- So the answer is one.
pub one_answer : (config : Config) (docs_of : List ℕ → List Doc) (n : ℕ) (xs ys : List Listed) → AreAllDims config docs_of n xs → AreAllDims config docs_of n ys → xs ≡ ys
one_answer config docs_of n xs ys a b =
    determined xs ys a.alone b.alone a.ordered b.ordered (λ dim.
    let first = a.each dim in
    let second = b.each dim in
    first.2 ∙ ap option_to_list (top_determined config (docs_of dim) (dim ∷ []) n first.0 second.0 first.1 second.1) ∙ sym second.2)
