-- Components below a path, counted document by document.
use Rattle.std.proofs.Common.{◌≡◌, ℕ, ◌+◌, ◌<◌, ◌≤◌, Bool, true, false, cond, List, [], ◌∷◌, ◌++◌, length, take, get_or, Option, Some, None, unwrap_or, is_eq, refl, sym, ap, ◌∙◌, arith}
use Rattle.std.specs.Prelude.{count_by, ◌||◌, IfSome}
use Rattle.std.specs.Ordering.{nat_cmp}
use Rattle.std.proofs.lemmas.Map.Text.{is_eq-slice_cmp}
use Rattle.std.specs.List.{list_any}
use Rattle.std.specs.Option.{option_map_or}
use Rattle.std.specs.Str.{bytes_eq}
use Rattle.std.specs.Cmp.Lexicographic.{bytes_decides, slice_cmp}
use Rattle.std.proofs.lemmas.List.{length-append}
use Rattle.std.proofs.lemmas.List.Sums.{sum_by-cons, sum_by-append, sum_by_more}
use Rattle.std.proofs.lemmas.List.Folds.{list_any_more}
use Rattle.facet_names.specs.Paths.{is_under}
use Rattle.facet_model.specs.Documents.{Doc, has, count}
use Rattle.label_tests.specs.Plain.{child_of, with_part}
use Rattle.facet_model.proofs.Unique.{one_if}
use Rattle.std.proofs.Math.Bool.{and-true}

abbrev pub below : List (List ℕ) → List ℕ → List (List ℕ) → Bool
below path q label = is_under label (path ++ q ∷ [])

-- whether a component is the one below the path
abbrev is_child_part : List (List ℕ) → List ℕ → List (List ℕ) → Bool
is_child_part path q label = option_map_or (bytes_eq q) (child_of path label) false

-- a label is under a longer path where its component behind the path is the last of that
pub under_child : (path label : List (List ℕ)) (q : List ℕ) → below path q label ≡ is_child_part path q label
under_child [] [] q = refl
under_child [] (c ∷ cs) q = and-true (bytes_eq q c)
under_child (p ∷ ps) [] q = refl
under_child (p ∷ ps) (c ∷ cs) q = by (bytes_eq p c) refl (under_child ps cs q)
  where
    by : (b : Bool) → bytes_eq p c ≡ b → below ps q cs ≡ is_child_part ps q cs → below (p ∷ ps) q (c ∷ cs) ≡ is_child_part (p ∷ ps) q (c ∷ cs)
    by true h rest = rw h rest
    by false h rest = rw h refl

abbrev pub times_in : List ℕ → List (List ℕ) → ℕ
times_in q parts = count_by (bytes_eq q) parts

times_cons : (q p : List ℕ) (parts : List (List ℕ)) → times_in q (p ∷ parts) ≡ one_if (bytes_eq q p) + times_in q parts
times_cons q p parts = sum_by-cons (λ x. cond (bytes_eq q x) 1 0) p parts

times_push : (q p : List ℕ) (parts : List (List ℕ)) → times_in q (parts ++ p ∷ []) ≡ times_in q parts + one_if (bytes_eq q p)
times_push q p parts = let own = times_cons q p [] in sum_by-append (λ x. cond (bytes_eq q x) 1 0) parts (p ∷ []) ∙ ap (λ n. times_in q parts + n) (own ∙ omega arith)

-- a component is in the list exactly where it is counted
counted_member : (q : List ℕ) (parts : List (List ℕ)) → list_any (bytes_eq q) parts ≡ true → 0 < times_in q parts
counted_member q [] is = absurd cc
counted_member q (p ∷ parts) is = by (bytes_eq q p) refl is (counted_member q parts)
  where
    by : (b : Bool) → bytes_eq q p ≡ b → (b || list_any (bytes_eq q) parts) ≡ true → (list_any (bytes_eq q) parts ≡ true → 0 < times_in q parts) → 0 < times_in q (p ∷ parts)
    by true h is rest = omega (arith, times_cons q p parts, ap one_if h)
    by false h is rest = omega (arith, times_cons q p parts, rest is)

counted_none : (q : List ℕ) (parts : List (List ℕ)) → list_any (bytes_eq q) parts ≡ false → times_in q parts ≡ 0
counted_none q [] is = refl
counted_none q (p ∷ parts) is = by (bytes_eq q p) refl is (counted_none q parts)
  where
    by : (b : Bool) → bytes_eq q p ≡ b → (b || list_any (bytes_eq q) parts) ≡ false → (list_any (bytes_eq q) parts ≡ false → times_in q parts ≡ 0) → times_in q (p ∷ parts) ≡ 0
    by true h is rest = absurd cc
    by false h is rest = omega (arith, times_cons q p parts, ap one_if h, rest is)

-- one more component, noted once
pub noted : (q : List ℕ) (parts : List (List ℕ)) (o : Option (List ℕ)) (before : Bool) → times_in q parts ≡ one_if before → times_in q (with_part parts o) ≡ one_if (before || option_map_or (bytes_eq q) o false)
noted q parts None true is = is
noted q parts None false is = is
noted q parts (Some p) before is = by (list_any (bytes_eq p) parts) (bytes_eq q p) before refl refl is
  where
    by : (l e b : Bool) → list_any (bytes_eq p) parts ≡ l → bytes_eq q p ≡ e → times_in q parts ≡ one_if b → times_in q (cond l parts (parts ++ p ∷ [])) ≡ one_if (b || e)
    by true true true l e is = is
    by true true false l e is =
        let same : q ≡ p = (bytes_decides q p).0 e in
        let some = counted_member p parts l in
        let twin : times_in q parts ≡ times_in p parts = ap (λ x. times_in x parts) same in
        absurd (omega (arith, is, some, twin))
    by true false true l e is = is
    by true false false l e is = is
    by false true true l e is =
        let same : q ≡ p = (bytes_decides q p).0 e in
        let twin : times_in q parts ≡ times_in p parts = ap (λ x. times_in x parts) same in
        absurd (omega (arith, is, counted_none p parts l, twin))
    by false true false l e is = omega (arith, is, times_push q p parts, ap one_if e)
    by false false true l e is = omega (arith, is, times_push q p parts, ap one_if e)
    by false false false l e is = omega (arith, is, times_push q p parts, ap one_if e)

-- the labels so far, and one more
pub noted_label : (path : List (List ℕ)) (q : List ℕ) (labels : List (List (List ℕ))) (i : ℕ) (d : List (List ℕ)) (old new : List (List ℕ)) → i < length labels → times_in q old ≡ one_if (list_any (below path q) (take i labels))
    → new ≡ with_part old (child_of path (get_or labels i d)) → times_in q new ≡ one_if (list_any (below path q) (take (i + 1) labels))
noted_label path q labels i d old new lt before is =
    ap (times_in q) is
    ∙ noted q old (child_of path (get_or labels i d)) (list_any (below path q) (take i labels)) before
    ∙ ap (λ b. one_if (list_any (below path q) (take i labels) || b)) (sym (under_child path (get_or labels i d) q))
    ∙ ap one_if (sym (list_any_more (below path q) labels i d lt))

pub longer_by_one : (parts : List (List ℕ)) (o : Option (List ℕ)) → length (with_part parts o) ≤ length parts + 1
longer_by_one parts None = omega arith
longer_by_one parts (Some p) = by (list_any (bytes_eq p) parts)
  where
    by : (l : Bool) → length (cond l parts (parts ++ p ∷ [])) ≤ length parts + 1
    by true = omega arith
    by false = omega (arith, length-append parts (p ∷ []))

-- the documents so far, and one more
pub noted_doc : (path : List (List ℕ)) (q : List ℕ) (docs : List Doc) (i : ℕ) (d : Doc) (old own : List (List ℕ)) → i < length docs → times_in q old ≡ count (take i docs) (path ++ q ∷ [])
    → times_in q own ≡ one_if (has (get_or docs i d) (path ++ q ∷ [])) → times_in q (old ++ own) ≡ count (take (i + 1) docs) (path ++ q ∷ [])
noted_doc path q docs i d old own lt before here =
    let both = sum_by-append (λ x. cond (bytes_eq q x) 1 0) old own in
    let more = sum_by_more (λ (x : Doc). cond (has x (path ++ q ∷ [])) 1 0) docs i d lt in
    omega (arith, both, more, before, here)

-- a map's count of each component so far, and one more of a component k
pub counted_more : (q k : List ℕ) (o : Option ℕ) (n : ℕ) (done : List (List ℕ)) → unwrap_or o 0 ≡ times_in q done → n ≡ times_in k done + 1 → unwrap_or (cond (is_eq (slice_cmp nat_cmp k q)) (Some n) o) 0 ≡ times_in q (done ++ k ∷ [])
counted_more q k o n done before next = by (bytes_eq k q) (bytes_eq q k) refl refl
  where
    by : (a b : Bool) → bytes_eq k q ≡ a → bytes_eq q k ≡ b → unwrap_or (cond (is_eq (slice_cmp nat_cmp k q)) (Some n) o) 0 ≡ times_in q (done ++ k ∷ [])
    by true true h g =
        let test : is_eq (slice_cmp nat_cmp k q) ≡ true = is_eq-slice_cmp k q ∙ h in
        let twin : times_in k done ≡ times_in q done = ap (λ x. times_in x done) ((bytes_decides k q).0 h) in
        rw test (omega (arith, next, twin, times_push q k done, ap one_if g))
    by false false h g =
        let test : is_eq (slice_cmp nat_cmp k q) ≡ false = is_eq-slice_cmp k q ∙ h in
        rw test (omega (arith, before, times_push q k done, ap one_if g))
    by true false h g = let turned : bytes_eq q k ≡ true = (bytes_decides q k).1 (sym ((bytes_decides k q).0 h)) in absurd cc
    by false true h g = let turned : bytes_eq k q ≡ true = (bytes_decides k q).1 (sym ((bytes_decides q k).0 g)) in absurd cc

pub positive_more : (b : Bool) (o : Option ℕ) (n m : ℕ) → n ≡ m + 1 → IfSome o (λ k. 0 < k) → IfSome (cond b (Some n) o) (λ k. 0 < k)
positive_more true o n m next h = omega (arith, next)
positive_more false o n m next h = h

pub entry_more : (b : Bool) (old new : ℕ) → new ≡ old + cond b 0 1 → new ≤ old + 1
entry_more true old new e = omega (arith, e)
entry_more false old new e = omega (arith, e)
