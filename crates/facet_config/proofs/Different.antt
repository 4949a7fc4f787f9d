-- The first dimension whose flags differ, among those that are declared.
use Rattle.std.proofs.Common.{◌≡◌, ℕ, Bool, true, false, List, [], ◌∷◌, map, Option, Some, None, refl, sym, ap, subst, ◌∙◌}
use Rattle.std.specs.Prelude.{◌≢◌, ◌||◌, fold, IfSome, IfNone, cond, option_map}
use Rattle.std.specs.List.{list_any}
use Rattle.std.specs.Str.{bytes_eq}
use Rattle.std.specs.declared.cmp.Ordering.{Ordering}
use Rattle.std.specs.declared.cmp.Ordering.TheVariants.{Less, Equal, Greater}
use Rattle.std.specs.Ordering.{is_lt, ordering_reverse}
use Rattle.std.specs.Cmp.Lexicographic.{nat_list_cmp_total, bytes_decides}
use Rattle.std.proofs.lemmas.Bool.{true≢false, or_parts}
use Rattle.std.proofs.lemmas.Map.Lookups.{exact_bytes}
use Rattle.facet_model.specs.declared.flags.DimFlags.{DimFlags}
use Rattle.facet_model.specs.Flags.{Config, flags, no_flags}
use Rattle.facet_config.specs.Differences.{IsFirstDifference, IsFoundDifference, OneDifference, is_one_true, is_different, lesser, nearer}
use Rattle.facet_names.proofs.Ordered.{is_less}
use Rattle.facet_model.specs.Words.{word_cmp}
use Rattle.facet_model.proofs.WordOrder.{not_less_itself}

-- ---- the order

not_less_than_lesser : (d x m : List ℕ) → is_lt (word_cmp d m) ≡ false → is_lt (word_cmp x m) ≡ true → is_lt (word_cmp d x) ≡ false
not_less_than_lesser d x m above low = by (is_lt (word_cmp d x)) refl
  where
    by : (b : Bool) → is_lt (word_cmp d x) ≡ b → is_lt (word_cmp d x) ≡ false
    by true e = absurd (true≢false (sym (ap is_lt (nat_list_cmp_total.trans d x m (is_less (word_cmp d x) e) (is_less (word_cmp x m) low))) ∙ above))
    by false e = e

-- there is one, and the dimension is not less
abbrev IsFrom : Option (List ℕ) → List ℕ → Type 0
IsFrom o d = (m : List ℕ) × (o ≡ Some m) × (is_lt (word_cmp d m) ≡ false)

lesser_keeps : (first : Option (List ℕ)) (x d : List ℕ) → IsFrom first d → IsFrom (lesser first x) d
lesser_keeps first x d from = subst (λ o. IsFrom (lesser o x) d) (sym from.1) (by (is_lt (word_cmp x from.0)) refl)
  where
    by : (b : Bool) → is_lt (word_cmp x from.0) ≡ b → IsFrom (cond b (Some x) (Some from.0)) d
    by true e = (x, refl, not_less_than_lesser d x from.0 from.2 e)
    by false e = (from.0, refl, from.2)

lesser_takes : (first : Option (List ℕ)) (x : List ℕ) → IsFrom (lesser first x) x
lesser_takes None x = (x, refl, not_less_itself x)
lesser_takes (Some m) x = by (is_lt (word_cmp x m)) refl
  where
    by : (b : Bool) → is_lt (word_cmp x m) ≡ b → IsFrom (cond b (Some x) (Some m)) x
    by true e = (x, refl, not_less_itself x)
    by false e = (m, refl, e)

module _ (one other : Config) where
  -- ---- one after the other

  nearer_keeps : (first : Option (List ℕ)) (x d : List ℕ) → IsFrom first d → IsFrom (nearer one other first x) d
  nearer_keeps first x d from = by (is_different one other x)
    where
      by : (b : Bool) → IsFrom (cond b (lesser first x) first) d
      by true = lesser_keeps first x d from
      by false = from

  pub fold_keeps : (xs : List (List ℕ)) (first : Option (List ℕ)) (d : List ℕ) → IsFrom first d → IsFrom (fold (nearer one other) first xs) d
  fold_keeps [] first d from = from
  fold_keeps (x ∷ xs) first d from = fold_keeps xs (nearer one other first x) d (nearer_keeps first x d from)

  fold_takes : (xs : List (List ℕ)) (first : Option (List ℕ)) (d : List ℕ) → is_different one other d ≡ true → list_any (bytes_eq d) xs ≡ true → IsFrom (fold (nearer one other) first xs) d
  fold_takes [] first d differs some = absurd cc
  fold_takes (x ∷ xs) first d differs some = by (bytes_eq d x) refl some (λ h. fold_takes xs (nearer one other first x) d differs h)
    where
      here : d ≡ x → IsFrom (nearer one other first x) d
      here e = subst (λ y. IsFrom (nearer one other first y) d) e (subst (λ b. IsFrom (cond b (lesser first d) first) d) (sym differs) (lesser_takes first d))

      by : (b : Bool) → bytes_eq d x ≡ b → (b || list_any (bytes_eq d) xs) ≡ true → (list_any (bytes_eq d) xs ≡ true → IsFrom (fold (nearer one other) (nearer one other first x) xs) d) → IsFrom (fold (nearer one other) (nearer one other first x) xs) d
      by true e some rest = fold_keeps xs (nearer one other first x) d (here ((bytes_decides d x).0 e))
      by false e some rest = rest some

  abbrev Differs : Option (List ℕ) → Type 0
  Differs o = IfSome o (λ d. is_different one other d ≡ true)

  nearer_differs : (first : Option (List ℕ)) (x : List ℕ) → Differs first → Differs (nearer one other first x)
  nearer_differs first x before = by (is_different one other x) refl
    where
      least : (first : Option (List ℕ)) → is_different one other x ≡ true → Differs first → Differs (lesser first x)
      least None e before = e
      least (Some m) e before = pick (is_lt (word_cmp x m))
        where
          pick : (b : Bool) → Differs (cond b (Some x) (Some m))
          pick true = e
          pick false = before

      by : (b : Bool) → is_different one other x ≡ b → Differs (cond b (lesser first x) first)
      by true e = least first e before
      by false e = before

  fold_differs : (xs : List (List ℕ)) (first : Option (List ℕ)) → Differs first → Differs (fold (nearer one other) first xs)
  fold_differs [] first before = before
  fold_differs (x ∷ xs) first before = fold_differs xs (nearer one other first x) (nearer_differs first x before)

  -- ---- all that are declared

  not_declared : (config : Config) (d : List ℕ) → list_any (bytes_eq d) (map (λ e. e.0) config) ≡ false → flags config d ≡ no_flags
  not_declared [] d none = refl
  not_declared (e ∷ es) d none = by (bytes_eq d e.0) refl none (λ h. not_declared es d h)
    where
      by : (b : Bool) → bytes_eq d e.0 ≡ b → (b || list_any (bytes_eq d) (map (λ x. x.0) es)) ≡ false → (list_any (bytes_eq d) (map (λ x. x.0) es) ≡ false → flags es d ≡ no_flags) → flags (e ∷ es) d ≡ no_flags
      by true h none rest = absurd cc
      by false h none rest = rw h (rest none)

  same_is_same : (d : List ℕ) → flags one d ≡ flags other d → is_different one other d ≡ false
  same_is_same d e = subst (λ (f : DimFlags). (is_one_true (flags one d).hierarchical f.hierarchical || is_one_true (flags one d).multi_valued f.multi_valued || is_one_true (flags one d).require_dim_count f.require_dim_count) ≡ false) e
      (by (flags one d).hierarchical (flags one d).multi_valued (flags one d).require_dim_count)
    where
      by : (a b c : Bool) → (is_one_true a a || is_one_true b b || is_one_true c c) ≡ false
      by true true true = refl
      by true true false = refl
      by true false true = refl
      by true false false = refl
      by false true true = refl
      by false true false = refl
      by false false true = refl
      by false false false = refl

  pub flags_are_same : (d : List ℕ) → is_different one other d ≡ false → flags one d ≡ flags other d
  flags_are_same d e =
      let all = by (flags one d).hierarchical (flags other d).hierarchical (flags one d).multi_valued (flags other d).multi_valued (flags one d).require_dim_count (flags other d).require_dim_count e in
      λ i. record { hierarchical = all.0 i; multi_valued = all.1 i; require_dim_count = all.2 i }
    where
      same : (a b : Bool) → is_one_true a b ≡ false → a ≡ b
      same true true e = refl
      same true false e = absurd cc
      same false true e = absurd cc
      same false false e = refl

      by : (a b c d e f : Bool) → (is_one_true a b || is_one_true c d || is_one_true e f) ≡ false → (a ≡ b) × (c ≡ d) × (e ≡ f)
      by a b c d e f h =
          let last = or_parts (is_one_true a b || is_one_true c d) (is_one_true e f) h in
          let first = or_parts (is_one_true a b) (is_one_true c d) last.0 in
          (same a b first.0, same c d first.1, same e f last.1)

  abbrev pub first_of_both : Option (List ℕ)
  first_of_both = fold (nearer one other) (fold (nearer one other) None (map (λ e. e.0) one)) (map (λ e. e.0) other)

  -- one that differs is not less than the one that was found
  found_first : (d : List ℕ) → is_different one other d ≡ true → IsFrom first_of_both d
  found_first d e = by (list_any (bytes_eq d) (map (λ x. x.0) one)) (list_any (bytes_eq d) (map (λ x. x.0) other)) refl refl
    where
      by : (a b : Bool) → list_any (bytes_eq d) (map (λ x. x.0) one) ≡ a → list_any (bytes_eq d) (map (λ x. x.0) other) ≡ b → IsFrom first_of_both d
      by true b in_one in_other = fold_keeps (map (λ x. x.0) other) (fold (nearer one other) None (map (λ x. x.0) one)) d (fold_takes (map (λ x. x.0) one) None d e in_one)
      by false true in_one in_other = fold_takes (map (λ x. x.0) other) (fold (nearer one other) None (map (λ x. x.0) one)) d e in_other
      by false false in_one in_other = absurd (true≢false (sym e ∙ same_is_same d (not_declared one d in_one ∙ sym (not_declared other d in_other))))

  pub none_differs : first_of_both ≡ None → (d : List ℕ) → flags one d ≡ flags other d
  none_differs none d = by (is_different one other d) refl
    where
      by : (b : Bool) → is_different one other d ≡ b → flags one d ≡ flags other d
      by true e = let from = found_first d e in absurd (none-some from.0 (sym none ∙ from.1))
        where
          none-some : (m : List ℕ) → None ≡ Some m → ⊥
          none-some m e = cc
      by false e = flags_are_same d e

  pub one_differs : (dim : List ℕ) → first_of_both ≡ Some dim → IsFirstDifference one other dim
  one_differs dim some = record {
    differs = λ same. true≢false (sym (subst Differs some (fold_differs (map (λ e. e.0) other) (fold (nearer one other) None (map (λ e. e.0) one)) (fold_differs (map (λ e. e.0) one) None tt))) ∙ same_is_same dim same);
    first = λ d apart. not_before d apart (is_different one other d) refl;
  }
    where
      same_name : (m n : List ℕ) → ◌≡◌ {A = Option (List ℕ)} (Some m) (Some n) → m ≡ n
      same_name m n e = cc

      not_before : (d : List ℕ) → flags one d ≢ flags other d → (b : Bool) → is_different one other d ≡ b → is_lt (word_cmp d dim) ≡ false
      not_before d apart true e =
          let from = found_first d e in
          subst (λ m. is_lt (word_cmp d m) ≡ false) (same_name from.0 dim (sym from.1 ∙ some)) from.2
      not_before d apart false e = absurd (apart (flags_are_same d e))

  -- whatever the names are kept as
  pub when_none : {X : Type 0} (name : X → List ℕ) (o : Option X) → option_map name o ≡ first_of_both → IfNone o ((dim : List ℕ) → flags one dim ≡ flags other dim)
  when_none name None e = none_differs (sym e)
  when_none name (Some x) e = tt

  pub when_some : {X : Type 0} (name : X → List ℕ) (o : Option X) → option_map name o ≡ first_of_both → IfSome o (λ x. IsFirstDifference one other (name x))
  when_some name None e = tt
  when_some name (Some x) e = one_differs (name x) (sym e)

-- ---- two first differences are one

greater_equal : Greater ≡ Equal → ⊥
greater_equal e = cc

greater_less : Greater ≡ Less → ⊥
greater_less e = cc

pub first_alone : (one other : Config) (d e : List ℕ) → IsFirstDifference one other d → IsFirstDifference one other e → d ≡ e
first_alone one other d e first second = by (word_cmp d e) (word_cmp e d) refl refl (second.first d first.differs) (first.first e second.differs)
  where
    by : (o r : Ordering) → word_cmp d e ≡ o → word_cmp e d ≡ r → is_lt (word_cmp d e) ≡ false → is_lt (word_cmp e d) ≡ false → d ≡ e
    by Less r is back low high = absurd (true≢false (sym (ap is_lt is) ∙ low))
    by Equal r is back low high = exact_bytes d e is
    by Greater Less is back low high = absurd (true≢false (sym (ap is_lt back) ∙ high))
    by Greater Equal is back low high = absurd (greater_equal (sym is ∙ nat_list_cmp_total.antisymm d e ∙ ap ordering_reverse back))
    by Greater Greater is back low high = absurd (greater_less (sym is ∙ nat_list_cmp_total.antisymm d e ∙ ap ordering_reverse back))

pub one_difference : OneDifference
one_difference one other found = (to found (first_of_both one other) refl, λ e. subst (IsFoundDifference one other) (sym e) (from (first_of_both one other) refl))
  where
    to : (f o : Option (List ℕ)) → first_of_both one other ≡ o → IsFoundDifference one other f → f ≡ o
    to None None is found = refl
    to None (Some m) is found = absurd ((one_differs one other m is).differs (found.none m))
    to (Some d) None is found = absurd (found.some.differs (none_differs one other is d))
    to (Some d) (Some m) is found = ap Some (first_alone one other d m found.some (one_differs one other m is))

    from : (o : Option (List ℕ)) → first_of_both one other ≡ o → IsFoundDifference one other o
    from None is = record { some = tt; none = none_differs one other is }
    from (Some d) is = record { some = one_differs one other d is; none = tt }
