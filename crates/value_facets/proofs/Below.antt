-- The walk over the children of a label, and which of them it has passed.
use Rattle.std.proofs.Common.{◌≡◌, ℕ, suc, ◌<◌, ◌≤◌, ◌⊎◌, inl, inr, true, false, true≢false, Bool, List, [], length, Option, Some, None, nat_eq, sym, ap, subst, ◌∙◌, arith, rules, get_or, slice_get}
use Rattle.std.specs.Prelude.{IfNone, IfSome, is_some}
use Rattle.std.specs.Option.{option_map_or}
use Rattle.std.proofs.lemmas.Bool.{cases_lt, eq-eqb}
use Rattle.facet_names.specs.Arrays.{greatest, is_child, child_at, parent_at, sibling_at}
use Rattle.facet_names.specs.Labels.{place, stands}
use Rattle.facet_names.specs.Paths.{path_eq, path_eq_equiv}
use Rattle.facet_names.proofs.LabelLists.{label_at, none_at}
use Rattle.std.proofs.lemmas.Option.{get_or_from_slice_get, slice_get_within}
use Rattle.facet_names.proofs.Greatest.{IsGreatest, greatest_is, greatest_passes}
use Rattle.facet_counts.proofs.Walk.{sibling_is}

-- all from here on are passed
abbrev pub bound : Option ℕ → ℕ
bound next = option_map_or suc next 0

-- the greatest that passes is at least each that does
most : (passes : ℕ → Bool) (n q : ℕ) → q < n → passes q ≡ true → q < bound (greatest passes n)
most passes n q low passed = by (greatest passes n) (greatest_is passes n)
  where
    by : (o : Option ℕ) → IsGreatest passes n o → q < bound o
    by None is = absurd (true≢false (sym passed ∙ is q low))
    by (Some k) is = order (cases_lt k q)
      where
        order : (k < q) ⊎ (q ≤ k) → q < suc k
        order (inl over) = absurd (true≢false (sym passed ∙ is.2 q over low))
        order (inr under) = omega (arith, under)

-- a number in place of the parent
pub child_of_parent : (labels : List (List (List ℕ))) (p q : ℕ) → parent_at labels q ≡ Some p → is_child labels p q ≡ true
child_of_parent labels p q parent = ap (λ o. option_map_or (nat_eq p) o false) parent ∙ eq-eqb p p (λ _. p)

module _ (labels : List (List (List ℕ))) (ord : ℕ) where
  abbrev pub IsNext : Option ℕ → Type 0
  IsNext next = IfSome next (λ c. (c < length labels) × (is_child labels ord c ≡ true))

  pub next_first : (o : Option ℕ) → o ≡ child_at labels ord → IsNext o
  next_first o is = subst IsNext (sym is) (greatest_passes (is_child labels ord) (length labels))

  -- none is passed at first
  pub none_passed : (o : Option ℕ) (q : ℕ) → o ≡ child_at labels ord → q < length labels → is_child labels ord q ≡ true → bound o ≤ q → ⊥
  none_passed o q is lt child past = omega (arith, past, subst (λ o. q < bound o) (sym is) (most (is_child labels ord) (length labels) q lt child))

  module _ (c : ℕ) (here : IsNext (Some c)) (o : Option ℕ) (is : o ≡ sibling_at labels c) where
    next : o ≡ greatest (is_child labels ord) c
    next = is ∙ sibling_is labels [] ord c here.1

    goes : (o : Option ℕ) → IfSome o (λ s. (s < c) × (is_child labels ord s ≡ true)) → IsNext o × (bound o < suc c)
    goes None at = (at, omega arith)
    goes (Some s) at = ((omega (arith, at.0, here.0), at.1), omega (arith, at.0))

    gone : IsNext o × (bound o < suc c)
    gone = goes o (subst (λ o. IfSome o (λ s. (s < c) × (is_child labels ord s ≡ true))) (sym next) (greatest_passes (is_child labels ord) c))

    pub next_more : IsNext o
    next_more = gone.0

    pub next_smaller : bound o < suc c
    next_smaller = gone.1

    -- each other that is passed then was passed before
    pub passed_before : (q : ℕ) → is_child labels ord q ≡ true → bound o ≤ q → (q ≡ c → ⊥) → suc c ≤ q
    passed_before q child past apart = by (cases_lt q c)
      where
        by : (q < c) ⊎ (c ≤ q) → suc c ≤ q
        by (inl low) = absurd (omega (arith, past, subst (λ o. q < bound o) (sym next) (most (is_child labels ord) c q low child)))
        by (inr high) = omega (arith, high, apart)

-- ---- looking for a path

-- a path that is found is the label there
pub found : (labels : List (List (List ℕ))) (path : List (List ℕ)) (o : Option ℕ) → o ≡ place labels path → IfSome o (λ ord. slice_get labels ord ≡ Some path)
found labels path None is = search rules
found labels path (Some k) is = label_at labels k path (sym is)

-- one that is not found is no label
pub missed : (labels : List (List (List ℕ))) (path : List (List ℕ)) (o : Option ℕ) → is_some o ≡ stands labels path → IfNone o ((ord : ℕ) → slice_get labels ord ≡ Some path → ⊥)
missed labels path None there = λ ord at.
    let here : path_eq path (get_or labels ord []) ≡ true = ap (path_eq path) (get_or_from_slice_get labels ord path [] at) ∙ path_eq_equiv.refl path in
    true≢false (sym here ∙ none_at (path_eq path) labels ord [] (slice_get_within labels ord path at) (sym there))
missed labels path (Some k) there = search rules
