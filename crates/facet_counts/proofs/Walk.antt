-- The walk over the children of a label.
use Rattle.std.proofs.Common.{◌≡◌, ℕ, zero, suc, ◌<◌, ◌≤◌, Bool, true, false, cond, List, [], ◌∷◌, ◌++◌, length, get_or, Option, Some, None, nat_eq, refl, sym, ap, ◌∙◌, arith}
use Rattle.std.specs.Prelude.{IfSome, nat_lt, option_and_then}
use Rattle.std.specs.Option.{option_map_or}
use Rattle.std.proofs.lemmas.Bool.{true≢false, eqb-true}
use Rattle.std.proofs.lemmas.List.{append_assoc}
use Rattle.facet_names.specs.Arrays.{greatest, is_child, parent_at, child_at, sibling_at}
use Rattle.facet_model.specs.Listing.{PartCount}
use Rattle.facet_counts.specs.Children.{falling, entry_of, entries_of, children_at}

-- from this child on
abbrev pub children_from : List (List (List ℕ)) → List ℕ → ℕ → Option ℕ → List PartCount
children_from labels totals ord None = []
children_from labels totals ord (Some c) = entries_of labels totals (c ∷ falling (is_child labels ord) c)

pub parent_of_child : (labels : List (List (List ℕ))) (i c : ℕ) → is_child labels i c ≡ true → parent_at labels c ≡ Some i
parent_of_child labels i c child = by (parent_at labels c) refl child
  where
    by : (o : Option ℕ) → parent_at labels c ≡ o → option_map_or (nat_eq i) o false ≡ true → parent_at labels c ≡ Some i
    by None e t = absurd (true≢false (sym t))
    by (Some p) e t = e ∙ ap Some (sym (eqb-true i p t))

module _ (labels : List (List (List ℕ))) (totals : List ℕ) (ord : ℕ) where
  entries_cons : (c : ℕ) (cs : List ℕ) → entries_of labels totals (c ∷ cs) ≡ entries_of labels totals (c ∷ []) ++ entries_of labels totals cs
  entries_cons c cs = by (nat_lt 0 (get_or totals c 0))
    where
      by : (b : Bool) → cond b (entry_of labels totals c ∷ entries_of labels totals cs) (entries_of labels totals cs) ≡ cond b (entry_of labels totals c ∷ []) [] ++ entries_of labels totals cs
      by true = refl
      by false = refl

  -- from the greatest on is all
  from_greatest : (n : ℕ) → children_from labels totals ord (greatest (is_child labels ord) n) ≡ entries_of labels totals (falling (is_child labels ord) n)
  unfolding greatest
  from_greatest zero = refl
  from_greatest (suc n) = by (is_child labels ord n) (from_greatest n)
    where
      by : (b : Bool) → children_from labels totals ord (greatest (is_child labels ord) n) ≡ entries_of labels totals (falling (is_child labels ord) n)
          → children_from labels totals ord (cond b (Some n) (greatest (is_child labels ord) n)) ≡ entries_of labels totals (cond b (n ∷ falling (is_child labels ord) n) (falling (is_child labels ord) n))
      by true rest = refl
      by false rest = rest

  pub walk_starts : children_from labels totals ord (child_at labels ord) ≡ children_at labels totals ord
  walk_starts = from_greatest (length labels)

  -- the sibling of a child is the greatest child below it
  pub sibling_is : (c : ℕ) → is_child labels ord c ≡ true → sibling_at labels c ≡ greatest (is_child labels ord) c
  sibling_is c child = ap (option_and_then (λ p. greatest (is_child labels p) c)) (parent_of_child labels ord c child)

  pub walk_goes_on : (c : ℕ) → is_child labels ord c ≡ true → (done more all : List PartCount) → done ++ children_from labels totals ord (Some c) ≡ all → more ≡ done ++ entries_of labels totals (c ∷ []) → more ++ children_from labels totals ord (sibling_at labels c) ≡ all
  walk_goes_on c child done more all so_far noted =
      (λ t. noted t ++ children_from labels totals ord (sibling_is c child t))
      ∙ ap (λ l. (done ++ entries_of labels totals (c ∷ [])) ++ l) (from_greatest c)
      ∙ append_assoc done (entries_of labels totals (c ∷ [])) (entries_of labels totals (falling (is_child labels ord) c))
      ∙ ap (λ l. done ++ l) (sym (entries_cons c (falling (is_child labels ord) c)))
      ∙ so_far

  falling_few : (passes : ℕ → Bool) (n : ℕ) → length (falling passes n) ≤ n
  falling_few passes zero = omega arith
  falling_few passes (suc n) = by (passes n) (falling_few passes n)
    where
      by : (b : Bool) → length (falling passes n) ≤ n → length (cond b (n ∷ falling passes n) (falling passes n)) ≤ suc n
      by true few = omega arith
      by false few = omega arith

  entries_few : (cs : List ℕ) → length (entries_of labels totals cs) ≤ length cs
  entries_few [] = omega arith
  entries_few (c ∷ cs) = by (nat_lt 0 (get_or totals c 0)) (entries_few cs)
    where
      by : (b : Bool) → length (entries_of labels totals cs) ≤ length cs → length (cond b (entry_of labels totals c ∷ entries_of labels totals cs) (entries_of labels totals cs)) ≤ suc (length cs)
      by true few = omega arith
      by false few = omega arith

  pub children_few : length (children_at labels totals ord) ≤ length labels
  children_few = omega (arith, entries_few (falling (is_child labels ord) (length labels)), falling_few (is_child labels ord) (length labels))

-- the walk comes to smaller ordinals
pub smaller_next : (o : Option ℕ) (c : ℕ) → IfSome o (λ s. s < c) → option_map_or suc o 0 < suc c
smaller_next None c below = omega arith
smaller_next (Some s) c below = omega arith
