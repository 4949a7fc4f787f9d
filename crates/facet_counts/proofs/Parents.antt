-- A label has the dimension of its parent, so both are rolled up or neither is.
use Rattle.std.proofs.Common.{◌≡◌, ℕ, zero, suc, ◌-◌, ◌<◌, ◌≤◌, ◌⊎◌, Bool, true, false, List, [], ◌∷◌, length, take, get_or, slice_get, Option, Some, None, nat_eq, refl, sym, ap, ◌∙◌, arith, rules, inl, inr}
use Rattle.std.specs.Option.{option_map_or}
use Rattle.std.specs.Prelude.{◌&&◌, not, nat_le, IfSome, option_and_then}
use Rattle.std.proofs.lemmas.Bool.{eqb-true, or_cases, and_parts, cases_lt, true≢false}
use Rattle.std.proofs.lemmas.Option.{none-some, same_Some, get_or_from_slice_get, slice_get_past}
use Rattle.facet_names.specs.Labels.{IsLabelList, above, place}
use Rattle.facet_names.specs.Arrays.{parent_at}
use Rattle.facet_model.specs.Flags.{Config, flags}
use Rattle.facet_model.specs.Documents.{dim_of}
use Rattle.facet_counts.specs.Lists.{dim_at, is_rolled}
use Rattle.facet_counts.specs.Climbs.{below_root, next_of, goes_to, climbs}
use Rattle.taxo_list.proofs.Walked.{root_only}
use Rattle.facet_counts.proofs.Entries.{has_parent}

-- a path has the dimension of the one above it, where that is not the root
dim_above : (path : List (List ℕ)) → (above path ≡ [] → ⊥) → dim_of (above path) ≡ dim_of path
dim_above [] apart = absurd (apart refl)
dim_above (part ∷ []) apart = absurd (apart (ap (λ n. take n (part ∷ [])) none))
  where
    none : suc zero - 1 ≡ 0
    none = omega arith
dim_above (part ∷ next ∷ path) apart = ap (λ n. dim_of (take n (part ∷ next ∷ path))) more
  where
    more : suc (suc (length path)) - 1 ≡ suc (length path)
    more = omega arith

module _ (config : Config) (labels : List (List (List ℕ))) (is : IsLabelList labels) where
  -- the dimension of a parent that is not the root
  pub parent_dim : (k p : ℕ) → 0 < k → k < length labels → parent_at labels k ≡ Some p → 0 < p → dim_at labels p ≡ dim_at labels k
  parent_dim k p some within goes below =
      let parent = has_parent labels is k some within in
      let same : parent.0 ≡ p = same_Some parent.0 p (sym parent.2 ∙ goes) in
      let at : slice_get labels p ≡ Some (above (get_or labels k [])) = ap (slice_get labels) (sym same) ∙ parent.3 in
      let apart : above (get_or labels k []) ≡ [] → ⊥ = λ e. let zero_is : p ≡ 0 = root_only labels is p (at ∙ ap Some e) in absurd (omega arith) in
      ap dim_of (get_or_from_slice_get labels p (above (get_or labels k [])) [] at) ∙ dim_above (get_or labels k []) apart

  pub parent_rolled : (k p : ℕ) → 0 < k → k < length labels → parent_at labels k ≡ Some p → 0 < p → is_rolled config labels p ≡ is_rolled config labels k
  parent_rolled k p some within goes below = ap (λ dim. (flags config dim).hierarchical && not (flags config dim).multi_valued) (parent_dim k p some within goes below)

  -- ---- what a count goes to

  -- nothing goes on from the root, or from past the labels
  goes_within : (k p : ℕ) → goes_to config labels k ≡ Some p → (0 < k) × (k < length labels) × (is_rolled config labels k ≡ true) × (parent_at labels k ≡ Some p) × (0 < p)
  goes_within k p goes = by (is_rolled config labels k) refl goes
    where
      from_parent : (o : Option ℕ) → option_and_then below_root o ≡ Some p → (o ≡ Some p) × (0 < p)
      from_parent None e = absurd cc
      from_parent (Some zero) e = absurd cc
      from_parent (Some (suc n)) e = let same : suc n ≡ p = same_Some (suc n) p e in (ap Some same, omega arith)

      inside : (k : ℕ) → parent_at labels k ≡ Some p → (0 < k) × (k < length labels)
      inside zero e = absurd cc
      inside (suc k) e = (omega arith, within (cases_lt (suc k) (length labels)))
        where
          within : (suc k < length labels) ⊎ (length labels ≤ suc k) → suc k < length labels
          within (inl low) = low
          within (inr past) = absurd (none-some p (sym (ap (option_and_then (λ path. place labels (above path))) (slice_get_past labels (suc k) past)) ∙ e))

      by : (b : Bool) → is_rolled config labels k ≡ b → next_of b labels k ≡ Some p → (0 < k) × (k < length labels) × (is_rolled config labels k ≡ true) × (parent_at labels k ≡ Some p) × (0 < p)
      by true rolled goes = let parent = from_parent (parent_at labels k) goes in let at = inside k parent.0 in (at.0, at.1, rolled, parent.0, parent.1)
      by false rolled goes = absurd cc

  pub goes_smaller : (k : ℕ) → IfSome (goes_to config labels k) (λ p. p < k)
  goes_smaller k = by (goes_to config labels k) refl
    where
      by : (o : Option ℕ) → goes_to config labels k ≡ o → IfSome o (λ p. p < k)
      by None e = search rules
      by (Some p) e =
          let at = goes_within k p e in
          let parent = has_parent labels is k at.0 at.1 in
          omega (arith, parent.1, same_Some parent.0 p (sym parent.2 ∙ at.3))

  pub goes_dim : (k p : ℕ) → goes_to config labels k ≡ Some p → (dim_at labels p ≡ dim_at labels k) × (is_rolled config labels k ≡ true) × (is_rolled config labels p ≡ true) × (0 < k) × (k < length labels) × (0 < p) × (parent_at labels k ≡ Some p)
  goes_dim k p goes =
      let at = goes_within k p goes in
      (parent_dim k p at.0 at.1 at.3 at.4, at.2, parent_rolled k p at.0 at.1 at.3 at.4 ∙ at.2, at.0, at.1, at.4, at.3)

  -- a count goes on within its dimension
  pub climbs_dim : (first i n j : ℕ) → climbs (goes_to config labels) first n i j ≡ true → dim_at labels i ≡ dim_at labels j
  climbs_dim first i zero j climbs_to = ap (dim_at labels) (eqb-true i j climbs_to)
  climbs_dim first i (suc n) j climbs_to = by (goes_to config labels j) refl (or_cases (nat_eq i j) (nat_le first j && option_map_or (climbs (goes_to config labels) first n i) (goes_to config labels j) false) climbs_to) (λ p e. climbs_dim first i n p e)
    where
      by : (o : Option ℕ) → goes_to config labels j ≡ o → (nat_eq i j ≡ true) ⊎ ((nat_le first j && option_map_or (climbs (goes_to config labels) first n i) (goes_to config labels j) false) ≡ true) → ((p : ℕ) → climbs (goes_to config labels) first n i p ≡ true → dim_at labels i ≡ dim_at labels p) → dim_at labels i ≡ dim_at labels j
      by o goes (inl e) again = ap (dim_at labels) (eqb-true i j e)
      by None goes (inr e) again = absurd (true≢false (sym (and_parts (nat_le first j) (option_map_or (climbs (goes_to config labels) first n i) (goes_to config labels j) false) e).1 ∙ ap (λ o. option_map_or (climbs (goes_to config labels) first n i) o false) goes))
      by (Some p) goes (inr e) again = again p (sym (ap (λ o. option_map_or (climbs (goes_to config labels) first n i) o false) goes) ∙ (and_parts (nat_le first j) (option_map_or (climbs (goes_to config labels) first n i) (goes_to config labels j) false) e).1) ∙ (goes_dim j p goes).0
