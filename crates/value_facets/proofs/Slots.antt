-- The numbers of labels, and which labels have one.
use Rattle.std.proofs.Common.{◌≡◌, ℕ, ◌<◌, ◌≤◌, ◌==◌, ◌⊎◌, inl, inr, ℤ, Bool, true, false, true≢false, not, cond, List, [], ◌∷◌, length, replicate, set, get_or, slice_get, Option, Some, None, refl, sym, ap, subst, ◌∙◌, arith, All}
use Rattle.std.specs.Prelude.{MatchOption}
use Rattle.std.specs.Str.{bytes_eq}
use Rattle.std.specs.Cmp.Lexicographic.{bytes_decides}
use Rattle.std.proofs.lemmas.Bool.{cases_eq, cases_lt}
use Rattle.std.proofs.lemmas.List.{get_or-replicate, get_or-set_other, get_or-set_same, length-replicate, length-set}
use Rattle.std.proofs.lemmas.List.Elements.{All-replicate, All-set}
use Rattle.std.proofs.lemmas.Option.{get_or_from_slice_get, same_Some, slice_get-get_or}
use Rattle.facet_names.specs.Arrays.{child_at, is_child, sibling_at}
use Rattle.facet_names.specs.Labels.{IsLabelList, above}
use Rattle.taxo_list.proofs.Labels.{place_at, root_first}
use Rattle.facet_counts.proofs.Entries.{has_parent}
use Rattle.number_facets.specs.Numbers.{number_of}
use Rattle.number_facets.specs.Values.{value_at}
use Rattle.value_facets.specs.Cuts.{IsRank}
use Rattle.value_facets.specs.Marking.{AreSlots, IsSlot}
use Rattle.value_facets.proofs.Below.{IsNext, bound, child_of_parent, none_passed, passed_before}

pub shown : (b : Bool) → false ≡ not b → b ≡ true
shown true e = refl
shown false e = absurd (true≢false (sym e))

-- the value of a label of two components
pub value_of : (dim : List ℕ) (label : List (List ℕ)) (d text : List ℕ) → length label ≡ 2 → slice_get label 0 ≡ Some d → bytes_eq d dim ≡ true → slice_get label 1 ≡ Some text → value_at dim label ≡ number_of text
value_of dim [] d text two first same second = absurd (omega (arith, two))
value_of dim (a ∷ []) d text two first same second = absurd (omega (arith, two))
value_of dim (a ∷ b ∷ []) d text two first same second =
    (λ i. cond (bytes_eq (same_Some a d first i) dim) (number_of (same_Some b text second i)) None) ∙ ap (λ t. cond t (number_of text) None) same
value_of dim (a ∷ b ∷ more ∷ rest) d text two first same second = absurd (omega (arith, two))

-- a label of fewer or more components has none
pub value_short : (dim : List ℕ) (label : List (List ℕ)) → (length label == 2) ≡ false → value_at dim label ≡ None
value_short dim [] e = refl
value_short dim (a ∷ []) e = refl
value_short dim (a ∷ b ∷ []) e = absurd (true≢false e)
value_short dim (a ∷ b ∷ more ∷ rest) e = refl

-- nor has one of another dimension
pub value_other : (dim : List ℕ) (label : List (List ℕ)) (d : List ℕ) → slice_get label 0 ≡ Some d → true ≡ not (bytes_eq d dim) → value_at dim label ≡ None
value_other dim [] d first e = refl
value_other dim (a ∷ []) d first e = refl
value_other dim (a ∷ b ∷ []) d first e = (λ i. cond (bytes_eq (same_Some a d first i) dim) (number_of b) None) ∙ ap (λ t. cond t (number_of b) None) (by (bytes_eq d dim) e)
  where
    by : (t : Bool) → true ≡ not t → t ≡ false
    by true h = absurd (true≢false h)
    by false h = refl
value_other dim (a ∷ b ∷ more ∷ rest) d first e = refl

-- a label with a value
pub value_parts : (dim : List ℕ) (label : List (List ℕ)) (v : ℤ) → value_at dim label ≡ Some v → (text : List ℕ) × (label ≡ dim ∷ text ∷ []) × (number_of text ≡ Some v)
value_parts dim [] v is = absurd cc
value_parts dim (d ∷ []) v is = absurd cc
value_parts dim (d ∷ text ∷ []) v is = by (bytes_eq d dim) refl is
  where
    by : (b : Bool) → bytes_eq d dim ≡ b → cond b (number_of text) None ≡ Some v → (t : List ℕ) × (d ∷ text ∷ [] ≡ dim ∷ t ∷ []) × (number_of t ≡ Some v)
    by true e has = (text, ap (λ (x : List ℕ). x ∷ text ∷ []) ((bytes_decides d dim).0 e), has)
    by false e has = absurd cc
value_parts dim (d ∷ text ∷ more ∷ rest) v is = absurd cc

module _ (labels : List (List (List ℕ))) (dim : List ℕ) (cuts : List ℤ) (ord : ℕ) where
  pub slot_some : (label : List (List ℕ)) (v : ℤ) (rank : ℕ) → slice_get labels ord ≡ Some label → value_at dim label ≡ Some v → IsRank cuts v rank → IsSlot labels dim cuts ord rank
  slot_some label v rank here is ranked = subst (λ o. MatchOption o (rank ≡ 0) (λ n. IsRank cuts n rank)) (sym (ap (value_at dim) (get_or_from_slice_get labels ord label [] here) ∙ is)) ranked

  pub slot_none : (label : List (List ℕ)) → slice_get labels ord ≡ Some label → value_at dim label ≡ None → IsSlot labels dim cuts ord 0
  slot_none label here is = subst (λ o. MatchOption o (◌≡◌ {A = ℕ} 0 0) (λ n. IsRank cuts n 0)) (sym (ap (value_at dim) (get_or_from_slice_get labels ord label [] here) ∙ is)) refl

  -- a label that is not below the dimension has no value
  pub slot_elsewhere : IsLabelList labels → ord < length labels → ((p : ℕ) → slice_get labels p ≡ Some (dim ∷ []) → is_child labels p ord ≡ true → ⊥) → IsSlot labels dim cuts ord 0
  slot_elsewhere is lt apart = by (value_at dim label) refl (cases_lt 0 ord)
    where
      label : List (List ℕ)
      label = get_or labels ord []

      here : slice_get labels ord ≡ Some label
      here = slice_get-get_or labels ord [] lt

      by : (o : Option ℤ) → value_at dim label ≡ o → (0 < ord) ⊎ (ord ≤ 0) → IsSlot labels dim cuts ord 0
      by None e at = slot_none label here e
      by (Some v) e (inl some) =
          let parts = value_parts dim label v e in
          let parent = has_parent labels is ord some lt in
          absurd (apart parent.0 (parent.3 ∙ ap (λ p. Some (above p)) parts.1) (child_of_parent labels parent.0 ord parent.2))
      by (Some v) e (inr none) =
          let parts = value_parts dim label v e in
          let root : ord ≡ 0 = omega (arith, none) in
          absurd (let long : length label ≡ 2 = ap length parts.1 in let short : length label ≡ 0 = ap (λ k. length (get_or labels k [])) root ∙ ap length (root_first labels is []) in omega (arith, long, short))

-- ---- all slots

-- without the dimension all are the first
pub slots_without : (labels : List (List (List ℕ))) (dim : List ℕ) (cuts : List ℤ) (slots : List ℕ) → IsLabelList labels → ((p : ℕ) → slice_get labels p ≡ Some (dim ∷ []) → ⊥) → slots ≡ replicate (length labels) 0 → AreSlots labels dim cuts slots
slots_without labels dim cuts slots is none zeros = subst (AreSlots labels dim cuts) (sym zeros) (record {
  as_many = length-replicate (length labels) 0;
  each = λ q lt. subst (IsSlot labels dim cuts q) (sym (get_or-replicate (length labels) q 0 0 lt)) (slot_elsewhere labels dim cuts q is lt (λ p at child. none p at));
  within = All-replicate (λ slot. slot ≤ length cuts) (length labels) 0 (omega arith);
})

-- The labels below the dimension that the walk has passed have their slots. All other slots are the first.
pub record AreSlotsFrom (labels : List (List (List ℕ))) (dim : List ℕ) (cuts : List ℤ) (ord : ℕ) (next : Option ℕ) (slots : List ℕ) : Type 0 where
  pub as_many : length slots ≡ length labels
  pub each : (q : ℕ) → q < length labels → (is_child labels ord q ≡ true → bound next ≤ q) → IsSlot labels dim cuts q (get_or slots q 0)
  pub within : All (λ slot. slot ≤ length cuts) slots

module _ (labels : List (List (List ℕ))) (is : IsLabelList labels) (dim : List ℕ) (cuts : List ℤ) (ord : ℕ) (here : slice_get labels ord ≡ Some (dim ∷ [])) where
  pub slots_begin : (next : Option ℕ) (slots : List ℕ) → next ≡ child_at labels ord → slots ≡ replicate (length labels) 0 → AreSlotsFrom labels dim cuts ord next slots
  slots_begin next slots first zeros = subst (AreSlotsFrom labels dim cuts ord next) (sym zeros) (record {
    as_many = length-replicate (length labels) 0;
    each = λ q lt past. subst (IsSlot labels dim cuts q) (sym (get_or-replicate (length labels) q 0 0 lt)) (slot_elsewhere labels dim cuts q is lt (λ p at child.
        let same : p ≡ ord = same_Some p ord (sym (place_at labels is p (dim ∷ []) at) ∙ place_at labels is ord (dim ∷ []) here) in
        let below : is_child labels ord q ≡ true = ap (λ k. is_child labels k q) (sym same) ∙ child in
        none_passed labels ord next q first lt below (past below)));
    within = All-replicate (λ slot. slot ≤ length cuts) (length labels) 0 (omega arith);
  })

  pub slots_next : (c : ℕ) (next : Option ℕ) (old new : List ℕ) (slot : ℕ) → IsNext labels ord (Some c) → next ≡ sibling_at labels c → AreSlotsFrom labels dim cuts ord (Some c) old → IsSlot labels dim cuts c slot → slot ≤ length cuts → new ≡ set old c slot
      → AreSlotsFrom labels dim cuts ord next new
  slots_next c next old new slot at goes are one low noted = subst (AreSlotsFrom labels dim cuts ord next) (sym noted) (record {
    as_many = length-set old c slot ∙ are.as_many;
    each = λ q lt past. by q lt past (cases_eq q c);
    within = All-set (λ slot. slot ≤ length cuts) old c slot low are.within;
  })
    where
      by : (q : ℕ) → q < length labels → (is_child labels ord q ≡ true → bound next ≤ q) → (q ≡ c) ⊎ (q ≡ c → ⊥) → IsSlot labels dim cuts q (get_or (set old c slot) q 0)
      by q lt past (inl same) = subst (λ k. IsSlot labels dim cuts k (get_or (set old c slot) k 0)) (sym same) (subst (IsSlot labels dim cuts c) (sym (get_or-set_same old c slot 0 (omega (arith, at.0, are.as_many)))) one)
      by q lt past (inr apart) = subst (IsSlot labels dim cuts q) (sym (get_or-set_other old c q slot 0 apart)) (are.each q lt (λ child. passed_before labels ord c at next goes q child (past child) apart))
