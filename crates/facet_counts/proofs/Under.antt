-- Ancestors by ordinals are prefixes of paths.
use Rattle.std.proofs.Common.{◌≡◌, ℕ, zero, suc, ◌-◌, ◌<◌, ◌≤◌, ◌⊎◌, Bool, true, false, ◌||◌, List, [], ◌∷◌, length, take, get_or, Some, nat_eq, refl, sym, ap, subst, ◌∙◌, arith, inl, inr}
use Rattle.std.specs.Option.{option_map_or}
use Rattle.std.proofs.lemmas.Bool.{cases_eq, cases_lt, eq-eqb, ne_eqb, false_from_ne_true}
use Rattle.std.proofs.lemmas.List.{take-take, take_all, length-take-le}
use Rattle.std.proofs.lemmas.Option.{same_Some, slice_get-get_or, get_or_from_slice_get}
use Rattle.facet_names.specs.Paths.{path_eq, path_eq_equiv, is_under}
use Rattle.facet_names.specs.Labels.{IsLabelList, above, place}
use Rattle.facet_model.specs.Flags.{Config}
use Rattle.facet_counts.specs.Lists.{is_above}
use Rattle.taxo_list.proofs.Labels.{same_path, place_at, root_first}
use Rattle.facet_counts.proofs.Entries.{has_parent}
use Rattle.taxo_list.proofs.Walked.{root_only}
use Rattle.facet_counts.proofs.Rolling.{above_root}

-- ---- paths

pub under_itself : (q : List (List ℕ)) → is_under q q ≡ true
under_itself q = ap (path_eq q) (take_all (length q) q (omega arith)) ∙ path_eq_equiv.refl q

-- a path that is not the other one is below it where its parent is
pub under_above : (q p : List (List ℕ)) → path_eq p q ≡ false → is_under (above q) p ≡ is_under q p
under_above q p other = by (cases_lt (length q - 1) (length p))
  where
    by : (length q - 1 < length p) ⊎ (length p ≤ length q - 1) → is_under (above q) p ≡ is_under q p
    by (inr short) = ap (path_eq p) (take-take (length p) (length q - 1) q short)
    by (inl long) =
        let whole : take (length p) q ≡ q = take_all (length p) q (omega arith) in
        let size : length (above q) ≡ length q - 1 = length-take-le (length q - 1) q (omega arith) in
        let front : take (length p) (above q) ≡ above q = take_all (length p) (above q) (omega arith) in
        let apart : path_eq p (above q) ≡ false = false_from_ne_true (path_eq p (above q)) (λ e. absurd (omega (arith, ap length (same_path p (above q) e)))) in
        ap (path_eq p) front ∙ apart ∙ sym (ap (path_eq p) whole ∙ other)

-- nothing that has a component is above the root
pub root_under : (p : List (List ℕ)) → 0 < length p → is_under [] p ≡ false
root_under [] some = absurd (omega arith)
root_under (part ∷ p) some = refl

module _ (config : Config) (labels : List (List (List ℕ))) (is : IsLabelList labels) where
  pub some_part : (i : ℕ) → 0 < i → i < length labels → 0 < length (get_or labels i [])
  some_part i some lt = by (get_or labels i []) refl
    where
      by : (p : List (List ℕ)) → get_or labels i [] ≡ p → 0 < length (get_or labels i [])
      by [] e = let zero_is : i ≡ 0 = root_only labels is i (slice_get-get_or labels i [] lt ∙ ap Some e) in absurd (omega arith)
      by (part ∷ p) e = subst (λ q. 0 < length q) (sym e) (omega arith)

  -- other ordinals have other labels
  pub other_label : (i j : ℕ) → i < length labels → j < length labels → (i ≡ j → ⊥) → path_eq (get_or labels i []) (get_or labels j []) ≡ false
  other_label i j low lt apart = false_from_ne_true (path_eq (get_or labels i []) (get_or labels j [])) same
    where
      same : path_eq (get_or labels i []) (get_or labels j []) ≡ true → ⊥
      same e = apart (same_Some i j (sym (place_at labels is i (get_or labels i []) (slice_get-get_or labels i [] low)) ∙ ap (place labels) (same_path (get_or labels i []) (get_or labels j []) e) ∙ place_at labels is j (get_or labels j []) (slice_get-get_or labels j [] lt)))

  -- an ordinal is the other one or among its ancestors exactly where its label is a prefix
  pub above_is_under : (n i j : ℕ) → 0 < i → i < length labels → j ≤ n → j < length labels → is_above labels n i j ≡ is_under (get_or labels j []) (get_or labels i [])
  above_is_under zero i j some low few lt = at_root j (omega arith)
    where
      at_root : (j : ℕ) → j ≡ 0 → nat_eq i j ≡ is_under (get_or labels j []) (get_or labels i [])
      at_root j e =
          let root : get_or labels j [] ≡ [] = ap (λ k. get_or labels k []) e ∙ root_first labels is [] in
          ne_eqb i j (λ same. absurd (omega arith)) ∙ sym (ap (λ q. is_under q (get_or labels i [])) root ∙ root_under (get_or labels i []) (some_part i some low))
  above_is_under (suc n) i zero some low few lt = above_root config labels is (suc n) i some ∙ sym (ap (λ q. is_under q (get_or labels i [])) (root_first labels is []) ∙ root_under (get_or labels i []) (some_part i some low))
  above_is_under (suc n) i (suc j) some low few lt =
      let parent = has_parent labels is (suc j) (omega arith) lt in
      let rest : is_above labels n i parent.0 ≡ is_under (above (get_or labels (suc j) [])) (get_or labels i []) =
      above_is_under n i parent.0 some low (omega (arith, parent.1)) (omega (arith, parent.1)) ∙ ap (λ q. is_under q (get_or labels i [])) (get_or_from_slice_get labels parent.0 (above (get_or labels (suc j) [])) [] parent.3) in
      ap (λ o. nat_eq i (suc j) || option_map_or (is_above labels n i) o false) parent.2 ∙ ap (λ b. nat_eq i (suc j) || b) rest ∙ by (cases_eq i (suc j))
    where
      or_true : (a : Bool) (b : Bool) → a ≡ true → (a || b) ≡ true
      or_true a b e = ap (λ a. a || b) e

      by : (i ≡ suc j) ⊎ (i ≡ suc j → ⊥) → (nat_eq i (suc j) || is_under (above (get_or labels (suc j) [])) (get_or labels i [])) ≡ is_under (get_or labels (suc j) []) (get_or labels i [])
      by (inl same) = or_true (nat_eq i (suc j)) (is_under (above (get_or labels (suc j) [])) (get_or labels i [])) (eq-eqb i (suc j) same) ∙ sym (ap (λ k. is_under (get_or labels (suc j) []) (get_or labels k [])) same ∙ under_itself (get_or labels (suc j) []))
      by (inr apart) = ap (λ a. a || is_under (above (get_or labels (suc j) [])) (get_or labels i [])) (ne_eqb i (suc j) apart) ∙ under_above (get_or labels (suc j) []) (get_or labels i []) (other_label i (suc j) low lt apart)
