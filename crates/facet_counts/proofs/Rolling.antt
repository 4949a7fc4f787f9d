-- Rolling up one label's count after another gives how many lists count for each ordinal.
use Rattle.std.proofs.Common.{◌≡◌, ℕ, zero, suc, ◌+◌, ◌<◌, ◌⊎◌, Bool, true, false, not, ◌&&◌, ◌||◌, cond, List, [], ◌∷◌, length, get_or, Option, Some, None, nat_eq, refl, sym, ap, subst, ◌∙◌, arith, inl, inr}
use Rattle.std.specs.Prelude.{IfSome, nat_le, count_by, All, option_and_then}
use Rattle.std.specs.Option.{option_map_or}
use Rattle.std.specs.List.{list_any}
use Rattle.std.proofs.lemmas.Bool.{cases_order, ne_eqb, le-leb, true≢false, and_parts}
use Rattle.std.proofs.lemmas.List.Sums.{sum_by-cons}
use Rattle.facet_names.specs.Labels.{IsLabelList}
use Rattle.facet_names.specs.Arrays.{parent_at}
use Rattle.facet_model.specs.Flags.{Config, flags}
use Rattle.facet_counts.specs.Lists.{dim_at, is_rolled, is_above, counts_for, lists_at, IsCounted}
use Rattle.facet_counts.specs.Climbs.{climbs, climbed, goes_to, next_of, below_root}
use Rattle.taxo_list.proofs.Labels.{place_of}
use Rattle.facet_counts.proofs.Entries.{has_parent}
use Rattle.facet_counts.proofs.Climbing.{no_step, one_end, reaches}
use Rattle.facet_counts.proofs.Parents.{goes_smaller, goes_dim, climbs_dim, parent_rolled}
use Rattle.std.proofs.Math.Bool.{and-false, or-false}

-- two tests that agree on each element agree on the list, and on how many lists pass
alike : (p q : ℕ → Bool) (list : List ℕ) → All (λ j. p j ≡ q j) list → list_any p list ≡ list_any q list
alike p q [] each = refl
alike p q (j ∷ list) each = λ t. each 0 j (omega arith) t || alike p q list (λ k d lt. each (suc k) d (omega arith)) t

count_alike : (p q : List ℕ → Bool) (lists : List (List ℕ)) → All (λ l. p l ≡ q l) lists → count_by p lists ≡ count_by q lists
count_alike p q [] each = refl
count_alike p q (l ∷ lists) each =
    sum_by-cons (λ l. cond (p l) 1 0) l lists ∙ (λ t. cond (each 0 l (omega arith) t) 1 0 + count_alike p q lists (λ k d lt. each (suc k) d (omega arith)) t) ∙ sym (sum_by-cons (λ l. cond (q l) 1 0) l lists)

module _ (config : Config) (labels : List (List (List ℕ))) (is : IsLabelList labels) where
  -- ---- no list is counted twice

  -- Of a list that may be counted, no ordinals reach both an ordinal and the parent to which its count goes.
  pub apart : (k p : ℕ) (list : List ℕ) → IsCounted config labels list → goes_to config labels k ≡ Some p → reaches (goes_to config labels) (goes_smaller config labels is) (k + 1) p list ≡ true → reaches (goes_to config labels) (goes_smaller config labels is) (k + 1) k list ≡ true → ⊥
  apart k p list counted goes to_parent to_label = by (cases_order a.0 b.0)
    where
      a : (i : ℕ) × (i < length list) × (climbs (goes_to config labels) (k + 1) (get_or list i 0) p (get_or list i 0) ≡ true)
      a = place_of (λ j. climbs (goes_to config labels) (k + 1) j p j) list 0 to_parent

      b : (i : ℕ) × (i < length list) × (climbs (goes_to config labels) (k + 1) (get_or list i 0) k (get_or list i 0) ≡ true)
      b = place_of (λ j. climbs (goes_to config labels) (k + 1) j k j) list 0 to_label

      dims : dim_at labels (get_or list a.0 0) ≡ dim_at labels (get_or list b.0 0)
      dims = sym (climbs_dim config labels is (k + 1) p (get_or list a.0 0) (get_or list a.0 0) a.2) ∙ (goes_dim config labels is k p goes).0 ∙ climbs_dim config labels is (k + 1) k (get_or list b.0 0) (get_or list b.0 0) b.2

      single : (flags config (dim_at labels k)).multi_valued ≡ true → ⊥
      single multi = true≢false (sym (and_parts ((flags config (dim_at labels k)).hierarchical) (not (flags config (dim_at labels k)).multi_valued) (goes_dim config labels is k p goes).1).1 ∙ ap not multi)

      by : (a.0 ≡ b.0) ⊎ ((a.0 < b.0) ⊎ (b.0 < a.0)) → ⊥
      by (inl same) = one_end (goes_to config labels) (goes_smaller config labels is) k p (get_or list b.0 0) (get_or list b.0 0) (omega arith) smaller (ap (λ i. climbs (goes_to config labels) (k + 1) (get_or list i 0) p (get_or list i 0)) (sym same) ∙ a.2) b.2
        where
          smaller : p < k
          smaller = subst (λ o. IfSome o (λ q. q < k)) goes (goes_smaller config labels is k)
      by (inr (inl first)) = single (ap (λ d. (flags config d).multi_valued) (climbs_dim config labels is (k + 1) k (get_or list b.0 0) (get_or list b.0 0) b.2 ∙ sym dims) ∙ counted.alone a.0 b.0 0 first b.1 dims)
      by (inr (inr second)) = single (ap (λ d. (flags config d).multi_valued) (climbs_dim config labels is (k + 1) k (get_or list b.0 0) (get_or list b.0 0) b.2) ∙ counted.alone b.0 a.0 0 second a.1 (sym dims))

  -- ---- before the first step

  own_first : (i : ℕ) (list : List ℕ) → IsCounted config labels list → list_any (λ j. climbs (goes_to config labels) (length labels) j i j) list ≡ list_any (nat_eq i) list
  own_first i list counted = alike (λ j. climbs (goes_to config labels) (length labels) j i j) (nat_eq i) list (λ k d lt. no_step (goes_to config labels) (goes_smaller config labels is) (length labels) (get_or list k d) i (get_or list k d) (counted.within k d lt).1)

  -- with no step, a list reaches the ordinals that it has
  pub climbed_none : (lists : List (List ℕ)) → All (IsCounted config labels) lists → (i : ℕ) → climbed (goes_to config labels) (length labels) lists i ≡ count_by (list_any (nat_eq i)) lists
  climbed_none lists each i = count_alike (list_any (λ j. climbs (goes_to config labels) (length labels) j i j)) (list_any (nat_eq i)) lists (λ k d lt. own_first i (get_or lists k d) (each k d lt))

  -- ---- after the last step

  pub above_root : (n i : ℕ) → 0 < i → is_above labels n i 0 ≡ false
  above_root zero i some = ne_eqb i 0 (λ e. absurd (omega arith))
  above_root (suc n) i some = ap (λ b. b || false) (ne_eqb i 0 (λ e. absurd (omega arith)))

  -- an ordinal that is not rolled up has none that is among its ancestors
  not_above : (n i j : ℕ) → 0 < i → is_rolled config labels i ≡ true → j < length labels → is_rolled config labels j ≡ false → is_above labels n i j ≡ false
  not_above zero i j some rolled within plain = ne_eqb i j (λ e. true≢false (sym rolled ∙ ap (is_rolled config labels) e ∙ plain))
  not_above (suc n) i zero some rolled within plain = above_root (suc n) i some
  not_above (suc n) i (suc j) some rolled within plain =
      let parent = has_parent labels is (suc j) (omega arith) within in
      let other : nat_eq i (suc j) ≡ false = ne_eqb i (suc j) (λ e. true≢false (sym rolled ∙ ap (is_rolled config labels) e ∙ plain)) in
      let higher : is_above labels n i parent.0 ≡ false = by parent.0 parent.1 parent.2 (λ below. not_above n i parent.0 some rolled (omega (arith, parent.1)) (parent_rolled config labels is (suc j) parent.0 (omega arith) within parent.2 below ∙ plain)) in
      (λ t. other t || option_map_or (is_above labels n i) (parent.2 t) false) ∙ higher
    where
      by : (p : ℕ) → p < suc j → parent_at labels (suc j) ≡ Some p → (0 < p → is_above labels n i p ≡ false) → is_above labels n i p ≡ false
      by zero low at again = above_root n i some
      by (suc p) low at again = again (omega arith)

  -- to a rolled up ordinal all steps lead from the ordinals that have it among their ancestors
  climbs_above : (n i j : ℕ) → 0 < i → is_rolled config labels i ≡ true → j < length labels → climbs (goes_to config labels) 1 n i j ≡ is_above labels n i j
  climbs_above zero i j some rolled within = refl
  climbs_above (suc n) i zero some rolled within = refl
  climbs_above (suc n) i (suc j) some rolled within =
      let parent = has_parent labels is (suc j) (omega arith) within in
      let step : nat_le 1 (suc j) ≡ true = le-leb 1 (suc j) (omega arith) in
      let rest : option_map_or (climbs (goes_to config labels) 1 n i) (goes_to config labels (suc j)) false ≡ is_above labels n i parent.0 =
      by (is_rolled config labels (suc j)) refl parent.0 parent.1 parent.2 (λ below. climbs_above n i parent.0 some rolled (omega (arith, parent.1))) in
      (λ t. nat_eq i (suc j) || (step t && rest t)) ∙ ap (λ o. nat_eq i (suc j) || option_map_or (is_above labels n i) o false) (sym parent.2)
    where
      by : (b : Bool) → is_rolled config labels (suc j) ≡ b → (p : ℕ) → p < suc j → parent_at labels (suc j) ≡ Some p → (0 < p → climbs (goes_to config labels) 1 n i p ≡ is_above labels n i p) → option_map_or (climbs (goes_to config labels) 1 n i) (next_of (is_rolled config labels (suc j)) labels (suc j)) false ≡ is_above labels n i p
      by true mark zero low at again = (λ t. option_map_or (climbs (goes_to config labels) 1 n i) (next_of (mark t) labels (suc j)) false) ∙ (λ t. option_map_or (climbs (goes_to config labels) 1 n i) (option_and_then below_root (at t)) false) ∙ sym (above_root n i some)
      by true mark (suc p) low at again = (λ t. option_map_or (climbs (goes_to config labels) 1 n i) (next_of (mark t) labels (suc j)) false) ∙ (λ t. option_map_or (climbs (goes_to config labels) 1 n i) (option_and_then below_root (at t)) false) ∙ again (omega arith)
      by false mark p low at again = (λ t. option_map_or (climbs (goes_to config labels) 1 n i) (next_of (mark t) labels (suc j)) false) ∙ sym (higher p low at)
        where
          higher : (p : ℕ) → p < suc j → parent_at labels (suc j) ≡ Some p → is_above labels n i p ≡ false
          higher zero low at = above_root n i some
          higher (suc p) low at = not_above n i (suc p) some rolled (omega arith) (parent_rolled config labels is (suc j) (suc p) (omega arith) within at (omega arith) ∙ mark)

  -- to one that is not rolled up no step leads
  climbs_plain : (n i j : ℕ) → is_rolled config labels i ≡ false → climbs (goes_to config labels) 1 n i j ≡ nat_eq i j
  climbs_plain zero i j plain = refl
  climbs_plain (suc n) i j plain = by (goes_to config labels j) refl (λ p. climbs_plain n i p plain)
    where
      by : (o : Option ℕ) → goes_to config labels j ≡ o → ((p : ℕ) → climbs (goes_to config labels) 1 n i p ≡ nat_eq i p) → climbs (goes_to config labels) 1 (suc n) i j ≡ nat_eq i j
      by None goes again = ap (λ o. nat_eq i j || (nat_le 1 j && option_map_or (climbs (goes_to config labels) 1 n i) o false)) goes ∙ ap (λ z. (nat_eq i j) || z) (and-false (nat_le 1 j)) ∙ or-false (nat_eq i j)
      by (Some p) goes again =
          let other : nat_eq i p ≡ false = ne_eqb i p (λ e. true≢false (sym (goes_dim config labels is j p goes).2 ∙ sym (ap (is_rolled config labels) e) ∙ plain)) in
          ap (λ o. nat_eq i j || (nat_le 1 j && option_map_or (climbs (goes_to config labels) 1 n i) o false)) goes ∙ ap (λ b. nat_eq i j || (nat_le 1 j && b)) (again p ∙ other) ∙ ap (λ z. (nat_eq i j) || z) (and-false (nat_le 1 j)) ∙ or-false (nat_eq i j)

  all_steps : (i : ℕ) → 0 < i → (list : List ℕ) → IsCounted config labels list → list_any (λ j. climbs (goes_to config labels) 1 j i j) list ≡ counts_for config labels i list
  all_steps i some list counted = by (is_rolled config labels i) refl
    where
      by : (b : Bool) → is_rolled config labels i ≡ b → list_any (λ j. climbs (goes_to config labels) 1 j i j) list ≡ counts_for config labels i list
      by true rolled =
          alike (λ j. climbs (goes_to config labels) 1 j i j) (λ j. is_above labels j i j) list (λ k d lt. climbs_above (get_or list k d) i (get_or list k d) some rolled (counted.within k d lt).1)
          ∙ ap (λ b. cond b (list_any (λ j. is_above labels j i j) list) (list_any (nat_eq i) list)) (sym rolled)
      by false plain =
          alike (λ j. climbs (goes_to config labels) 1 j i j) (nat_eq i) list (λ k d lt. climbs_plain (get_or list k d) i (get_or list k d) plain)
          ∙ ap (λ b. cond b (list_any (λ j. is_above labels j i j) list) (list_any (nat_eq i) list)) (sym plain)

  -- with all steps, a list reaches the ordinals for which it counts
  pub climbed_all : (lists : List (List ℕ)) → All (IsCounted config labels) lists → (i : ℕ) → 0 < i → climbed (goes_to config labels) 1 lists i ≡ lists_at config labels lists i
  climbed_all lists each i some = count_alike (list_any (λ j. climbs (goes_to config labels) 1 j i j)) (counts_for config labels i) lists (λ k d lt. all_steps i some (get_or lists k d) (each k d lt))
