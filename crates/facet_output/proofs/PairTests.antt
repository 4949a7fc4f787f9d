-- Tests for which pair an order may have taken, and where pairs stand.
use Rattle.std.proofs.Common.{◌≡◌, ℕ, ◌≤◌, Bool, true, false, List, [], ◌∷◌, length, Option, Some, None, slice_get, refl, sym, subst, le-leb}
use Rattle.std.specs.Prelude.{◌&&◌, ◌||◌, not, nat_le, All, IfSome, IsTrue}
use Rattle.std.specs.List.{list_all, list_any}
use Rattle.std.specs.Option.{option_map_or}
use Rattle.std.proofs.lemmas.Bool.{and_parts, and_from, leb-true}
use Rattle.std.proofs.lemmas.List.Elements.{All-cons, All-nil, All-head, All-tail}
use Rattle.facet_model.specs.CoreStates.{is_same_pair}
use Rattle.facet_output.specs.Answered.{Answered, comes_after, each_with}
use Rattle.facet_output.specs.Output.{Opened, Published, IsNewest, IsRightPair, IsAt, has_source, is_pair_of, has_labels, is_no_further}
use Rattle.facet_output.specs.Reported.{refreshed}
use Rattle.facet_output.proofs.Fresh.{implied, implied_so}

-- no number, or one that is at most n
abbrev pub is_up_to : ℕ → Option ℕ → Bool
is_up_to n o = option_map_or (λ k. nat_le k n) o true

-- neither number is greater
abbrev pub is_no_newer : ℕ × ℕ → ℕ × ℕ → Bool
is_no_newer p q = nat_le p.0 q.0 && nat_le p.1 q.1

abbrev pub newest_test : List Answered → Answered → ℕ × ℕ → Bool
newest_test answered a pair = list_all (λ b. not (comes_after a b)
    || (is_up_to pair.0 (refreshed b) && option_map_or (λ p. is_no_newer p pair) b.took true)) answered

abbrev pub right_pair_test : Opened → List (ℕ × ℕ) → List Answered → Answered → ℕ × ℕ → Bool
right_pair_test opened published answered a pair = list_any (is_same_pair pair) published
    && has_source (length opened.docs) answered a pair.0 && newest_test answered a pair

abbrev pub at_test : List (List (List ℕ)) → Published → List Answered → Answered → ℕ → Bool
at_test labels published answered a place =
    option_map_or (λ e. is_pair_of a e && has_labels labels published answered a e) (slice_get published place) false
    && list_all (λ b. not (comes_after a b) || option_map_or (is_no_further a place) b.place true) answered

-- ---- a test of each, and of what there is

module _ {A : Type 0} where
  all_from : (p : A → Bool) (P : A → Type 0) → ((x : A) → p x ≡ true → P x) → (xs : List A) → list_all p xs ≡ true → All P xs
  all_from p P each [] h = All-nil P
  all_from p P each (x ∷ xs) h = let parts = and_parts (p x) (list_all p xs) h in All-cons P x xs (each x parts.0) (all_from p P each xs parts.1)

  all_to : (p : A → Bool) (P : A → Type 0) → ((x : A) → P x → p x ≡ true) → (xs : List A) → All P xs → list_all p xs ≡ true
  all_to p P each [] h = refl
  all_to p P each (x ∷ xs) h = and_from (p x) (list_all p xs) (each x (All-head P x xs h)) (all_to p P each xs (All-tail P x xs h))

  some_from : (p : A → Bool) (P : A → Type 0) → ((x : A) → p x ≡ true → P x) → (o : Option A) → option_map_or p o true ≡ true → IfSome o P
  some_from p P each None h = tt
  some_from p P each (Some x) h = each x h

  some_to : (p : A → Bool) (P : A → Type 0) → ((x : A) → P x → p x ≡ true) → (o : Option A) → IfSome o P → option_map_or p o true ≡ true
  some_to p P each None h = refl
  some_to p P each (Some x) h = each x h

-- ---- pairs

module _ (answered : List Answered) (a : Answered) where
  abbrev NoNewer : ℕ × ℕ → Answered → Type 0
  NoNewer pair b = IfSome (refreshed b) (λ n. n ≤ pair.0) × IfSome b.took (λ p. (p.0 ≤ pair.0) × (p.1 ≤ pair.1))

  abbrev no_newer_test : ℕ × ℕ → Answered → Bool
  no_newer_test pair b = is_up_to pair.0 (refreshed b) && option_map_or (λ p. is_no_newer p pair) b.took true

  no_newer_from : (pair : ℕ × ℕ) (b : Answered) → no_newer_test pair b ≡ true → NoNewer pair b
  no_newer_from pair b h =
      let parts = and_parts (is_up_to pair.0 (refreshed b)) (option_map_or (λ p. is_no_newer p pair) b.took true) h in (
        some_from (λ k. nat_le k pair.0) (λ n. n ≤ pair.0) (λ n. leb-true n pair.0) (refreshed b) parts.0,
        some_from (λ p. is_no_newer p pair) (λ p. (p.0 ≤ pair.0) × (p.1 ≤ pair.1)) (λ p h. let both = and_parts (nat_le p.0 pair.0) (nat_le p.1 pair.1) h in (leb-true p.0 pair.0 both.0, leb-true p.1 pair.1 both.1)) b.took parts.1,
      )

  no_newer_to : (pair : ℕ × ℕ) (b : Answered) → NoNewer pair b → no_newer_test pair b ≡ true
  no_newer_to pair b h = and_from (is_up_to pair.0 (refreshed b)) (option_map_or (λ p. is_no_newer p pair) b.took true)
      (some_to (λ k. nat_le k pair.0) (λ n. n ≤ pair.0) (λ n. le-leb n pair.0) (refreshed b) h.0)
      (some_to (λ p. is_no_newer p pair) (λ p. (p.0 ≤ pair.0) × (p.1 ≤ pair.1)) (λ p both. and_from (nat_le p.0 pair.0) (nat_le p.1 pair.1) (le-leb p.0 pair.0 both.0) (le-leb p.1 pair.1 both.1)) b.took h.1)

  newest_from : (pair : ℕ × ℕ) → newest_test answered a pair ≡ true → IsNewest answered a pair
  newest_from pair h = all_from (λ b. not (comes_after a b) || no_newer_test pair b) (λ b. IsTrue (comes_after a b) → NoNewer pair b)
      (λ b h after. no_newer_from pair b (implied_so (comes_after a b) (no_newer_test pair b) h after)) answered h

  newest_to : (pair : ℕ × ℕ) → IsNewest answered a pair → newest_test answered a pair ≡ true
  newest_to pair h = all_to (λ b. not (comes_after a b) || no_newer_test pair b) (λ b. IsTrue (comes_after a b) → NoNewer pair b)
      (λ b h. implied (comes_after a b) (no_newer_test pair b) (λ after. no_newer_to pair b (h after))) answered h

  right_pair_from : (opened : Opened) (published : List (ℕ × ℕ)) (pair : ℕ × ℕ) → right_pair_test opened published answered a pair ≡ true → IsRightPair opened published answered a pair
  right_pair_from opened published pair h =
      let last = and_parts (list_any (is_same_pair pair) published && has_source (length opened.docs) answered a pair.0) (newest_test answered a pair) h in
      let first = and_parts (list_any (is_same_pair pair) published) (has_source (length opened.docs) answered a pair.0) last.0 in
      record { is_published = first.0; has_its_source = first.1; newest = newest_from pair last.1 }

  right_pair_to : (opened : Opened) (published : List (ℕ × ℕ)) (pair : ℕ × ℕ) → IsRightPair opened published answered a pair → right_pair_test opened published answered a pair ≡ true
  right_pair_to opened published pair h = and_from (list_any (is_same_pair pair) published && has_source (length opened.docs) answered a pair.0) (newest_test answered a pair)
      (and_from (list_any (is_same_pair pair) published) (has_source (length opened.docs) answered a pair.0) h.is_published h.has_its_source) (newest_to pair h.newest)

  -- ---- places

  module _ (labels : List (List (List ℕ))) (published : Published) (place : ℕ) where
    abbrev here_test : ℕ × (ℕ × ℕ) → Bool
    here_test e = is_pair_of a e && has_labels labels published answered a e

    abbrev no_further_test : Answered → Bool
    no_further_test b = option_map_or (is_no_further a place) b.place true

    abbrev NoFurther : Answered → Type 0
    NoFurther b = IfSome b.place (λ earlier. IsTrue (is_no_further a place earlier))

    at_from : at_test labels published answered a place ≡ true → IsAt labels published answered a place
    at_from h =
        let parts = and_parts (option_map_or here_test (slice_get published place) false) (list_all (λ b. not (comes_after a b) || no_further_test b) answered) h in
        by (slice_get published place) refl parts.0
        (all_from (λ b. not (comes_after a b) || no_further_test b) (λ b. IsTrue (comes_after a b) → NoFurther b)
        (λ b h after. some_from (is_no_further a place) (λ earlier. IsTrue (is_no_further a place earlier)) (λ earlier h. h) b.place (implied_so (comes_after a b) (no_further_test b) h after)) answered parts.1)
      where
        by : (o : Option (ℕ × (ℕ × ℕ))) → slice_get published place ≡ o → option_map_or here_test o false ≡ true → All (λ b. IsTrue (comes_after a b) → NoFurther b) answered → IsAt labels published answered a place
        by None there h rest = absurd cc
        by (Some e) there h rest = let parts = and_parts (is_pair_of a e) (has_labels labels published answered a e) h in record { entry = e; there = there; is_its_pair = parts.0; has_its_labels = parts.1; behind = rest }

    at_to : IsAt labels published answered a place → at_test labels published answered a place ≡ true
    at_to h = and_from (option_map_or here_test (slice_get published place) false) (list_all (λ b. not (comes_after a b) || no_further_test b) answered)
        (subst (λ (o : Option (ℕ × (ℕ × ℕ))). option_map_or here_test o false ≡ true) (sym h.there) (and_from (is_pair_of a h.entry) (has_labels labels published answered a h.entry) h.is_its_pair h.has_its_labels))
        (all_to (λ b. not (comes_after a b) || no_further_test b) (λ b. IsTrue (comes_after a b) → NoFurther b)
        (λ b h. implied (comes_after a b) (no_further_test b) (λ after. some_to (is_no_further a place) (λ earlier. IsTrue (is_no_further a place earlier)) (λ earlier h. h) b.place (h after))) answered h.behind)

-- ---- each order

module _ (answered : List Answered) where
  pub pairs_from : (opened : Opened) (published : List (ℕ × ℕ)) → IsTrue (each_with (λ a. a.took) (right_pair_test opened published answered) answered)
      → All (λ a. IfSome a.took (IsRightPair opened published answered a)) answered
  pairs_from opened published h = all_from (λ a. option_map_or (right_pair_test opened published answered a) a.took true) (λ a. IfSome a.took (IsRightPair opened published answered a))
      (λ a h. some_from (right_pair_test opened published answered a) (IsRightPair opened published answered a) (right_pair_from answered a opened published) a.took h) answered h

  pub pairs_to : (opened : Opened) (published : List (ℕ × ℕ)) → All (λ a. IfSome a.took (IsRightPair opened published answered a)) answered
      → IsTrue (each_with (λ a. a.took) (right_pair_test opened published answered) answered)
  pairs_to opened published h = all_to (λ a. option_map_or (right_pair_test opened published answered a) a.took true) (λ a. IfSome a.took (IsRightPair opened published answered a))
      (λ a h. some_to (right_pair_test opened published answered a) (IsRightPair opened published answered a) (right_pair_to answered a opened published) a.took h) answered h

  pub places_from : (labels : List (List (List ℕ))) (published : Published) → IsTrue (each_with (λ a. a.place) (at_test labels published answered) answered)
      → All (λ a. IfSome a.place (IsAt labels published answered a)) answered
  places_from labels published h = all_from (λ a. option_map_or (at_test labels published answered a) a.place true) (λ a. IfSome a.place (IsAt labels published answered a))
      (λ a h. some_from (at_test labels published answered a) (IsAt labels published answered a) (at_from answered a labels published) a.place h) answered h

  pub places_to : (labels : List (List (List ℕ))) (published : Published) → All (λ a. IfSome a.place (IsAt labels published answered a)) answered
      → IsTrue (each_with (λ a. a.place) (at_test labels published answered) answered)
  places_to labels published h = all_to (λ a. option_map_or (at_test labels published answered a) a.place true) (λ a. IfSome a.place (IsAt labels published answered a))
      (λ a h. some_to (at_test labels published answered a) (IsAt labels published answered a) (at_to answered a labels published) a.place h) answered h
