-- The place of a label in lists that stand one behind the other.
use Rattle.std.proofs.Common.{◌≡◌, ◌⊎◌, inl, inr, ℕ, ◌+◌, ◌-◌, ◌<◌, ◌≤◌, Bool, true, false, ltb, List, [], ◌∷◌, ◌++◌, length, get_or, slice_get, map, take, drop, append_assoc, Some, None, position, refl, sym, ap, ◌∙◌, arith}
use Rattle.std.specs.List.{position_or_len, flat_map}
use Rattle.std.proofs.lemmas.Bool.{cases_lt, cond-true, cond-false, ltb-true, ltb-false, le-ltb}
use Rattle.std.proofs.lemmas.List.{length-append, get_or_append_left, get_or-append-add, append-nil, take_more, take_all, take-append-drop, map-append}
use Rattle.std.proofs.lemmas.List.Concat.{flat_map-append}
use Rattle.std.proofs.lemmas.List.Sums.{fails_before_first, passes_at_first, position_or_len_is}
use Rattle.std.proofs.lemmas.Option.{none-some, same_Some, slice_get-get_or, slice_get_within, get_or_from_slice_get}
use Rattle.facet_names.proofs.LabelLists.{first_place}

module _ {X : Type 0} (test : X → Bool) (d : X) where
  abbrev pub AllFail : List X → Type 0
  AllFail xs = (k : ℕ) → k < length xs → test (get_or xs k d) ≡ false

  -- where no place is told, none passes
  pub all_fail : (ys : List X) → position test ys ≡ None → AllFail ys
  all_fail ys none k lt = by (ltb (position_or_len test ys) (length ys)) refl
    where
      by : (b : Bool) → ltb (position_or_len test ys) (length ys) ≡ b → test (get_or ys k d) ≡ false
      by true e = absurd (none-some _ (sym none ∙ cond-true (ltb (position_or_len test ys) (length ys)) (Some (position_or_len test ys)) None e))
      by false e = let past : length ys ≤ position_or_len test ys = ltb-false (position_or_len test ys) (length ys) e in fails_before_first test ys k d (omega (arith, lt, past))

  -- a place that is told is the first that passes
  pub is_first : (ys : List X) (at : ℕ) → position test ys ≡ Some at → (at < length ys) × (position_or_len test ys ≡ at)
  is_first ys at is = by (ltb (position_or_len test ys) (length ys)) refl
    where
      by : (b : Bool) → ltb (position_or_len test ys) (length ys) ≡ b → (at < length ys) × (position_or_len test ys ≡ at)
      by true e =
          let same : position_or_len test ys ≡ at = same_Some _ _ (sym (cond-true (ltb (position_or_len test ys) (length ys)) (Some (position_or_len test ys)) None e) ∙ is) in
          (omega (arith, same, ltb-true (position_or_len test ys) (length ys) e), same)
      by false e = absurd (none-some _ (sym (cond-false (ltb (position_or_len test ys) (length ys)) (Some (position_or_len test ys)) None e) ∙ is))

  pub fail_append : (xs ys : List X) → AllFail xs → AllFail ys → AllFail (xs ++ ys)
  fail_append xs ys one two k lt = by (cases_lt k (length xs))
    where
      by : (k < length xs) ⊎ (length xs ≤ k) → test (get_or (xs ++ ys) k d) ≡ false
      by (inl low) = ap test (get_or_append_left xs ys d k low) ∙ one k low
      by (inr high) =
          let e : k ≡ length xs + (k - length xs) = omega (arith, high) in
          ap test (ap (λ n. get_or (xs ++ ys) n d) e ∙ get_or-append-add xs ys (k - length xs) d) ∙ two (k - length xs) (omega (arith, lt, high, length-append xs ys))

  -- in a list behind one where none passes
  pub found_behind : (xs ys zs : List X) (at : ℕ) → AllFail xs → position test ys ≡ Some at → position test (xs ++ (ys ++ zs)) ≡ Some (length xs + at)
  found_behind xs ys zs at none is =
      let first = is_first ys at is in
      let inside : length xs + at < length (xs ++ (ys ++ zs)) = omega (arith, first.0, length-append xs (ys ++ zs), length-append ys zs) in
      let here : get_or (xs ++ (ys ++ zs)) (length xs + at) d ≡ get_or ys at d = get_or-append-add xs (ys ++ zs) at d ∙ get_or_append_left ys zs d at first.0 in
      let passes : test (get_or ys at d) ≡ true = ap (λ n. test (get_or ys n d)) (sym first.1) ∙ passes_at_first test ys d (omega (arith, first.0, first.1)) in
      first_place test (xs ++ (ys ++ zs)) (length xs + at) d inside (ap test here ∙ passes) (λ k lt. before k lt (cases_lt k (length xs)))
    where
      before : (k : ℕ) → k < length xs + at → (k < length xs) ⊎ (length xs ≤ k) → test (get_or (xs ++ (ys ++ zs)) k d) ≡ false
      before k lt (inl low) = ap test (get_or_append_left xs (ys ++ zs) d k low) ∙ none k low
      before k lt (inr high) =
          let first = is_first ys at is in
          let e : k ≡ length xs + (k - length xs) = omega (arith, high) in
          ap test (ap (λ n. get_or (xs ++ (ys ++ zs)) n d) e ∙ get_or-append-add xs (ys ++ zs) (k - length xs) d ∙ get_or_append_left ys zs d (k - length xs) (omega (arith, lt, high, first.0)))
          ∙ fails_before_first test ys (k - length xs) d (omega (arith, lt, high, first.1))

  -- where none passes, no place is told
  pub none_told : (xs : List X) → AllFail xs → position test xs ≡ None
  none_told xs none =
      let all : position_or_len test xs ≡ length xs = position_or_len_is test xs (length xs) d (omega arith) none (λ lt. absurd (omega (arith, lt))) in
      cond-false (ltb (position_or_len test xs) (length xs)) (Some (position_or_len test xs)) None (le-ltb (position_or_len test xs) (length xs) (omega (arith, all)))

-- ---- pieces

module _ {P X : Type 0} (value : P → List X) (pieces : List P) (i : ℕ) (p : P) (lt : i < length pieces) (here : get_or pieces i p ≡ p) where
  abbrev pub joined : List P → List X
  joined ps = flat_map (λ l. l) (map value ps)

  pub joined_more : joined (take (i + 1) pieces) ≡ joined (take i pieces) ++ value p
  joined_more =
      ap joined (take_more pieces i p lt ∙ ap (λ y. take i pieces ++ y ∷ []) here) ∙ ap (flat_map (λ l. l)) (map-append value (take i pieces) (p ∷ []))
      ∙ flat_map-append (λ l. l) (map value (take i pieces)) (value p ∷ []) ∙ ap (λ l. joined (take i pieces) ++ l) (append-nil (value p))

  pub joined_parts : joined pieces ≡ joined (take i pieces) ++ (value p ++ joined (drop (i + 1) pieces))
  joined_parts =
      ap joined (sym (take-append-drop (i + 1) pieces)) ∙ ap (flat_map (λ l. l)) (map-append value (take (i + 1) pieces) (drop (i + 1) pieces))
      ∙ flat_map-append (λ l. l) (map value (take (i + 1) pieces)) (map value (drop (i + 1) pieces)) ∙ ap (λ l. l ++ joined (drop (i + 1) pieces)) joined_more
      ∙ append_assoc (joined (take i pieces)) (value p) (joined (drop (i + 1) pieces))

  -- the next piece has it, if this one is too short
  pub place_next : (rest at : ℕ) → length (value p) ≤ rest → length (joined (take i pieces)) + rest ≡ at → length (joined (take (i + 1) pieces)) + (rest - length (value p)) ≡ at
  place_next rest at over is = omega (arith, over, is, ap length joined_more, length-append (joined (take i pieces)) (value p))

  -- it stands in this one
  pub place_here : (rest at : ℕ) (x : X) → slice_get (value p) rest ≡ Some x → length (joined (take i pieces)) + rest ≡ at → slice_get (joined pieces) at ≡ Some x
  place_here rest at x there is =
      let low : rest < length (value p) = slice_get_within (value p) rest x there in
      let parts = joined_parts in
      let all : length (joined pieces) ≡ length (joined (take i pieces)) + (length (value p) + length (joined (drop (i + 1) pieces))) = ap length parts ∙ length-append (joined (take i pieces)) (value p ++ joined (drop (i + 1) pieces)) ∙ ap (λ n. length (joined (take i pieces)) + n) (length-append (value p) (joined (drop (i + 1) pieces))) in
      slice_get-get_or (joined pieces) at x (omega (arith, all, low, is))
      ∙ ap Some ((λ t. get_or (parts t) (sym is t) x) ∙ get_or-append-add (joined (take i pieces)) (value p ++ joined (drop (i + 1) pieces)) rest x ∙ get_or_append_left (value p) (joined (drop (i + 1) pieces)) x rest low ∙ get_or_from_slice_get (value p) rest x x there)

-- a place that is not in the first pieces is in one behind them
pub place_within : {P X : Type 0} (value : P → List X) (pieces : List P) (i rest at : ℕ) → at < length (flat_map (λ l. l) (map value pieces)) → i ≤ length pieces → length (flat_map (λ l. l) (map value (take i pieces))) + rest ≡ at → i < length pieces
place_within value pieces i rest at low within is = by (cases_lt i (length pieces))
  where
    by : (i < length pieces) ⊎ (length pieces ≤ i) → i < length pieces
    by (inl lt) = lt
    by (inr past) = absurd (omega (arith, low, is, ap (λ ps. length (flat_map (λ l. l) (map value ps))) (take_all i pieces past)))
