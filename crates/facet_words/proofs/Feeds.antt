-- The first line feed, found by memchr.
use Rattle.std.proofs.Common.{◌≡◌, ℕ, ◌<◌, ◌≤◌, ◌⊎◌, List, length, get_or, Option, Some, None, cond, sym, ap, ◌∙◌, arith, inl, inr}
use Rattle.std.specs.Prelude.{◌==◌}
use Rattle.std.specs.List.{position, position_or_len}
use Rattle.std.proofs.lemmas.Bool.{cases_lt, lt-ltb, le-ltb, false_from_ne_true}
use Rattle.std.proofs.lemmas.List.Sums.{position_or_len_is, passes_at_first}
use Rattle.memchr.specs.Find.{IsFirstByte, is_byte}

pub feed_is : (bs : List ℕ) (r : Option ℕ) → IsFirstByte (is_byte 10) bs r → r ≡ position (λ b. b == 10) bs
feed_is bs None nowhere = by (cases_lt (position_or_len (λ b. b == 10) bs) (length bs))
  where
    by : (position_or_len (λ b. b == 10) bs < length bs) ⊎ (length bs ≤ position_or_len (λ b. b == 10) bs) → None ≡ position (λ b. b == 10) bs
    by (inl lt) = absurd (nowhere (position_or_len (λ b. b == 10) bs) (omega arith) lt (passes_at_first (λ b. b == 10) bs 0 lt))
    by (inr over) = ap (λ b. cond b (Some (position_or_len (λ b. b == 10) bs)) None) (sym (le-ltb (position_or_len (λ b. b == 10) bs) (length bs) over))
feed_is bs (Some k) first =
    let at : position_or_len (λ b. b == 10) bs ≡ k = position_or_len_is (λ b. b == 10) bs k 0 (omega (arith, first.0.high)) (λ j lt. false_from_ne_true (get_or bs j 0 == 10) (first.0.before j (omega arith) lt)) (λ _. first.1) in
    let within : position_or_len (λ b. b == 10) bs < length bs = omega (arith, at, first.0.high) in
    ap Some (sym at) ∙ ap (λ b. cond b (Some (position_or_len (λ b. b == 10) bs)) None) (sym (lt-ltb (position_or_len (λ b. b == 10) bs) (length bs) within))
