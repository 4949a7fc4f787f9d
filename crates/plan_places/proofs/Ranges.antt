-- The places of a range.
use Rattle.std.proofs.Common.{◌≡◌, ℕ, zero, suc, ◌+◌, ◌-◌, ◌<◌, ◌≤◌, [], refl, sym, ◌∙◌, arith, inl, inr}
use Rattle.std.specs.List.{range_with_len}
use Rattle.std.proofs.lemmas.Bool.{cases_lt}
use Rattle.seg_postings.specs.Rising.{from_place}
use Rattle.seg_postings.proofs.Order.{IsFrom, from_all, from_later}
use Rattle.seg_postings.proofs.Either.{from_none}

range_from : (p a n : ℕ) → p ≤ a → IsFrom p (range_with_len a n)
range_from p a zero le = tt
range_from p a (suc n) le = (le, range_from p (a + 1) n (omega arith))

range_past : (p a n : ℕ) → a + n ≤ p → from_place p (range_with_len a n) ≡ []
range_past p a zero le = from_none p
range_past p a (suc n) le = from_later p a (range_with_len (a + 1) n) (omega arith) ∙ range_past p (a + 1) n (omega arith)

range_cut : (p a n m : ℕ) → a ≤ p → a + n ≡ p + m → from_place p (range_with_len a n) ≡ range_with_len p m
range_cut p a zero m le e = let z : m ≡ 0 = omega arith in rw z (from_none p)
range_cut p a (suc n) m le e =
    elim (cases_lt a p) [
      | inl lt ↦ from_later p a (range_with_len (a + 1) n) lt ∙ range_cut p (a + 1) n m (omega arith) (omega arith)
      | inr ge ↦
          let same : p ≡ a = omega arith in
          let all : m ≡ suc n = omega arith in
          rw (all, same) (from_all a (range_with_len a (suc n)) (range_from a a (suc n) (omega arith)))
    ]

range_none : (end : ℕ) → range_with_len end (end - end) ≡ []
range_none end = let z : end - end ≡ 0 = omega arith in rw z refl

pub range_moved : (p next end new : ℕ) → (p ≤ next → new ≡ next) → (next < p → p < end → new ≡ p) → (next < p → end ≤ p → new ≡ end) → range_with_len new (end - new) ≡ from_place p (range_with_len next (end - next))
range_moved p next end new same within past =
    elim (cases_lt next p) [
      | inl lt ↦ elim (cases_lt p end) [
        | inl low ↦ let e : new ≡ p = within lt low in rw e (sym (range_cut p next (end - next) (end - p) (omega arith) (omega arith)))
        | inr high ↦ let e : new ≡ end = past lt high in rw e (range_none end ∙ sym (range_past p next (end - next) (omega arith)))
      ]
      | inr ge ↦ let e : new ≡ next = same ge in rw e (sym (from_all p (range_with_len next (end - next)) (range_from p next (end - next) ge)))
    ]
