-- The places below a bound, word by word.
use Rattle.std.proofs.Common.{◌≡◌, ℕ, ◌+◌, ◌-◌, ◌*◌, ◌/◌, ◌%◌, ◌^◌, ◌<◌, ◌≤◌, min, eqb, ltb, List, get_or, set, length, sym, ap, ◌∙◌, inl, inr, arith}
use Rattle.std.proofs.lemmas.Bool.{cases_lt, cases_eq, lt-ltb, le-ltb}
use Rattle.std.proofs.lemmas.List.{get_or-set_same, get_or-set_other, length-set}
use Rattle.std.proofs.lemmas.Nat.{one_shl}
use Rattle.std.proofs.lemmas.Nat.Bits.{bit_at_ones, bit_at_ones_above}
use Rattle.std.specs.Int.{bit_at}
use Rattle.place_bits.specs.Words.{has}
use Rattle.place_bits.proofs.WordBits.{has_past}

ones_are : (number i : ℕ) → eqb (bit_at (2 ^ number - 1) i) 1 ≡ ltb i number
ones_are number i =
    elim (cases_lt i number) [
      | inl lt ↦ ap (λ b. eqb b 1) (bit_at_ones number i lt) ∙ sym (lt-ltb i number lt)
      | inr ge ↦ ap (λ b. eqb b 1) (bit_at_ones_above number i ge) ∙ sym (le-ltb i number ge)
    ]

pub all_ones : (number i : ℕ) → number ≡ 64 → eqb (bit_at (2 ^ 64 - 1) i) 1 ≡ ltb i number
all_ones number i e = ones_are 64 i ∙ ap (ltb i) (sym e)

pub some_ones : (number i : ℕ) → number < 64 → eqb (bit_at (1 * 2 ^ number % 2 ^ 64 - 1) i) 1 ≡ ltb i number
some_ones number i l = ap (λ m. eqb (bit_at (m - 1) i) 1) (one_shl number 64 l) ∙ ones_are number i

-- The words up to k have the places below the bound.
pub record AreFilled (docs k left : ℕ) (now old : List ℕ) : Type 0 where
  pub len : length now ≡ length old
  pub left_is : left ≡ docs - 64 * k
  pub done : (n : ℕ) → n < 64 * k → has now n ≡ ltb n docs

pub one_filled : (docs k left : ℕ) (now old : List ℕ) (word here : ℕ) → AreFilled docs k left now old → k < length old → here ≡ min left 64 → ((i : ℕ) → i < 64 → eqb (bit_at word i) 1 ≡ ltb i here)
    → AreFilled docs (k + 1) (left - here) (set now k word) old
unfolding has
one_filled docs k left now old word here h within e bits = record {
  len = length-set now k word ∙ h.len;
  left_is = omega (arith, h.left_is);
  done = λ n l. elim (cases_eq (n / 64) k) [
    | inl same ↦ ap (λ j. eqb (bit_at (get_or (set now k word) j 0) (n % 64)) 1) same ∙ ap (λ x. eqb (bit_at x (n % 64)) 1) (get_or-set_same now k word 0 (omega (arith, h.len))) ∙ bits (n % 64) (omega arith) ∙ elim (cases_lt n docs) [
      | inl lt ↦ lt-ltb (n % 64) here (omega (arith, h.left_is)) ∙ sym (lt-ltb n docs lt)
      | inr ge ↦ le-ltb (n % 64) here (omega (arith, h.left_is)) ∙ sym (le-ltb n docs ge)
    ]
    | inr other ↦ ap (λ x. eqb (bit_at x (n % 64)) 1) (get_or-set_other now k (n / 64) word 0 other) ∙ h.done n (omega arith)
  ];
}

pub all_filled : (docs k left : ℕ) (now old : List ℕ) → AreFilled docs k left now old → length old ≤ k → docs ≤ 64 * length old → (n : ℕ) → has now n ≡ ltb n docs
all_filled docs k left now old h all room n =
    elim (cases_lt n (64 * length old)) [
      | inl lt ↦ h.done n (omega arith)
      | inr ge ↦ has_past now n (omega (arith, h.len)) ∙ sym (le-ltb n docs (omega arith))
    ]
