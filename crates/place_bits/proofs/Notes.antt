-- Near misses, word by word.
use Rattle.std.proofs.Common.{◌≡◌, ℕ, ◌+◌, ◌/◌, ◌%◌, ◌^◌, ◌<◌, ◌≤◌, Bool, false, not, eqb, ◌&&◌, ◌||◌, List, get_or, set, length, refl, sym, ap, ◌∙◌, inl, inr, arith, w64}
use Rattle.std.proofs.lemmas.Bool.{cases_lt, cases_eq}
use Rattle.std.proofs.lemmas.List.{get_or-set_same, get_or-set_other, length-set}
use Rattle.std.specs.Prelude.{bit_and, bit_or}
use Rattle.std.specs.Int.{bit_at, bit_not}
use Rattle.place_bits.specs.Words.{has}
use Rattle.place_bits.proofs.WordBits.{has_past, bit_lacks, bit_or_is, bit_and_is}

-- The words up to k have these values, and the others are as they were.
pub record AreSet (value : ℕ → ℕ) (k : ℕ) (now old : List ℕ) : Type 0 where
  pub len : length now ≡ length old
  pub done : (j : ℕ) → j < k → get_or now j 0 ≡ value j
  pub rest : (j : ℕ) → k ≤ j → get_or now j 0 ≡ get_or old j 0

abbrev pub miss_at : List ℕ → List ℕ → ℕ → ℕ
miss_at base dim j = bit_and (get_or base j 0) (bit_not w64 (get_or dim j 0))

abbrev pub one_at : List ℕ → List ℕ → List ℕ → ℕ → ℕ
one_at base dim ones j = bit_or (get_or ones j 0) (miss_at base dim j)

abbrev pub two_at : List ℕ → List ℕ → List ℕ → List ℕ → ℕ → ℕ
two_at base dim ones twos j = bit_or (get_or twos j 0) (bit_and (get_or ones j 0) (miss_at base dim j))

pub set_more : (value : ℕ → ℕ) (k : ℕ) (now old : List ℕ) (word : ℕ) → AreSet value k now old → k < length old → word ≡ value k → AreSet value (k + 1) (set now k word) old
set_more value k now old word h within e = record {
  len = length-set now k word ∙ h.len;
  done = λ j l. elim (cases_eq j k) [
    | inl same ↦ ap (λ i. get_or (set now k word) i 0) same ∙ get_or-set_same now k word 0 (omega (arith, h.len)) ∙ e ∙ ap value (sym same)
    | inr other ↦ get_or-set_other now k j word 0 other ∙ h.done j (omega arith)
  ];
  rest = λ j l. get_or-set_other now k j word 0 (λ e. omega arith) ∙ h.rest j (omega arith);
}

pub set_has : (value : ℕ → ℕ) (test : ℕ → Bool) (k : ℕ) (now old : List ℕ) → ((n : ℕ) → eqb (bit_at (value (n / 64)) (n % 64)) 1 ≡ test n) → ((n : ℕ) → length old ≤ n / 64 → test n ≡ false)
    → length old ≤ k → AreSet value k now old → (n : ℕ) → has now n ≡ test n
unfolding has
set_has value test k now old bits past all h n =
    elim (cases_lt (n / 64) (length old)) [
      | inl within ↦ ap (λ x. eqb (bit_at x (n % 64)) 1) (h.done (n / 64) (omega arith)) ∙ bits n
      | inr over ↦ has_past now n (omega (arith, h.len)) ∙ sym (past n over)
    ]

module _ (base dim : List ℕ) (fits : (j : ℕ) → get_or dim j 0 < 2 ^ 64) where
  pub miss_bit : (n : ℕ) → eqb (bit_at (miss_at base dim (n / 64)) (n % 64)) 1 ≡ (has base n && not (has dim n))
  unfolding has
  miss_bit n = bit_lacks (get_or base (n / 64) 0) (get_or dim (n / 64) 0) (n % 64) (fits (n / 64)) (omega arith)

  pub one_bit : (ones : List ℕ) (n : ℕ) → eqb (bit_at (one_at base dim ones (n / 64)) (n % 64)) 1 ≡ (has ones n || (has base n && not (has dim n)))
  unfolding has
  one_bit ones n = bit_or_is (get_or ones (n / 64) 0) (miss_at base dim (n / 64)) (n % 64) ∙ ap (λ b. eqb (bit_at (get_or ones (n / 64) 0) (n % 64)) 1 || b) (bit_lacks (get_or base (n / 64) 0) (get_or dim (n / 64) 0) (n % 64) (fits (n / 64)) (omega arith))

  pub two_bit : (ones twos : List ℕ) (n : ℕ) → eqb (bit_at (two_at base dim ones twos (n / 64)) (n % 64)) 1 ≡ (has twos n || (has ones n && (has base n && not (has dim n))))
  unfolding has
  two_bit ones twos n =
      bit_or_is (get_or twos (n / 64) 0) (bit_and (get_or ones (n / 64) 0) (miss_at base dim (n / 64))) (n % 64)
      ∙ ap (λ b. eqb (bit_at (get_or twos (n / 64) 0) (n % 64)) 1 || b) (bit_and_is (get_or ones (n / 64) 0) (miss_at base dim (n / 64)) (n % 64)
      ∙ ap (λ b. eqb (bit_at (get_or ones (n / 64) 0) (n % 64)) 1 && b) (bit_lacks (get_or base (n / 64) 0) (get_or dim (n / 64) 0) (n % 64) (fits (n / 64)) (omega arith)))

  pub misses : (k : ℕ) (now : List ℕ) → length dim ≡ length base → length base ≤ k → AreSet (miss_at base dim) k now dim → (n : ℕ) → has now n ≡ (has base n && not (has dim n))
  misses k now len all h = set_has (miss_at base dim) (λ n. has base n && not (has dim n)) k now dim miss_bit
      (λ n over. ap (λ b. b && not (has dim n)) (has_past base n (omega (arith, len)))) (omega (arith, len)) h

  pub ones_noted : (ones : List ℕ) (k : ℕ) (now : List ℕ) → length ones ≡ length base → length base ≤ k → AreSet (one_at base dim ones) k now ones → (n : ℕ) → has now n ≡ (has ones n || (has base n && not (has dim n)))
  ones_noted ones k now len all h = set_has (one_at base dim ones) (λ n. has ones n || (has base n && not (has dim n))) k now ones (one_bit ones)
      (λ n over. rw (has_past ones n over, has_past base n (omega (arith, len))) refl) (omega (arith, len)) h

  pub twos_noted : (ones twos : List ℕ) (k : ℕ) (now : List ℕ) → length ones ≡ length base → length twos ≡ length base → length base ≤ k → AreSet (two_at base dim ones twos) k now twos → (n : ℕ) → has now n ≡ (has twos n || (has ones n && (has base n && not (has dim n))))
  twos_noted ones twos k now len len2 all h = set_has (two_at base dim ones twos) (λ n. has twos n || (has ones n && (has base n && not (has dim n)))) k now twos (two_bit ones twos)
      (λ n over. rw (has_past twos n over, has_past ones n (omega (arith, len, len2))) refl) (omega (arith, len2)) h
