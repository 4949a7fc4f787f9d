-- Bits of words.
use Rattle.std.proofs.Common.{◌≡◌, ℕ, zero, suc, ◌+◌, ◌*◌, ◌/◌, ◌%◌, ◌^◌, ◌<◌, ◌≤◌, ◌-◌, min, max, Bool, false, not, eqb, ◌&&◌, ◌||◌, List, get_or, set, length, refl, sym, ap, ◌∙◌, inl, inr, arith, w64}
use Rattle.std.proofs.lemmas.Bool.{cases_eq, cases_lt, eq-eqb, ne_eqb}
use Rattle.std.proofs.lemmas.List.{get_or_past, get_or-set_same, get_or-set_other}
use Rattle.std.proofs.lemmas.Nat.Bits.{bit_at_or, bit_at_and, bit_at_not, bit_at-zero, bit_at-lt, bit_at_set_same, bit_at_set_other}
use Rattle.std.specs.Prelude.{bit_and, bit_or}
use Rattle.std.specs.Int.{bit_at, bit_not}
use Rattle.place_bits.specs.Words.{has}
use Rattle.std.proofs.Math.Bool.{or-true, or-false}

pub min_bits : (a b : ℕ) → a < 2 → b < 2 → eqb (min a b) 1 ≡ (eqb a 1 && eqb b 1)
min_bits zero zero p q = refl
min_bits zero (suc zero) p q = refl
min_bits (suc zero) zero p q = refl
min_bits (suc zero) (suc zero) p q = refl
min_bits (suc (suc a)) b p q = absurd (omega arith)
min_bits zero (suc (suc b)) p q = absurd (omega arith)
min_bits (suc zero) (suc (suc b)) p q = absurd (omega arith)

max_bits : (a b : ℕ) → a < 2 → b < 2 → eqb (max a b) 1 ≡ (eqb a 1 || eqb b 1)
max_bits zero zero p q = refl
max_bits zero (suc zero) p q = refl
max_bits (suc zero) zero p q = refl
max_bits (suc zero) (suc zero) p q = refl
max_bits (suc (suc a)) b p q = absurd (omega arith)
max_bits zero (suc (suc b)) p q = absurd (omega arith)
max_bits (suc zero) (suc (suc b)) p q = absurd (omega arith)

not_bit : (b : ℕ) → b < 2 → eqb (1 - b) 1 ≡ not (eqb b 1)
not_bit zero q = refl
not_bit (suc zero) q = refl
not_bit (suc (suc b)) q = absurd (omega arith)

pub bit_and_is : (a b i : ℕ) → eqb (bit_at (bit_and a b) i) 1 ≡ (eqb (bit_at a i) 1 && eqb (bit_at b i) 1)
bit_and_is a b i = ap (λ x. eqb x 1) (bit_at_and a b i) ∙ min_bits _ _ (bit_at-lt a i) (bit_at-lt b i)

pub bit_or_is : (a b i : ℕ) → eqb (bit_at (bit_or a b) i) 1 ≡ (eqb (bit_at a i) 1 || eqb (bit_at b i) 1)
bit_or_is a b i = ap (λ x. eqb x 1) (bit_at_or a b i) ∙ max_bits _ _ (bit_at-lt a i) (bit_at-lt b i)

bit_not_is : (b i : ℕ) → b < 2 ^ 64 → i < 64 → eqb (bit_at (bit_not w64 b) i) 1 ≡ not (eqb (bit_at b i) 1)
bit_not_is b i fits within = ap (λ x. eqb x 1) (bit_at_not w64 b i fits within) ∙ not_bit _ (bit_at-lt b i)

pub bit_lacks : (a b i : ℕ) → b < 2 ^ 64 → i < 64 → eqb (bit_at (bit_and a (bit_not w64 b)) i) 1 ≡ (eqb (bit_at a i) 1 && not (eqb (bit_at b i) 1))
bit_lacks a b i fits within = bit_and_is a _ i ∙ ap (λ x. eqb (bit_at a i) 1 && x) (bit_not_is b i fits within)

-- a place by its word and its bit
pub has_at : (words : List ℕ) (k i : ℕ) → i < 64 → has words (64 * k + i) ≡ eqb (bit_at (get_or words k 0) i) 1
unfolding has
has_at words k i l =
    let word : (64 * k + i) / 64 ≡ k = omega arith in
    let bit : (64 * k + i) % 64 ≡ i = omega arith in
    ap (λ j. eqb (bit_at (get_or words j 0) ((64 * k + i) % 64)) 1) word ∙ ap (λ j. eqb (bit_at (get_or words k 0) j) 1) bit

-- beyond its words a set has no place
pub has_past : (words : List ℕ) (n : ℕ) → length words ≤ n / 64 → has words n ≡ false
unfolding has
has_past words n past = ap (λ x. eqb (bit_at x (n % 64)) 1) (get_or_past words (n / 64) 0 past) ∙ ap (λ x. eqb x 1) (bit_at-zero (n % 64))

-- Of two sets of as many words the words up to k were joined by the operation, and the others are as they were.
pub record AreDone (op : ℕ → ℕ → ℕ) (k : ℕ) (now old other : List ℕ) : Type 0 where
  pub len : length now ≡ length old
  pub done : (j : ℕ) → j < k → get_or now j 0 ≡ op (get_or old j 0) (get_or other j 0)
  pub rest : (j : ℕ) → k ≤ j → get_or now j 0 ≡ get_or old j 0

-- the operation is one on bits
abbrev pub IsByBit : (ℕ → ℕ → ℕ) → (Bool → Bool → Bool) → Type 0
IsByBit op both = (a b i : ℕ) → b < 2 ^ 64 → i < 64 → eqb (bit_at (op a b) i) 1 ≡ both (eqb (bit_at a i) 1) (eqb (bit_at b i) 1)

pub done_has : (op : ℕ → ℕ → ℕ) (both : Bool → Bool → Bool) → IsByBit op both → both false false ≡ false → (k : ℕ) (now old other : List ℕ) → length old ≡ length other
    → ((j : ℕ) → get_or other j 0 < 2 ^ 64) → length old ≤ k → AreDone op k now old other → (n : ℕ) → has now n ≡ both (has old n) (has other n)
unfolding has
done_has op both by none k now old other same fits all h n =
    elim (cases_lt (n / 64) (length old)) [
      | inl within ↦ ap (λ x. eqb (bit_at x (n % 64)) 1) (h.done (n / 64) (omega arith)) ∙ by _ _ (n % 64) (fits (n / 64)) (omega arith)
      | inr past ↦ has_past now n (omega (arith, h.len)) ∙ sym none ∙ ap (λ b. both b false) (sym (has_past old n past)) ∙ ap (λ b. both (has old n) b) (sym (has_past other n (omega arith)))
    ]

-- one bit of one word was set
pub marked_has : (words : List ℕ) (place n : ℕ) → place < 64 * length words
    → has (set words (place / 64) (bit_or (get_or words (place / 64) 0) (1 * 2 ^ (place % 64) % 2 ^ 64))) n ≡ (has words n || eqb n place)
unfolding has
marked_has words place n within =
    let mask = 1 * 2 ^ (place % 64) % 2 ^ 64 in
    let word = bit_or (get_or words (place / 64) 0) mask in
    elim (cases_eq (n / 64) (place / 64)) [
      | inl here ↦
          let is : bit_at (get_or (set words (place / 64) word) (n / 64) 0) (n % 64) ≡ bit_at word (n % 64) =
          ap (λ k. bit_at (get_or (set words (place / 64) word) k 0) (n % 64)) here ∙ ap (λ x. bit_at x (n % 64)) (get_or-set_same words (place / 64) word 0 (omega arith)) in
          elim (cases_eq (n % 64) (place % 64)) [
            | inl same ↦
                let e : n ≡ place = omega arith in
                ap (λ x. eqb x 1) (is ∙ ap (bit_at word) same ∙ bit_at_set_same w64 (get_or words (place / 64) 0) (place % 64) (omega arith))
                ∙ sym (or-true (eqb (bit_at (get_or words (n / 64) 0) (n % 64)) 1)) ∙ ap (λ b. eqb (bit_at (get_or words (n / 64) 0) (n % 64)) 1 || b) (sym (eq-eqb n place e))
            | inr other ↦
                ap (λ x. eqb x 1) (is ∙ bit_at_set_other w64 (get_or words (place / 64) 0) (place % 64) (omega arith) (n % 64) other ∙ ap (λ k. bit_at (get_or words k 0) (n % 64)) (sym here))
                ∙ sym (or-false _) ∙ ap (λ b. eqb (bit_at (get_or words (n / 64) 0) (n % 64)) 1 || b) (sym (ne_eqb n place (λ e. other (ap (λ m. m % 64) e))))
          ]
      | inr apart ↦
          ap (λ x. eqb (bit_at x (n % 64)) 1) (get_or-set_other words (place / 64) (n / 64) word 0 apart)
          ∙ sym (or-false _) ∙ ap (λ b. eqb (bit_at (get_or words (n / 64) 0) (n % 64)) 1 || b) (sym (ne_eqb n place (λ e. apart (ap (λ m. m / 64) e))))
    ]
