-- The places of words from one on.
use Rattle.std.proofs.Common.{◌≡◌, ℕ, ◌-◌, ◌*◌, ◌/◌, ◌%◌, ◌^◌, ◌<◌, ◌≤◌, eqb, leb, ◌&&◌, List, get_or, set, length, sym, ap, ◌∙◌, inl, inr, arith}
use Rattle.std.proofs.lemmas.Bool.{cases_lt, le-leb, lt-leb}
use Rattle.std.proofs.lemmas.List.{get_or-set_same, get_or-set_other}
use Rattle.std.proofs.lemmas.Nat.Bits.{bit_at-zero}
use Rattle.std.specs.Prelude.{bit_and}
use Rattle.std.specs.Int.{bit_at}
use Rattle.seg_postings.specs.Rising.{from_place}
use Rattle.seg_postings.proofs.Members.{one_rising}
use Rattle.seg_postings.proofs.Order.{rising_from}
use Rattle.place_bits.specs.Words.{has, marked, marked_from, members}
use Rattle.place_bits.proofs.WordBits.{AreDone, has_past}
use Rattle.place_bits.proofs.Firsts.{high_bit, in_from, low_bit}
use Rattle.place_bits.proofs.Lists.{is_in_members, rising_members}
use Rattle.std.proofs.Math.Bool.{and-true, and-false}

-- the words before one are empty, and the others are as they were
abbrev pub AreEmptied : ℕ → List ℕ → List ℕ → Type 0
AreEmptied k now old = AreDone (λ a b. 0) k now old old

before : (now old : List ℕ) (k from n : ℕ) → AreEmptied k now old → n / 64 < k → n < from → eqb (bit_at (get_or now (n / 64) 0) (n % 64)) 1 ≡ (has old n && leb from n)
before now old k from n h lt less =
    ap (λ w. eqb (bit_at w (n % 64)) 1) (h.done (n / 64) lt) ∙ ap (λ b. eqb b 1) (bit_at-zero (n % 64)) ∙ sym (ap (λ b. has old n && b) (lt-leb from n less) ∙ and-false _)

-- from inside the words
pub left_inside : (now old : List ℕ) (k from : ℕ) → k ≡ from / 64 → k < length old → AreEmptied k now old
    → (n : ℕ) → has (set now k (bit_and (get_or now k 0) ((2 ^ 64 - 1) * 2 ^ (from % 64) % 2 ^ 64))) n ≡ (has old n && leb from n)
unfolding has
left_inside now old k from e within h n =
    let mask : ℕ = (2 ^ 64 - 1) * 2 ^ (from % 64) % 2 ^ 64 in
    let word : ℕ = bit_and (get_or now k 0) mask in
    elim (cases_lt (n / 64) k) [
      | inl less ↦ ap (λ w. eqb (bit_at w (n % 64)) 1) (get_or-set_other now k (n / 64) word 0 (λ s. omega (arith, s))) ∙ before now old k from n h less (omega arith)
      | inr ge ↦ elim (cases_lt k (n / 64)) [
        | inl more ↦
            ap (λ w. eqb (bit_at w (n % 64)) 1) (get_or-set_other now k (n / 64) word 0 (λ s. omega (arith, s)) ∙ h.rest (n / 64) ge)
            ∙ sym (ap (λ b. has old n && b) (le-leb from n (omega arith)) ∙ and-true _)
        | inr le ↦
            let same : n / 64 ≡ k = omega arith in
            let here : get_or (set now k word) (n / 64) 0 ≡ word = ap (λ j. get_or (set now k word) j 0) same ∙ get_or-set_same now k word 0 (omega (arith, h.len)) in
            ap (λ w. eqb (bit_at w (n % 64)) 1) here ∙ elim (cases_lt (n % 64) (from % 64)) [
              | inl low ↦ ap (λ b. eqb b 1) (low_bit (get_or now k 0) (from % 64) (n % 64) (omega arith) low) ∙ sym (ap (λ b. has old n && b) (lt-leb from n (omega arith)) ∙ and-false _)
              | inr high ↦
                  ap (λ b. eqb b 1) (high_bit (get_or now k 0) (from % 64) (n % 64) (omega arith) (omega arith) high)
                  ∙ ap (λ w. eqb (bit_at w (n % 64)) 1) (h.rest k (omega arith) ∙ ap (λ j. get_or old j 0) (sym same))
                  ∙ sym (ap (λ b. has old n && b) (le-leb from n (omega arith)) ∙ and-true _)
            ]
      ]
    ]

-- from past the words
pub left_past : (now old : List ℕ) (k from : ℕ) → length old ≤ k → k ≤ from / 64 → AreEmptied k now old → (n : ℕ) → has now n ≡ (has old n && leb from n)
unfolding has
left_past now old k from past le h n =
    elim (cases_lt (n / 64) k) [
      | inl less ↦ before now old k from n h less (omega arith)
      | inr ge ↦ has_past now n (omega (arith, h.len)) ∙ sym (ap (λ b. b && leb from n) (has_past old n (omega arith)))
    ]

-- the words that are left stand for what was
pub rest_marked : (now old : List ℕ) (from : ℕ) → length now ≡ length old → ((n : ℕ) → has now n ≡ (has old n && leb from n)) → marked now ≡ marked_from from old
rest_marked now old from len h =
    let list : members now ≡ from_place from (members old) =
    one_rising (members now) (from_place from (members old)) (rising_members now) (rising_from from (members old) (rising_members old))
    (λ n. is_in_members now n ∙ h n ∙ ap (λ b. b && leb from n) (sym (is_in_members old n)) ∙ sym (in_from n from (members old))) in
    λ i. record { words = len i; places = list i }
