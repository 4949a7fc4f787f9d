-- The first place of a set from some place on.
use Rattle.std.proofs.Common.{◌≡◌, ℕ, ◌+◌, ◌-◌, ◌*◌, ◌/◌, ◌%◌, ◌^◌, ◌<◌, ◌≤◌, false, eqb, leb, ◌&&◌, ◌||◌, List, [], ◌∷◌, get_or, length, Option, None, Some, sym, ap, ◌∙◌, inl, inr, arith, w64}
use Rattle.std.proofs.lemmas.Bool.{cases_lt, eq-eqb, ne_eqb, le-leb, lt-leb}
use Rattle.std.proofs.lemmas.Nat.Bits.{bit_at-trailing_zeros, bit_at-zero, bit_at_and, bit_at_mask_inside, bit_at_mask_below, ones_shl}
use Rattle.std.specs.Prelude.{bit_and}
use Rattle.std.specs.Int.{bit_at, trailing_zeros}
use Rattle.seg_postings.specs.Rising.{IsBelowAll, IsRising, is_in, from_place}
use Rattle.seg_postings.proofs.Order.{rising_from}
use Rattle.seg_postings.proofs.Members.{one_rising, is_in_filter}
use Rattle.place_bits.specs.Words.{has, members, IsFirstIn}
use Rattle.place_bits.proofs.WordBits.{has_at, has_past}
use Rattle.place_bits.proofs.Lists.{rising_members, is_in_members}
use Rattle.std.proofs.Math.Bool.{and-true, and-false}

-- a place by its word and bit
by_word : (words : List ℕ) (k n : ℕ) → 64 * k ≤ n → n < 64 * k + 64 → has words n ≡ eqb (bit_at (get_or words k 0) (n - 64 * k)) 1
by_word words k n low high = let e : n ≡ 64 * k + (n - 64 * k) = omega arith in ap (has words) e ∙ has_at words k (n - 64 * k) (omega arith)

-- no place is there from one to another
abbrev pub HasNone : List ℕ → ℕ → ℕ → Type 0
HasNone words from to = (n : ℕ) → from ≤ n → n < to → has words n ≡ false

pub none_more : (words : List ℕ) (from k : ℕ) → HasNone words from (64 * k) → get_or words k 0 ≡ 0 → HasNone words from (64 * (k + 1))
none_more words from k h e n low high =
    elim (cases_lt n (64 * k)) [
      | inl before ↦ h n low before
      | inr here ↦ by_word words k n here (omega arith) ∙ ap (λ w. eqb (bit_at w (n - 64 * k)) 1) e ∙ ap (λ b. eqb b 1) (bit_at-zero (n - 64 * k))
    ]

pub none_past : (words : List ℕ) (from k : ℕ) → length words ≤ k → HasNone words from (64 * k) → IsFirstIn words from None
none_past words from k past h n low =
    elim (cases_lt n (64 * k)) [
      | inl before ↦ h n low before
      | inr after ↦ has_past words n (omega arith)
    ]

pub found : (words : List ℕ) (from k word : ℕ) → HasNone words from (64 * k) → from ≤ 64 * k → word ≡ get_or words k 0 → 0 < word → word < 2 ^ 64 → IsFirstIn words from (Some (k * 64 + trailing_zeros w64 word))
found words from k word h low e some fits =
    let t : ℕ = trailing_zeros w64 word in
    let lowest = bit_at-trailing_zeros w64 word some fits in
    let within : t < 64 = lowest.0 in
    let place : k * 64 + t ≡ 64 * k + t = omega arith in (
      omega arith,
      ap (has words) place ∙ has_at words k t within ∙ ap (λ w. eqb (bit_at w t) 1) (sym e) ∙ ap (λ b. eqb b 1) lowest.1,
      λ n l u. elim (cases_lt n (64 * k)) [
        | inl before ↦ h n l before
        | inr here ↦ by_word words k n here (omega arith) ∙ ap (λ w. eqb (bit_at w (n - 64 * k)) 1) (sym e) ∙ ap (λ b. eqb b 1) (lowest.2 (n - 64 * k) (omega arith))
      ],
    )

-- the bits of a word from one on
pub high_bit : (w s i : ℕ) → s < 64 → i < 64 → s ≤ i → bit_at (bit_and w ((2 ^ 64 - 1) * 2 ^ s % 2 ^ 64)) i ≡ bit_at w i
high_bit w s i small within le =
    ap (λ m. bit_at (bit_and w m) i) (ones_shl 64 s (omega arith)) ∙ bit_at_and w (2 ^ 64 - 2 ^ s) i ∙ omega (arith, bit_at_mask_inside s 64 i le within)

pub low_bit : (w s i : ℕ) → s < 64 → i < s → bit_at (bit_and w ((2 ^ 64 - 1) * 2 ^ s % 2 ^ 64)) i ≡ 0
low_bit w s i small less =
    ap (λ m. bit_at (bit_and w m) i) (ones_shl 64 s (omega arith)) ∙ bit_at_and w (2 ^ 64 - 2 ^ s) i ∙ omega (arith, bit_at_mask_below s 64 i less)

-- what is left of a word, and nothing is
pub none_left : (words : List ℕ) (from left : ℕ) → left ≡ bit_and (get_or words (from / 64) 0) ((2 ^ 64 - 1) * 2 ^ (from % 64) % 2 ^ 64) → left ≡ 0 → HasNone words from (64 * (from / 64 + 1))
none_left words from left e none n low high =
    let k = from / 64 in
    let i : ℕ = n - 64 * k in
    by_word words k n (omega arith) (omega arith) ∙ ap (λ b. eqb b 1) (sym (high_bit (get_or words k 0) (from % 64) i (omega arith) (omega arith) (omega arith)) ∙ ap (λ w. bit_at w i) (sym e ∙ none) ∙ bit_at-zero i)

pub left_found : (words : List ℕ) (from left : ℕ) → left ≡ bit_and (get_or words (from / 64) 0) ((2 ^ 64 - 1) * 2 ^ (from % 64) % 2 ^ 64) → 0 < left → left < 2 ^ 64
    → IsFirstIn words from (Some (from / 64 * 64 + trailing_zeros w64 left))
left_found words from left e some fits =
    let k : ℕ = from / 64 in
    let s : ℕ = from % 64 in
    let w : ℕ = get_or words k 0 in
    let t : ℕ = trailing_zeros w64 left in
    let lowest = bit_at-trailing_zeros w64 left some fits in
    let within : t < 64 = lowest.0 in
    let place : k * 64 + t ≡ 64 * k + t = omega arith in
    let high : s ≤ t = elim (cases_lt t s) [
      | inl less ↦ let zero_is : bit_at left t ≡ 0 = ap (λ x. bit_at x t) e ∙ low_bit w s t (omega arith) less in absurd (omega (arith, zero_is, lowest.1))
      | inr le ↦ le
    ] in (
      omega arith,
      ap (has words) place ∙ has_at words k t within ∙ ap (λ b. eqb b 1) (sym (high_bit w s t (omega arith) within high) ∙ ap (λ x. bit_at x t) (sym e) ∙ lowest.1),
      λ n l u. by_word words k n (omega arith) (omega arith) ∙ ap (λ b. eqb b 1) (sym (high_bit w s (n - 64 * k) (omega arith) (omega arith) (omega arith)) ∙ ap (λ x. bit_at x (n - 64 * k)) (sym e) ∙ lowest.2 (n - 64 * k) (omega arith)),
    )

-- ---- as lists

below_after : (x : ℕ) (xs : List ℕ) → IsBelowAll x (from_place (x + 1) xs)
unfolding from_place
below_after x [] = tt
below_after x (y ∷ ys) =
    elim (cases_lt y (x + 1)) [
      | inl lt ↦ rw (lt-leb (x + 1) y lt) (below_after x ys)
      | inr ge ↦ rw (le-leb (x + 1) y ge) (omega arith, below_after x ys)
    ]

pub in_from : (n p : ℕ) (xs : List ℕ) → is_in n (from_place p xs) ≡ (is_in n xs && leb p n)
unfolding from_place
in_from n p xs = is_in_filter (λ y. leb p y) n xs

pub next_none : (words : List ℕ) (from : ℕ) → IsFirstIn words from None → from_place from (members words) ≡ []
next_none words from h =
    one_rising (from_place from (members words)) [] (rising_from from (members words) (rising_members words)) tt
    (λ n. in_from n from (members words) ∙ elim (cases_lt n from) [
      | inl lt ↦ ap (λ b. is_in n (members words) && b) (lt-leb from n lt) ∙ and-false _
      | inr ge ↦ ap (λ b. b && leb from n) (is_in_members words n ∙ h n ge)
    ])

pub next_some : (words : List ℕ) (from x : ℕ) → IsFirstIn words from (Some x) → from_place from (members words) ≡ x ∷ from_place (x + 1) (members words)
next_some words from x h =
    let xs = members words in
    one_rising (from_place from xs) (x ∷ from_place (x + 1) xs) (rising_from from xs (rising_members words)) (below_after x xs, rising_from (x + 1) xs (rising_members words))
    (λ n. in_from n from xs ∙ elim (cases_lt n x) [
      | inl lt ↦
          let out : (is_in n xs && leb from n) ≡ false = elim (cases_lt n from) [
            | inl less ↦ ap (λ b. is_in n xs && b) (lt-leb from n less) ∙ and-false _
            | inr ge ↦ ap (λ b. b && leb from n) (is_in_members words n ∙ h.2 n ge lt)
          ] in
          out ∙ sym ((λ i. ne_eqb n x (λ e. omega arith) i || in_from n (x + 1) xs i) ∙ ap (λ b. is_in n xs && b) (lt-leb (x + 1) n (omega arith)) ∙ and-false _)
      | inr ge ↦ elim (cases_lt x n) [
        | inl gt ↦ ap (λ b. is_in n xs && b) (le-leb from n (omega (arith, h.0))) ∙ sym ((λ i. ne_eqb n x (λ e. omega arith) i || in_from n (x + 1) xs i) ∙ ap (λ b. is_in n xs && b) (le-leb (x + 1) n (omega arith)))
        | inr le ↦
            let e : n ≡ x = omega arith in
            (λ i. (is_in_members words n ∙ ap (has words) e ∙ h.1) i && le-leb from n (omega (arith, h.0)) i) ∙ sym (ap (λ b. b || is_in n (from_place (x + 1) xs)) (eq-eqb n x e))
      ]
    ])

pub rising_left : (words : List ℕ) (p : ℕ) → IsRising (from_place p (members words))
rising_left words p = rising_from p (members words) (rising_members words)

pub later : (q p : ℕ) (words : List ℕ) → q ≤ p → from_place p (members words) ≡ from_place p (from_place q (members words))
later q p words le =
    let xs = members words in
    one_rising (from_place p xs) (from_place p (from_place q xs)) (rising_left words p) (rising_from p (from_place q xs) (rising_left words q))
    (λ n. in_from n p xs ∙ sym (in_from n p (from_place q xs) ∙ ap (λ b. b && leb p n) (in_from n q xs) ∙ elim (cases_lt n p) [
      | inl lt ↦ ap (λ b. (is_in n xs && leb q n) && b) (lt-leb p n lt) ∙ and-false _ ∙ sym (ap (λ b. is_in n xs && b) (lt-leb p n lt) ∙ and-false _)
      | inr ge ↦ ap (λ b. (is_in n xs && b) && leb p n) (le-leb q n (omega arith)) ∙ ap (λ b. b && leb p n) (and-true _)
    ]))

pub keeps : (q p : ℕ) (words : List ℕ) → p ≤ q → from_place q (members words) ≡ from_place p (from_place q (members words))
keeps q p words le =
    let xs = members words in
    one_rising (from_place q xs) (from_place p (from_place q xs)) (rising_left words q) (rising_from p (from_place q xs) (rising_left words q))
    (λ n. in_from n q xs ∙ sym (in_from n p (from_place q xs) ∙ ap (λ b. b && leb p n) (in_from n q xs) ∙ elim (cases_lt n q) [
      | inl lt ↦ ap (λ b. (is_in n xs && b) && leb p n) (lt-leb q n lt) ∙ ap (λ b. b && leb p n) (and-false _) ∙ sym (ap (λ b. is_in n xs && b) (lt-leb q n lt) ∙ and-false _)
      | inr ge ↦ ap (λ b. (is_in n xs && leb q n) && b) (le-leb p n (omega arith)) ∙ and-true _
    ]))

-- from the first word on, after what was left of the word before
pub later_word : (words : List ℕ) (from to : ℕ) (result : Option ℕ) → from ≤ to → HasNone words from to → IsFirstIn words to result → IsFirstIn words from result
later_word words from to None le h f = λ n l. elim (cases_lt n to) [
  | inl lt ↦ h n l lt
  | inr ge ↦ f n ge
]
later_word words from to (Some x) le h f = (
  omega (arith, f.0),
  f.1,
  λ n l u. elim (cases_lt n to) [
    | inl lt ↦ h n l lt
    | inr ge ↦ f.2 n ge u
  ],
)
