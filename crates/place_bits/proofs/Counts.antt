-- How many places a set has, by the numbers of ones of its words.
use Rattle.std.proofs.Common.{◌≡◌, ℕ, zero, suc, ◌+◌, ◌*◌, ◌^◌, ◌<◌, ◌≤◌, Bool, true, false, cond, eqb, ◌&&◌, List, [], ◌∷◌, ◌++◌, map, get_or, length, refl, sym, ap, subst, ◌∙◌, arith}
use Rattle.std.proofs.lemmas.List.{length-append}
use Rattle.std.proofs.lemmas.List.Elements.{filter-append, filter_agree}
use Rattle.std.proofs.lemmas.List.Sums.{length-filter, count_by-le-length}
use Rattle.std.proofs.lemmas.List.FromFn.{length-range_with_len, length-map-range_with_len, get_or-map-range_with_len}
use Rattle.std.proofs.lemmas.Nat.Bits.{bit_at-lt, same_from_bits_below}
use Rattle.std.proofs.lemmas.Simd.{mask_l-lt, bit_mask_l, ones-mask_l}
use lib.Lanes.{mask_l}
use Rattle.std.specs.Int.RustNames.{count_ones}
use Rattle.std.specs.Int.{bit_at}
use Rattle.std.specs.List.{filter, range_with_len}
use Rattle.std.proofs.lemmas.Nat.{and_le_l}
use Rattle.std.specs.Prelude.{bit_and}
use Rattle.place_bits.specs.Words.{has, members}
use Rattle.place_bits.proofs.Lists.{is_in_members}
use Rattle.seg_postings.specs.Rising.{is_in}
use Rattle.place_bits.proofs.WordBits.{bit_and_is, has_at}
use Rattle.std.proofs.Math.Bool.{and_self}

bit_is : (b : ℕ) → b < 2 → b ≡ cond (eqb b 1) 1 0
bit_is zero l = refl
bit_is (suc zero) l = refl
bit_is (suc (suc b)) l = absurd (omega arith)

-- a word as the list of its bits
word_bits : (k w : ℕ) → w < 2 ^ k → w ≡ mask_l (map (λ i. eqb (bit_at w i) 1) (range_with_len 0 k))
word_bits k w fits =
    let test : ℕ → Bool = λ i. eqb (bit_at w i) 1 in
    let bits : List Bool = map test (range_with_len 0 k) in
    let long : length bits ≡ k = length-map-range_with_len test 0 k in
    same_from_bits_below k w (mask_l bits) fits (subst (λ n. mask_l bits < 2 ^ n) long (mask_l-lt bits))
    (λ i l. bit_is (bit_at w i) (bit_at-lt w i) ∙ ap (λ b. cond b 1 0) (sym (get_or-map-range_with_len test 0 k i i false l (omega arith))) ∙ sym (bit_mask_l bits i))

-- a word has as many ones as it has members
word_count : (k w : ℕ) → w < 2 ^ k → count_ones w ≡ length (filter (λ i. eqb (bit_at w i) 1) (range_with_len 0 k))
word_count k w fits =
    let test : ℕ → Bool = λ i. eqb (bit_at w i) 1 in
    ap count_ones (word_bits k w fits) ∙ ones-mask_l test (range_with_len 0 k) ∙ sym (length-filter test (range_with_len 0 k))

range_split : (a m n : ℕ) → range_with_len a (m + n) ≡ range_with_len a m ++ range_with_len (a + m) n
range_split a zero n = let e : a ≡ a + 0 = omega arith in let z : 0 + n ≡ n = omega arith in ap (range_with_len a) z ∙ ap (λ b. range_with_len b n) e
range_split a (suc m) n = let z : suc m + n ≡ suc (m + n) = omega arith in let e : a + 1 + m ≡ a + suc m = omega arith in ap (range_with_len a) z ∙ ap (λ xs. a ∷ xs) (range_split (a + 1) m n ∙ ap (λ b. range_with_len (a + 1) m ++ range_with_len b n) e)

kept_as : (b c : Bool) (x y : ℕ) (xs ys : List ℕ) → b ≡ c → length xs ≡ length ys → length (cond b (x ∷ xs) xs) ≡ length (cond c (y ∷ ys) ys)
kept_as true true x y xs ys e h = ap suc h
kept_as false false x y xs ys e h = h
kept_as true false x y xs ys e h = absurd cc
kept_as false true x y xs ys e h = absurd cc

-- the same tests in another place
moved : (p q : ℕ → Bool) (a b n : ℕ) → ((i : ℕ) → i < n → p (a + i) ≡ q (b + i)) → length (filter p (range_with_len a n)) ≡ length (filter q (range_with_len b n))
moved p q a b zero h = refl
moved p q a b (suc n) h =
    let x : a + 0 ≡ a = omega arith in
    let y : b + 0 ≡ b = omega arith in
    let rest : (i : ℕ) → i < n → p (a + 1 + i) ≡ q (b + 1 + i) =
    λ i l. let u : a + 1 + i ≡ a + suc i = omega arith in let v : b + suc i ≡ b + 1 + i = omega arith in ap p u ∙ h (suc i) (omega arith) ∙ ap q v in
    kept_as (p a) (q b) a b _ _ (ap p (sym x) ∙ h 0 (omega arith) ∙ ap q y) (moved p q (a + 1) (b + 1) n rest)

-- how many of the first places pass
abbrev pub passing : (ℕ → Bool) → ℕ → ℕ
passing p n = length (filter p (range_with_len 0 n))

pub passing_most : (p : ℕ → Bool) (n : ℕ) → passing p n ≤ n
passing_most p n = omega (arith, length-filter p (range_with_len 0 n), count_by-le-length p (range_with_len 0 n), length-range_with_len 0 n)

-- one word more
pub passing_more : (p : ℕ → Bool) (k w : ℕ) → w < 2 ^ 64 → ((i : ℕ) → i < 64 → p (64 * k + i) ≡ eqb (bit_at w i) 1) → passing p (64 * (k + 1)) ≡ passing p (64 * k) + count_ones w
passing_more p k w fits same =
    let e : 64 * (k + 1) ≡ 64 * k + 64 = omega arith in
    let z : 0 + 64 * k ≡ 64 * k = omega arith in
    ap (passing p) e ∙ ap (λ xs. length (filter p xs)) (range_split 0 (64 * k) 64 ∙ ap (λ a. range_with_len 0 (64 * k) ++ range_with_len a 64) z) ∙ ap length (filter-append p (range_with_len 0 (64 * k)) (range_with_len (64 * k) 64))
    ∙ length-append (filter p (range_with_len 0 (64 * k))) (filter p (range_with_len (64 * k) 64))
    ∙ ap (λ n. passing p (64 * k) + n) (moved p (λ i. eqb (bit_at w i) 1) (64 * k) 0 64 (λ i l. let z : i ≡ 0 + i = omega arith in same i l ∙ ap (λ j. eqb (bit_at w j) 1) z) ∙ sym (word_count 64 w fits))

pub common_more : (words other : List ℕ) (k : ℕ) → get_or words k 0 < 2 ^ 64
    → passing (λ n. has words n && has other n) (64 * (k + 1)) ≡ passing (λ n. has words n && has other n) (64 * k) + count_ones (bit_and (get_or words k 0) (get_or other k 0))
common_more words other k fits =
    let a = get_or words k 0 in
    let b = get_or other k 0 in
    passing_more (λ n. has words n && has other n) k (bit_and a b) (omega (arith, and_le_l a b))
    (λ i l. ap (λ x. x && has other (64 * k + i)) (has_at words k i l) ∙ ap (λ x. eqb (bit_at a i) 1 && x) (has_at other k i l) ∙ sym (bit_and_is a b i))

filter_twice : (p q : ℕ → Bool) (xs : List ℕ) → filter (λ n. p n && q n) xs ≡ filter q (filter p xs)
filter_twice p q [] = refl
filter_twice p q (x ∷ xs) = elim (p x) as (λ b. cond (b && q x) (x ∷ filter (λ n. p n && q n) xs) (filter (λ n. p n && q n) xs) ≡ filter q (cond b (x ∷ filter p xs) (filter p xs))) [
  | true ↦ ap (λ (ys : List ℕ). cond (q x) (x ∷ ys) ys) (filter_twice p q xs)
  | false ↦ filter_twice p q xs
]

pub common_list : (old other : List ℕ) → filter (λ n. has old n && has other n) (range_with_len 0 (64 * length old)) ≡ filter (λ n. is_in n (members other)) (members old)
unfolding members
common_list old other =
    filter_twice (has old) (has other) (range_with_len 0 (64 * length old))
    ∙ filter_agree (has other) (λ n. is_in n (members other)) (λ n. sym (is_in_members other n)) (filter (has old) (range_with_len 0 (64 * length old)))

pub whole_list : (old : List ℕ) → filter (λ n. has old n && has old n) (range_with_len 0 (64 * length old)) ≡ members old
unfolding members
whole_list old = filter_agree _ (has old) (λ n. and_self (has old n)) _
