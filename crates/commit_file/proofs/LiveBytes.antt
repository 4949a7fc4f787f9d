-- Bits that were spelled are read again, and bits that were read are spelled so.
use Rattle.std.proofs.Common.{◌≡◌, ℕ, zero, suc, ◌+◌, ◌-◌, ◌*◌, ◌/◌, ◌%◌, ◌^◌, ◌<◌, ◌≤◌, Bool, true, false, not, cond, eqb, ltb, List, [], ◌∷◌, ◌++◌, set, length, map, get_or, refl, sym, ap, subst, ◌∙◌, arith, inl, inr}
use Rattle.std.specs.Prelude.{◌&&◌, ◌||◌, ◌≢◌, slice_index, bit_and, if◌then◌else◌}
use Rattle.std.specs.Int.{bit_at, bit_not, w8}
use Rattle.std.specs.List.{AllByRecursion, filter, list_all, range_with_len, sum_by}
use Rattle.std.proofs.lemmas.Bool.{cases_lt, lt-ltb, le-ltb, eq-eqb, ne_eqb, not-true, and_parts, and_from, cases_eq, true≢false, false_from_ne_true}
use Rattle.std.proofs.lemmas.List.{append-nil, ext_get_or, get_or_default, length-append, length-set, get_or-set_same, get_or-set_other, get_or-append_right, set-append_right}
use Rattle.std.proofs.lemmas.List.Elements.{filter-append}
use Rattle.std.proofs.lemmas.List.FromFn.{length-map-range_with_len, get_or-map-range_with_len, map-range_with_len_more}
use Rattle.std.proofs.lemmas.Nat.{and_le_l}
use Rattle.std.proofs.lemmas.Nat.Bits.{bit_at_lowest, bit_at-lt, bit_at_cat_low, bit_at_cat_high, bit_at_clear_same, bit_at_clear_other, same_from_bits_below}
use Rattle.facet_codec.specs.Places.{IsBytes}
use Rattle.facet_codec.specs.Laws.{IsBelow}
use Rattle.facet_model.specs.Stored.{is_dead}
use Rattle.seg_postings.specs.Rising.{IsBelowAll, IsRising, is_in}
use Rattle.seg_postings.proofs.Order.{rising_filter}
use Rattle.seg_postings.proofs.Members.{is_in_filter, one_rising}
use Rattle.commit_file.specs.LiveBits.{bits_len, live_bit, byte_at, bits_of, is_set, dead_in, none_past, are_bits}

-- ---- a number by its bits

-- the number with these first n bits
abbrev sum_bits : (ℕ → ℕ) → ℕ → ℕ
sum_bits bit zero = 0
sum_bits bit (suc n) = bit n * 2 ^ n + sum_bits bit n

one_bit_more : (b n s : ℕ) → b ≤ 1 → s < 2 ^ n → b * 2 ^ n + s < 2 ^ suc n
one_bit_more zero n s one less = omega (arith, less)
one_bit_more (suc zero) n s one less = omega (arith, less)
one_bit_more (suc (suc b)) n s one less = absurd (omega (arith, one))

sum_below : (bit : ℕ → ℕ) → ((i : ℕ) → bit i ≤ 1) → (n : ℕ) → sum_bits bit n < 2 ^ n
sum_below bit one zero = omega arith
sum_below bit one (suc n) = one_bit_more (bit n) n (sum_bits bit n) (one n) (sum_below bit one n)

sum_bit : (bit : ℕ → ℕ) → ((i : ℕ) → bit i ≤ 1) → (n i : ℕ) → i < n → bit_at (sum_bits bit n) i ≡ bit i
sum_bit bit one zero i lt = absurd (omega (arith, lt))
sum_bit bit one (suc n) i lt =
    elim (cases_lt i n) [
      | inl low ↦ bit_at_cat_low (bit n) n (sum_bits bit n) i low ∙ sum_bit bit one n i low
      | inr ge ↦
          let same : i ≡ n = omega (arith, ge, lt) in
          let none : i - n ≡ 0 = omega (arith, same) in
          bit_at_cat_high (bit n) n (sum_bits bit n) i (sum_below bit one n) ge
          ∙ ap (bit_at (bit n)) none ∙ bit_at_lowest (bit n) ∙ omega (arith, one n) ∙ ap bit (sym same)
    ]

eight_bits : (bit : ℕ → ℕ) → sum_by (λ i. bit i * 2 ^ i) (range_with_len 0 8) ≡ sum_bits bit 8
eight_bits bit = omega arith

-- ---- a byte

one_bit : (documents : ℕ) (dead : List ℕ) (k : ℕ) → live_bit documents dead k ≤ 1
one_bit documents dead k = by (ltb k documents && not (is_dead dead k))
  where
    by : (b : Bool) → cond b 1 0 ≤ 1
    by true = omega arith
    by false = omega arith

byte_below : (documents : ℕ) (dead : List ℕ) (j : ℕ) → byte_at documents dead j < 2 ^ 8
byte_below documents dead j =
    let bit : ℕ → ℕ = λ i. live_bit documents dead (8 * j + i) in
    omega (arith, eight_bits bit, sum_below bit (λ i. one_bit documents dead (8 * j + i)) 8)

byte_bit : (documents : ℕ) (dead : List ℕ) (j i : ℕ) → i < 8 → bit_at (byte_at documents dead j) i ≡ live_bit documents dead (8 * j + i)
byte_bit documents dead j i low =
    let bit : ℕ → ℕ = λ i. live_bit documents dead (8 * j + i) in
    ap (λ n. bit_at n i) (eight_bits bit) ∙ sum_bit bit (λ i. one_bit documents dead (8 * j + i)) 8 i low

-- ---- the numbers of a range

below_range : (x a n : ℕ) → x < a → IsBelowAll x (range_with_len a n)
below_range x a zero lt = tt
below_range x a (suc n) lt = (lt, below_range x (a + 1) n (omega (arith, lt)))

rising_range : (a n : ℕ) → IsRising (range_with_len a n)
rising_range a zero = tt
rising_range a (suc n) = (below_range a (a + 1) n (omega arith), rising_range (a + 1) n)

inside : (q a n : ℕ) → a ≤ q → q < a + n → is_in q (range_with_len a n) ≡ true
inside q a zero le lt = absurd (omega (arith, le, lt))
inside q a (suc n) le lt =
    elim (cases_lt a q) [
      | inl more ↦ rw (ne_eqb q a (λ e. omega (arith, e, more)), inside q (a + 1) n (omega (arith, more)) (omega (arith, lt))) refl
      | inr same ↦ rw (eq-eqb q a (omega (arith, same, le))) refl
    ]

outside : (q a n : ℕ) → a + n ≤ q → is_in q (range_with_len a n) ≡ false
outside q a zero ge = refl
outside q a (suc n) ge = rw (ne_eqb q a (λ e. omega (arith, e, ge)), outside q (a + 1) n (omega (arith, ge))) refl

all_of_range : (p : ℕ → Bool) (a n : ℕ) → ((k : ℕ) → a ≤ k → k < a + n → p k ≡ true) → list_all p (range_with_len a n) ≡ true
all_of_range p a zero each = refl
all_of_range p a (suc n) each = rw (each a (omega arith) (omega arith), all_of_range p (a + 1) n (λ k le lt. each k (omega (arith, le)) (omega (arith, lt)))) refl

each_of_range : (p : ℕ → Bool) (a n : ℕ) → list_all p (range_with_len a n) ≡ true → (k : ℕ) → a ≤ k → k < a + n → p k ≡ true
each_of_range p a zero all k le lt = absurd (omega (arith, le, lt))
each_of_range p a (suc n) all k le lt =
    let parts = and_parts (p a) (list_all p (range_with_len (a + 1) n)) all in
    elim (cases_lt a k) [
      | inl more ↦ each_of_range p (a + 1) n parts.1 k (omega (arith, more)) (omega (arith, lt))
      | inr same ↦ let e : k ≡ a = omega (arith, same, le) in ap p e ∙ parts.0
    ]

-- ---- records that are not live

is_in-is_dead : (q : ℕ) (dead : List ℕ) → is_in q dead ≡ is_dead dead q
is_in-is_dead q [] = refl
is_in-is_dead q (d ∷ ds) = ap (λ b. eqb q d || b) (is_in-is_dead q ds)

past_all : (q n : ℕ) (dead : List ℕ) → AllByRecursion (IsBelow n) dead → n ≤ q → is_in q dead ≡ false
past_all q n [] below le = refl
past_all q n (d ∷ ds) below le = rw (ne_eqb q d (λ e. omega (arith, e, below.0, le)), past_all q n ds below.1 le) refl

dead_inside : (documents : ℕ) (bits : List ℕ) (q : ℕ) → q < documents → is_in q (dead_in documents bits) ≡ not (is_set bits q)
dead_inside documents bits q lt = is_in_filter (λ k. not (is_set bits k)) q (range_with_len 0 documents) ∙ ap (λ b. b && not (is_set bits q)) (inside q 0 documents (omega arith) (omega (arith, lt)))

dead_outside : (documents : ℕ) (bits : List ℕ) (q : ℕ) → documents ≤ q → is_in q (dead_in documents bits) ≡ false
dead_outside documents bits q ge = is_in_filter (λ k. not (is_set bits k)) q (range_with_len 0 documents) ∙ ap (λ b. b && not (is_set bits q)) (outside q 0 documents (omega (arith, ge)))

pub dead_rises : (documents : ℕ) (bits : List ℕ) → IsRising (dead_in documents bits)
dead_rises documents bits = rising_filter (λ k. not (is_set bits k)) (range_with_len 0 documents) (rising_range 0 documents)

-- ---- what was spelled is read

pub bits_long : (documents : ℕ) (dead : List ℕ) → length (bits_of documents dead) ≡ bits_len documents
bits_long documents dead = length-map-range_with_len (byte_at documents dead) 0 (bits_len documents)

tested : (b : Bool) → eqb (cond b 1 0) 1 ≡ b
tested true = refl
tested false = refl

set_again : (documents : ℕ) (dead : List ℕ) (k : ℕ) → k < 8 * bits_len documents → is_set (bits_of documents dead) k ≡ (ltb k documents && not (is_dead dead k))
set_again documents dead k lt =
    let byte : slice_index (bits_of documents dead) (k / 8) ≡ byte_at documents dead (k / 8) = get_or-map-range_with_len (byte_at documents dead) 0 (bits_len documents) (k / 8) (k / 8) 0 (omega (arith, lt)) (omega arith) in
    let whole : 8 * (k / 8) + k % 8 ≡ k = omega arith in
    ap (λ n. eqb (bit_at n (k % 8)) 1) byte
    ∙ ap (λ n. eqb n 1) (byte_bit documents dead (k / 8) (k % 8) (omega arith) ∙ ap (live_bit documents dead) whole)
    ∙ tested (ltb k documents && not (is_dead dead k))

inside_bits : (documents k : ℕ) → k < documents → k < 8 * bits_len documents
inside_bits documents k lt = omega (arith, lt)

not_not : (b : Bool) → not (true && not b) ≡ b
not_not true = refl
not_not false = refl

pub dead_again : (documents : ℕ) (dead : List ℕ) → IsRising dead → AllByRecursion (IsBelow documents) dead → dead_in documents (bits_of documents dead) ≡ dead
dead_again documents dead rise below = one_rising (dead_in documents (bits_of documents dead)) dead (dead_rises documents (bits_of documents dead)) rise (λ q.
    elim (cases_lt q documents) [
      | inl lt ↦
          dead_inside documents (bits_of documents dead) q lt
          ∙ ap not (set_again documents dead q (inside_bits documents q lt) ∙ ap (λ b. b && not (is_dead dead q)) (lt-ltb q documents lt))
          ∙ not_not (is_dead dead q) ∙ sym (is_in-is_dead q dead)
      | inr ge ↦ dead_outside documents (bits_of documents dead) q ge ∙ sym (past_all q documents dead below ge)
    ])

pub none_past_again : (documents : ℕ) (dead : List ℕ) → none_past documents (bits_of documents dead) ≡ true
none_past_again documents dead =
    let bits = bits_of documents dead in
    all_of_range (λ k. not (is_set bits k)) documents (8 * length bits - documents) (λ k ge lt.
    ap not (set_again documents dead k (omega (arith, lt, bits_long documents dead)) ∙ ap (λ b. b && not (is_dead dead k)) (le-ltb k documents ge)))

pub are_bits_again : (documents : ℕ) (dead : List ℕ) → IsRising dead → AllByRecursion (IsBelow documents) dead → length dead ≤ documents → are_bits documents (documents - length dead) (bits_of documents dead) ≡ true
are_bits_again documents dead rise below few =
    and_from (eqb (length (dead_in documents (bits_of documents dead)) + (documents - length dead)) documents) (none_past documents (bits_of documents dead))
    (eq-eqb _ documents (ap (λ (ds : List ℕ). length ds + (documents - length dead)) (dead_again documents dead rise below) ∙ omega (arith, few)))
    (none_past_again documents dead)

-- ---- what was read is spelled so

below_filter : (p : ℕ → Bool) (a n : ℕ) → AllByRecursion (IsBelow (a + n)) (filter p (range_with_len a n))
below_filter p a zero = tt
below_filter p a (suc n) = by (p a) (subst (λ (m : ℕ). AllByRecursion (IsBelow m) (filter p (range_with_len (a + 1) n))) (omega arith) (below_filter p (a + 1) n))
  where
    by : (b : Bool) → AllByRecursion (IsBelow (a + suc n)) (filter p (range_with_len (a + 1) n)) → AllByRecursion (IsBelow (a + suc n)) (cond b (a ∷ filter p (range_with_len (a + 1) n)) (filter p (range_with_len (a + 1) n)))
    by true all = (omega arith, all)
    by false all = all

pub dead_below : (documents : ℕ) (bits : List ℕ) → AllByRecursion (IsBelow documents) (dead_in documents bits)
dead_below documents bits = subst (λ (m : ℕ). AllByRecursion (IsBelow m) (dead_in documents bits)) (omega arith) (below_filter (λ k. not (is_set bits k)) 0 documents)

cond_bit : (b : ℕ) → b < 2 → cond (eqb b 1) 1 0 ≡ b
cond_bit zero lt = refl
cond_bit (suc zero) lt = refl
cond_bit (suc (suc b)) lt = absurd (omega (arith, lt))

zero_bit : (inside live set : Bool) (n : ℕ) → inside ≡ false → set ≡ false → set ≡ eqb n 1 → cond (eqb n 1) 1 0 ≡ n → cond (inside && live) 1 0 ≡ n
zero_bit inside live set n out unset is value = rw out (ap (λ b. cond b 1 0) (sym unset ∙ is) ∙ value)

one_bit_is : (inside dead set : Bool) (n : ℕ) → inside ≡ true → dead ≡ not set → set ≡ eqb n 1 → cond (eqb n 1) 1 0 ≡ n → cond (inside && not dead) 1 0 ≡ n
one_bit_is inside dead set n within is bit value = rw (within, is) (ap (λ b. cond b 1 0) (not_not set ∙ bit) ∙ value)

same_bit : (documents : ℕ) (bits : List ℕ) (j i : ℕ) → i < 8 → j < length bits → none_past documents bits ≡ true → live_bit documents (dead_in documents bits) (8 * j + i) ≡ bit_at (get_or bits j 0) i
same_bit documents bits j i low within none =
    let k = 8 * j + i in
    let byte : k / 8 ≡ j = omega (arith, low) in
    let place : k % 8 ≡ i = omega (arith, low) in
    let bit : is_set bits k ≡ eqb (bit_at (get_or bits j 0) i) 1 = λ x. eqb (bit_at (get_or bits (byte x) 0) (place x)) 1 in
    let value = cond_bit (bit_at (get_or bits j 0) i) (bit_at-lt (get_or bits j 0) i) in
    elim (cases_lt k documents) [
      | inl lt ↦
          one_bit_is (ltb k documents) (is_dead (dead_in documents bits) k) (is_set bits k) (bit_at (get_or bits j 0) i) (lt-ltb k documents lt) (sym (is_in-is_dead k (dead_in documents bits)) ∙ dead_inside documents bits k lt) bit value
      | inr ge ↦
          let unset : is_set bits k ≡ false = not-true (is_set bits k) (each_of_range (λ k. not (is_set bits k)) documents (8 * length bits - documents) none k ge (omega (arith, ge, low, within))) in
          zero_bit (ltb k documents) (not (is_dead (dead_in documents bits) k)) (is_set bits k) (bit_at (get_or bits j 0) i) (le-ltb k documents ge) unset bit value
    ]

pub bits_found : (documents : ℕ) (bits : List ℕ) → length bits ≡ bits_len documents → IsBytes bits → none_past documents bits ≡ true → bits_of documents (dead_in documents bits) ≡ bits
bits_found documents bits long bytes none =
    let dead = dead_in documents bits in
    ext_get_or 0 (bits_of documents dead) bits (bits_long documents dead ∙ sym long) (λ j lt.
    let here : j < bits_len documents = omega (arith, lt, bits_long documents dead) in
    let byte : get_or (bits_of documents dead) j 0 ≡ byte_at documents dead j = get_or-map-range_with_len (byte_at documents dead) 0 (bits_len documents) j j 0 here (omega arith) in
    byte ∙ same_from_bits_below 8 (byte_at documents dead j) (get_or bits j 0) (byte_below documents dead j) (bytes j)
    (λ i low. byte_bit documents dead j i low ∙ same_bit documents bits j i low (omega (arith, here, long)) none))

-- ---- loops

range_more : (a n j : ℕ) → a + n ≡ j → range_with_len a (n + 1) ≡ range_with_len a n ++ j ∷ []
range_more a zero j e = ap (λ m. m ∷ []) (omega (arith, e))
range_more a (suc n) j e =
    let longer : suc n + 1 ≡ suc (n + 1) = omega arith in
    ap (range_with_len a) longer ∙ ap (λ ms. a ∷ ms) (range_more (a + 1) n j (omega (arith, e)))

dead_more : (bits : List ℕ) (n : ℕ) → dead_in (n + 1) bits ≡ dead_in n bits ++ (if is_set bits n then [] else n ∷ [])
dead_more bits n = ap (filter (λ k. not (is_set bits k))) (range_more 0 n n (omega arith)) ∙ filter-append (λ k. not (is_set bits k)) (range_with_len 0 n) (n ∷ []) ∙ by (is_set bits n)
  where
    by : (b : Bool) → dead_in n bits ++ cond (not b) (n ∷ []) [] ≡ dead_in n bits ++ cond b [] (n ∷ [])
    by true = refl
    by false = refl

pub one_dead_more : (bits : List ℕ) (n : ℕ) → is_set bits n ≡ false → dead_in (n + 1) bits ≡ dead_in n bits ++ n ∷ []
one_dead_more bits n unset = dead_more bits n ∙ ap (λ b. dead_in n bits ++ cond b [] (n ∷ [])) unset

pub none_dead_more : (bits : List ℕ) (n : ℕ) → is_set bits n ≡ true → dead_in (n + 1) bits ≡ dead_in n bits
none_dead_more bits n set = dead_more bits n ∙ ap (λ b. dead_in n bits ++ cond b [] (n ∷ [])) set ∙ append-nil (dead_in n bits)

pub bytes_more : (documents : ℕ) (dead : List ℕ) (n : ℕ) → map (byte_at documents dead) (range_with_len 0 (n + 1)) ≡ map (byte_at documents dead) (range_with_len 0 n) ++ byte_at documents dead n ∷ []
bytes_more documents dead n = map-range_with_len_more (byte_at documents dead) 0 n n (omega arith)

pub some_past : (documents : ℕ) (bits : List ℕ) (k : ℕ) → documents ≤ k → k < 8 * length bits → is_set bits k ≡ true → none_past documents bits ≡ false
some_past documents bits k ge lt set = false_from_ne_true (none_past documents bits) (λ none. true≢false (sym set ∙ not-true (is_set bits k) (each_of_range (λ k. not (is_set bits k)) documents (8 * length bits - documents) none k ge (omega (arith, ge, lt)))))

pub none_past_all : (documents : ℕ) (bits : List ℕ) → ((k : ℕ) → documents ≤ k → k < 8 * length bits → is_set bits k ≡ false) → none_past documents bits ≡ true
none_past_all documents bits none = all_of_range (λ k. not (is_set bits k)) documents (8 * length bits - documents) (λ k ge lt. ap not (none k ge (omega (arith, ge, lt))))

-- ---- a record that is no longer live

is_dead_push : (dead : List ℕ) (k q : ℕ) → is_dead (dead ++ k ∷ []) q ≡ (is_dead dead q || eqb q k)
is_dead_push [] k q = by (eqb q k)
  where
    by : (b : Bool) → (b || false) ≡ b
    by true = refl
    by false = refl
is_dead_push (d ∷ ds) k q = ap (λ b. eqb q d || b) (is_dead_push ds k q) ∙ by (eqb q d) (is_dead ds q) (eqb q k)
  where
    by : (a b c : Bool) → (a || (b || c)) ≡ ((a || b) || c)
    by true b c = refl
    by false b c = refl

-- the byte with one bit less
abbrev pub without_bit : ℕ → ℕ → ℕ
without_bit n i = bit_and n (bit_not w8 (1 * 2 ^ i % 2 ^ 8))

live_bit_same : (documents : ℕ) (dead : List ℕ) (k q : ℕ) → q ≢ k → live_bit documents (dead ++ k ∷ []) q ≡ live_bit documents dead q
live_bit_same documents dead k q other = ap (λ b. cond (ltb q documents && not b) 1 0) (is_dead_push dead k q ∙ ap (λ b. is_dead dead q || b) (ne_eqb q k other) ∙ by (is_dead dead q))
  where
    by : (b : Bool) → (b || false) ≡ b
    by true = refl
    by false = refl

live_bit_here : (documents : ℕ) (dead : List ℕ) (k : ℕ) → live_bit documents (dead ++ k ∷ []) k ≡ 0
live_bit_here documents dead k = ap (λ b. cond (ltb k documents && not b) 1 0) (is_dead_push dead k k ∙ ap (λ b. is_dead dead k || b) (eq-eqb k k refl)) ∙ by (ltb k documents) (is_dead dead k)
  where
    by : (a b : Bool) → ◌≡◌ {A = ℕ} (cond (a && not (b || true)) 1 0) 0
    by true true = refl
    by true false = refl
    by false true = refl
    by false false = refl

byte_here : (documents : ℕ) (dead : List ℕ) (k : ℕ) → byte_at documents (dead ++ k ∷ []) (k / 8) ≡ without_bit (byte_at documents dead (k / 8)) (k % 8)
byte_here documents dead k =
    let j = k / 8 in
    let b : ℕ = byte_at documents dead j in
    let low : k % 8 < 8 = omega arith in
    let whole : 8 * j + k % 8 ≡ k = omega arith in
    same_from_bits_below 8 (byte_at documents (dead ++ k ∷ []) j) (without_bit b (k % 8)) (byte_below documents (dead ++ k ∷ []) j) (omega (arith, and_le_l b (bit_not w8 (1 * 2 ^ (k % 8) % 2 ^ 8)), byte_below documents dead j)) (λ i lt.
    byte_bit documents (dead ++ k ∷ []) j i lt ∙ elim (cases_eq i (k % 8)) [
      | inl e ↦ ap (live_bit documents (dead ++ k ∷ [])) (omega (arith, e, whole)) ∙ live_bit_here documents dead k ∙ sym (bit_at_clear_same w8 b (k % 8) low) ∙ ap (bit_at (without_bit b (k % 8))) (sym e)
      | inr ne ↦ live_bit_same documents dead k (8 * j + i) (λ e. ne (omega (arith, e, whole))) ∙ sym (byte_bit documents dead j i lt) ∙ sym (bit_at_clear_other w8 b (k % 8) low i lt ne)
    ])

byte_other : (documents : ℕ) (dead : List ℕ) (k j : ℕ) → j ≢ k / 8 → byte_at documents (dead ++ k ∷ []) j ≡ byte_at documents dead j
byte_other documents dead k j other =
    same_from_bits_below 8 (byte_at documents (dead ++ k ∷ []) j) (byte_at documents dead j) (byte_below documents (dead ++ k ∷ []) j) (byte_below documents dead j) (λ i lt.
    byte_bit documents (dead ++ k ∷ []) j i lt ∙ live_bit_same documents dead k (8 * j + i) (λ e. other (omega (arith, e, lt))) ∙ sym (byte_bit documents dead j i lt))

bits_push : (documents : ℕ) (dead : List ℕ) (k : ℕ) → k < documents → set (bits_of documents dead) (k / 8) (without_bit (get_or (bits_of documents dead) (k / 8) 0) (k % 8)) ≡ bits_of documents (dead ++ k ∷ [])
bits_push documents dead k lt =
    let old = bits_of documents dead in
    let new = bits_of documents (dead ++ k ∷ []) in
    let n = bits_len documents in
    let here : k / 8 < n = omega (arith, lt) in
    let byte : get_or old (k / 8) 0 ≡ byte_at documents dead (k / 8) = get_or-map-range_with_len (byte_at documents dead) 0 n (k / 8) (k / 8) 0 here (omega arith) in
    ext_get_or 0 (set old (k / 8) (without_bit (get_or old (k / 8) 0) (k % 8))) new (length-set old (k / 8) (without_bit (get_or old (k / 8) 0) (k % 8)) ∙ bits_long documents dead ∙ sym (bits_long documents (dead ++ k ∷ []))) (λ j within.
    let inside : j < n = omega (arith, within, length-set old (k / 8) (without_bit (get_or old (k / 8) 0) (k % 8)), bits_long documents dead) in
    let now : get_or new j 0 ≡ byte_at documents (dead ++ k ∷ []) j = get_or-map-range_with_len (byte_at documents (dead ++ k ∷ [])) 0 n j j 0 inside (omega arith) in
    elim (cases_eq j (k / 8)) [
      | inl e ↦
          ap (λ m. get_or (set old (k / 8) (without_bit (get_or old (k / 8) 0) (k % 8))) m 0) e
          ∙ get_or-set_same old (k / 8) (without_bit (get_or old (k / 8) 0) (k % 8)) 0 (omega (arith, here, bits_long documents dead))
          ∙ ap (λ m. without_bit m (k % 8)) byte ∙ sym (byte_here documents dead k) ∙ ap (byte_at documents (dead ++ k ∷ [])) (sym e) ∙ sym now
      | inr ne ↦
          get_or-set_other old (k / 8) j (without_bit (get_or old (k / 8) 0) (k % 8)) 0 ne
          ∙ get_or-map-range_with_len (byte_at documents dead) 0 n j j 0 inside (omega arith) ∙ sym (byte_other documents dead k j ne) ∙ sym now
    ])

bits_cleared : (front : List ℕ) (documents : ℕ) (dead : List ℕ) (at k : ℕ) → at ≡ length front + k / 8 → k < documents
    → set (front ++ bits_of documents dead) at (without_bit (get_or (front ++ bits_of documents dead) at 0) (k % 8)) ≡ front ++ bits_of documents (dead ++ k ∷ [])
bits_cleared front documents dead at k place lt =
    let bits = bits_of documents dead in
    let i : at - length front ≡ k / 8 = omega (arith, place) in
    let old : get_or (front ++ bits) at 0 ≡ get_or bits (k / 8) 0 = get_or-append_right front bits (length front) at 0 refl (omega (arith, place)) ∙ ap (λ m. get_or bits m 0) i in
    ap (λ b. set (front ++ bits) at (without_bit b (k % 8))) old
    ∙ set-append_right front bits (length front) at (without_bit (get_or bits (k / 8) 0) (k % 8)) refl (omega (arith, place))
    ∙ ap (λ m. front ++ set bits m (without_bit (get_or bits (k / 8) 0) (k % 8))) i
    ∙ ap (λ bs. front ++ bs) (bits_push documents dead k lt)

-- bytes that end with the bits, and the byte of a record among them
pub record EndsWithBits (front : List ℕ) (documents : ℕ) (dead : List ℕ) (bytes : List ℕ) (at k : ℕ) : Type 0 where
  pub are : bytes ≡ front ++ bits_of documents dead
  pub place : at ≡ length front + k / 8
  pub within : k < documents

pub is_inside : (front : List ℕ) (documents : ℕ) (dead bytes : List ℕ) (at k : ℕ) → EndsWithBits front documents dead bytes at k → at < length bytes
is_inside front documents dead bytes at k h = omega (arith, ap length h.are, length-append front (bits_of documents dead), bits_long documents dead, h.place, h.within)

pub one_cleared : (front : List ℕ) (documents : ℕ) (dead bytes : List ℕ) (at k old : ℕ) → EndsWithBits front documents dead bytes at k → old ≡ get_or bytes at old → set bytes at (without_bit old (k % 8)) ≡ front ++ bits_of documents (dead ++ k ∷ [])
one_cleared front documents dead bytes at k old h read =
    let value : old ≡ get_or bytes at 0 = read ∙ get_or_default bytes at old 0 (is_inside front documents dead bytes at k h) in
    ap (λ n. set bytes at (without_bit n (k % 8))) value
    ∙ ap (λ xs. set xs at (without_bit (get_or xs at 0) (k % 8))) h.are
    ∙ bits_cleared front documents dead at k h.place h.within
