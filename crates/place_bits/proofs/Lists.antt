-- Sets of words as rising lists of places.
use Rattle.std.proofs.Common.{◌≡◌, ℕ, zero, suc, ◌+◌, ◌*◌, ◌/◌, ◌%◌, ◌<◌, ◌≤◌, Bool, true, false, eqb, ltb, ◌&&◌, ◌||◌, List, [], ◌∷◌, get_or, replicate, length, refl, sym, ap, ◌∙◌, inl, inr, arith}
use Rattle.std.proofs.lemmas.Bool.{cases_lt, lt-ltb, le-ltb, eq-eqb, ne_eqb}
use Rattle.std.proofs.lemmas.List.Elements.{filter_agree}
use Rattle.std.proofs.lemmas.List.{length-replicate}
use Rattle.std.proofs.lemmas.Nat.Bits.{bit_at-zero}
use Rattle.std.specs.Int.{bit_at}
use Rattle.std.specs.List.{filter, range_with_len}
use Rattle.seg_postings.specs.Rising.{IsBelowAll, IsRising, is_in}
use Rattle.seg_postings.specs.Sets.{either}
use Rattle.seg_postings.proofs.Order.{rising_filter}
use Rattle.seg_postings.proofs.Members.{one_rising, is_in-either, is_in_filter}
use Rattle.seg_postings.proofs.Either.{rising_either}
use Rattle.place_bits.specs.Words.{has, members, empty_set, marked, with_places}
use Rattle.place_bits.proofs.WordBits.{has_past}
use Rattle.std.proofs.Math.Bool.{and-false}

below_range : (x a n : ℕ) → x < a → IsBelowAll x (range_with_len a n)
below_range x a zero l = tt
below_range x a (suc n) l = (l, below_range x (a + 1) n (omega arith))

pub rising_range : (a n : ℕ) → IsRising (range_with_len a n)
rising_range a zero = tt
rising_range a (suc n) = (below_range a (a + 1) n (omega arith), rising_range (a + 1) n)

pub rising_members : (words : List ℕ) → IsRising (members words)
unfolding members
rising_members words = rising_filter (has words) _ (rising_range 0 (64 * length words))

-- ---- membership

in_range : (q a n : ℕ) → a ≤ q → q < a + n → is_in q (range_with_len a n) ≡ true
in_range q a zero l h = absurd (omega arith)
in_range q a (suc n) l h =
    elim (cases_lt a q) [
      | inl more ↦ rw (ne_eqb q a (λ e. omega arith), in_range q (a + 1) n (omega arith) (omega arith)) refl
      | inr le ↦ rw (eq-eqb q a (omega arith)) refl
    ]

pub is_in_members : (words : List ℕ) (q : ℕ) → is_in q (members words) ≡ has words q
unfolding members
is_in_members words q =
    is_in_filter (has words) q (range_with_len 0 (64 * length words)) ∙ elim (cases_lt q (64 * length words)) [
      | inl within ↦ ap (λ b. b && has words q) (in_range q 0 (64 * length words) (omega arith) (omega arith))
      | inr past ↦ let none : has words q ≡ false = has_past words q (omega arith) in ap (λ b. is_in q (range_with_len 0 (64 * length words)) && b) none ∙ and-false _ ∙ sym none
    ]

-- one set, by its members
pub of_list : (now old : List ℕ) (places : List ℕ) → length now ≡ length old → IsRising places → ((n : ℕ) → has now n ≡ is_in n places) → marked now ≡ with_places places (marked old)
of_list now old places len rising h =
    let list : members now ≡ places = one_rising (members now) places (rising_members now) rising (λ q. is_in_members now q ∙ h q) in
    λ i. record { words = len i; places = list i }

pub marked_all : (now old places : List ℕ) → length now ≡ length old → IsRising places → ((n : ℕ) → has now n ≡ (has old n || is_in n places)) → marked now ≡ with_places (either (members old) places) (marked old)
marked_all now old places len rising h =
    of_list now old (either (members old) places) len (rising_either (members old) places rising) (λ n. h n ∙ ap (λ b. b || is_in n places) (sym (is_in_members old n)) ∙ sym (is_in-either n (members old) places))

abbrev zeros : ℕ → List ℕ
zeros n = replicate n 0

zero_word : (n k : ℕ) → get_or (zeros n) k 0 ≡ 0
zero_word zero k = refl
zero_word (suc n) zero = refl
zero_word (suc n) (suc k) = zero_word n k

passes_none : (xs : List ℕ) → filter (λ n. false) xs ≡ []
passes_none [] = refl
passes_none (x ∷ xs) = passes_none xs

none_has : (n q : ℕ) → has (zeros n) q ≡ false
unfolding has
none_has n q = ap (λ w. eqb (bit_at w (q % 64)) 1) (zero_word n (q / 64)) ∙ ap (λ b. eqb b 1) (bit_at-zero (q % 64))

pub none_marked : (n : ℕ) (words : List ℕ) → words ≡ zeros n → marked words ≡ empty_set n
unfolding members
none_marked n words e =
    let list : members words ≡ [] = ap members e ∙ filter_agree (has (zeros n)) (λ q. false) (none_has n) _ ∙ passes_none (range_with_len 0 (64 * length (zeros n))) in
    λ i. record { words = (ap length e ∙ length-replicate n 0) i; places = list i }

one_or : (a b : Bool) → (a || b) ≡ ((b || false) || a)
one_or true true = refl
one_or true false = refl
one_or false true = refl
one_or false false = refl

pub one_added : (now old : List ℕ) (place : ℕ) → length now ≡ length old → ((n : ℕ) → has now n ≡ (has old n || eqb n place)) → marked now ≡ with_places (either (place ∷ []) (members old)) (marked old)
one_added now old place len h =
    of_list now old (either (place ∷ []) (members old)) len (rising_either (place ∷ []) (members old) (rising_members old))
    (λ n. h n ∙ one_or (has old n) (eqb n place) ∙ ap (λ b. (eqb n place || false) || b) (sym (is_in_members old n)) ∙ sym (is_in-either n (place ∷ []) (members old)))

range_member : (q a n : ℕ) → a ≤ q → is_in q (range_with_len a n) ≡ ltb q (a + n)
range_member q a n le =
    elim (cases_lt q (a + n)) [
      | inl lt ↦ in_range q a n le lt ∙ sym (lt-ltb q (a + n) lt)
      | inr ge ↦ past q a n ge ∙ sym (le-ltb q (a + n) ge)
    ]
  where
    past : (q a n : ℕ) → a + n ≤ q → is_in q (range_with_len a n) ≡ false
    past q a zero ge = refl
    past q a (suc n) ge = rw (ne_eqb q a (λ e. omega arith), past q (a + 1) n (omega arith)) refl

pub all_in : (now old : List ℕ) (docs : ℕ) → length now ≡ length old → ((n : ℕ) → has now n ≡ ltb n docs) → marked now ≡ with_places (range_with_len 0 docs) (marked old)
all_in now old docs len h = let z : docs ≡ 0 + docs = omega arith in of_list now old (range_with_len 0 docs) len (rising_range 0 docs) (λ n. h n ∙ ap (ltb n) z ∙ sym (range_member n 0 docs (omega arith)))
