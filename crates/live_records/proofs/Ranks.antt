-- Ranks of places among those that are live.
use Rattle.std.proofs.Common.{◌≡◌, ℕ, zero, suc, ◌+◌, ◌<◌, ◌≤◌, ◌-◌, true, false, not, eqb, ◌||◌, List, [], ◌∷◌, length, get_or, refl, sym, ap, subst, ◌∙◌, arith, inl, inr}
use Rattle.std.specs.List.{AllByRecursion}
use Rattle.std.proofs.lemmas.Bool.{eq-eqb, ne_eqb, cases_lt, cases_eq}
use Rattle.facet_codec.specs.Laws.{IsBelow}
use Rattle.seg_postings.specs.Rising.{IsRising}
use Rattle.seg_postings.specs.Steps.{IsFirstFrom}
use Rattle.seg_postings.proofs.Order.{rising_get, rising_less}
use Rattle.facet_model.specs.Stored.{is_dead, live_before}
use Rattle.live_records.specs.Live.{Live, IsPastRank}
use Rattle.std.proofs.Math.Bool.{or-true}

-- ---- the searches

pub first_low : (p : ℕ) (xs : List ℕ) (low high m : ℕ) → IsRising xs → IsFirstFrom p xs low high → m < length xs → get_or xs m 0 < p → IsFirstFrom p xs (m + 1) high
first_low p xs low high m rise h lt below = record {
  below = λ j jl. omega (arith, rising_get xs rise j m (omega arith) lt);
  from = h.from;
}

pub first_high : (p : ℕ) (xs : List ℕ) (low high m : ℕ) → IsRising xs → IsFirstFrom p xs low high → m < length xs → p ≤ get_or xs m 0 → IsFirstFrom p xs low m
first_high p xs low high m rise h lt above = record {
  below = h.below;
  from = λ j le jl. omega (arith, rising_get xs rise m j le jl);
}

-- a rising list rises by one at least
rising_apart : (xs : List ℕ) → IsRising xs → (i j : ℕ) → i ≤ j → j < length xs → get_or xs i 0 + j ≤ get_or xs j 0 + i
rising_apart [] h i j le lt = absurd (omega arith)
rising_apart (x ∷ xs) h zero zero le lt = omega arith
rising_apart (x ∷ []) h zero (suc j) le lt = absurd (omega arith)
rising_apart (x ∷ y ∷ ys) h zero (suc j) le lt = omega (arith, h.0.0, rising_apart (y ∷ ys) h.1 zero j (omega arith) (omega arith))
rising_apart (x ∷ xs) h (suc i) zero le lt = absurd (omega arith)
rising_apart (x ∷ xs) h (suc i) (suc j) le lt = omega (arith, rising_apart xs h.1 i j (omega arith) (omega arith))

pub past_low : (r : ℕ) (xs : List ℕ) (low high m : ℕ) → IsRising xs → IsPastRank r xs low high → m < length xs → get_or xs m 0 ≤ r + m → IsPastRank r xs (m + 1) high
past_low r xs low high m rise h lt le = record {
  upto = λ j jl. omega (arith, rising_apart xs rise j m (omega arith) lt);
  past = h.past;
}

pub past_high : (r : ℕ) (xs : List ℕ) (low high m : ℕ) → IsRising xs → IsPastRank r xs low high → m < length xs → r + m < get_or xs m 0 → IsPastRank r xs low m
past_high r xs low high m rise h lt gt = record {
  upto = h.upto;
  past = λ j le jl. omega (arith, rising_apart xs rise m j le jl);
}

-- ---- ranks

dead_not : (n : ℕ) (xs : List ℕ) (at : ℕ) → at ≤ length xs → ((k : ℕ) → k < at → get_or xs k 0 < n) → ((k : ℕ) → at ≤ k → k < length xs → n < get_or xs k 0) → is_dead xs n ≡ false
dead_not n [] at le below from = refl
dead_not n (x ∷ xs) zero le below from =
    rw (ne_eqb n x (λ e. omega (arith, from 0 (omega arith) (omega arith)))) (dead_not n xs zero (omega arith) (λ k lt. absurd (omega arith)) (λ k ge lt. from (suc k) (omega arith) (omega arith)))
dead_not n (x ∷ xs) (suc at) le below from =
    rw (ne_eqb n x (λ e. omega (arith, below 0 (omega arith)))) (dead_not n xs at (omega arith) (λ k lt. below (suc k) (omega arith)) (λ k ge lt. from (suc k) (omega arith) (omega arith)))

dead_at : (xs : List ℕ) (k : ℕ) → k < length xs → is_dead xs (get_or xs k 0) ≡ true
dead_at [] k lt = absurd (omega arith)
dead_at (x ∷ xs) zero lt = ap (λ b. b || is_dead xs x) (eq-eqb x x refl)
dead_at (x ∷ xs) (suc k) lt = ap (λ b. eqb (get_or xs k 0) x || b) (dead_at xs k (omega arith)) ∙ or-true (eqb (get_or xs k 0) x)

-- whether a place is dead shows where it would stand among the dead
pub dead_first : (n : ℕ) (xs : List ℕ) (at : ℕ) → IsRising xs → at ≤ length xs → IsFirstFrom n xs at at → (at < length xs → get_or xs at 0 ≡ n → ⊥) → is_dead xs n ≡ false
dead_first n xs at rise le h other = dead_not n xs at le h.below above
  where
    above : (k : ℕ) → at ≤ k → k < length xs → n < get_or xs k 0
    above k ge lt =
        elim (cases_eq (get_or xs at 0) n) [
          | inl same ↦ absurd (other (omega arith) same)
          | inr apart ↦ elim (cases_lt n (get_or xs at 0)) [
            | inl less ↦ omega (arith, rising_get xs rise at k ge lt)
            | inr more ↦ absurd (apart (omega (arith, h.from at (omega arith) (omega arith))))
          ]
        ]

pub dead_there : (n : ℕ) (xs : List ℕ) (at : ℕ) → at < length xs → get_or xs at 0 ≡ n → is_dead xs n ≡ true
dead_there n xs at lt e = subst (λ m. is_dead xs m ≡ true) e (dead_at xs at lt)

-- a place is what is dead below it and what is live
pub before_first : (xs : List ℕ) → IsRising xs → (n at : ℕ) → at ≤ length xs → IsFirstFrom n xs at at → live_before xs n + at ≡ n
before_first xs rise zero zero le h = refl
before_first xs rise zero (suc at) le h = absurd (omega (arith, h.below 0 (omega arith)))
before_first xs rise (suc n) zero le h =
    let none : is_dead xs n ≡ false = dead_not n xs zero le (λ k lt. absurd (omega arith)) (λ k ge lt. omega (arith, h.from k ge lt)) in
    let rest = before_first xs rise n zero le (record { below = λ k lt. absurd (omega arith); from = λ k ge lt. omega (arith, h.from k ge lt) }) in
    rw none (omega (arith, rest))
before_first xs rise (suc n) (suc at) le h =
    elim (cases_eq (get_or xs at 0) n) [
      | inl same ↦
          let here : is_dead xs n ≡ true = dead_there n xs at (omega arith) same in
          let rest = before_first xs rise n at (omega arith) (record { below = λ k lt. omega (arith, rising_less xs rise k at lt (omega arith)); from = λ k ge lt. omega (arith, rising_get xs rise at k ge lt) }) in
          rw here (omega (arith, rest))
      | inr other ↦
          let last : get_or xs at 0 < n = by (h.below at (omega arith)) other in
          let under : (k : ℕ) → k < suc at → get_or xs k 0 < n = λ k lt. omega (arith, last, rising_get xs rise k at (omega arith) (omega arith)) in
          let over : (k : ℕ) → suc at ≤ k → k < length xs → n < get_or xs k 0 = λ k ge lt. omega (arith, h.from k ge lt) in
          let none : is_dead xs n ≡ false = dead_not n xs (suc at) le under over in
          let rest = before_first xs rise n (suc at) le (record { below = under; from = λ k ge lt. omega (arith, over k ge lt) }) in
          rw none (omega (arith, rest))
    ]
  where
    by : {a b : ℕ} → a < suc b → (a ≡ b → ⊥) → a < b
    by {a} {b} lt ne = elim (cases_lt a b) [ inl less ↦ less | inr ge ↦ absurd (ne (omega arith)) ]

-- all dead places are below the bound
below_at : (b : ℕ) (xs : List ℕ) → AllByRecursion (IsBelow b) xs → (k : ℕ) → k < length xs → get_or xs k 0 < b
below_at b [] h k lt = absurd (omega arith)
below_at b (x ∷ xs) h zero lt = h.0
below_at b (x ∷ xs) h (suc k) lt = below_at b xs h.1 k (omega arith)

pub first_all : (b : ℕ) (xs : List ℕ) → AllByRecursion (IsBelow b) xs → IsFirstFrom b xs (length xs) (length xs)
first_all b xs h = record { below = below_at b xs h; from = λ k ge lt. absurd (omega arith) }

pub before_all : (b : ℕ) (xs : List ℕ) → IsRising xs → AllByRecursion (IsBelow b) xs → live_before xs b + length xs ≡ b
before_all b xs rise h = before_first xs rise b (length xs) (omega arith) (first_all b xs h)

-- ---- the place of a rank

pub rank_first : (r : ℕ) (xs : List ℕ) (at : ℕ) → IsRising xs → at ≤ length xs → IsPastRank r xs at at → IsFirstFrom (r + at) xs at at
rank_first r xs at rise le h = record {
  below = λ k lt. omega (arith, h.upto k lt);
  from = λ k ge lt. omega (arith, h.past k ge lt);
}

pub rank_live : (r : ℕ) (xs : List ℕ) (at : ℕ) → IsRising xs → at ≤ length xs → IsPastRank r xs at at → is_dead xs (r + at) ≡ false
rank_live r xs at rise le h = dead_not (r + at) xs at le (λ k lt. omega (arith, h.upto k lt)) (λ k ge lt. omega (arith, h.past k ge lt))

pub rank_before : (r : ℕ) (xs : List ℕ) (at : ℕ) → IsRising xs → at ≤ length xs → IsPastRank r xs at at → live_before xs (r + at) ≡ r
rank_before r xs at rise le h = omega (arith, before_first xs rise (r + at) at le (rank_first r xs at rise le h))

-- ---- what the calls answer

pub same_get : (xs : List ℕ) (i d e : ℕ) → i < length xs → get_or xs i d ≡ get_or xs i e
same_get [] i d e lt = absurd (omega arith)
same_get (x ∷ xs) zero d e lt = refl
same_get (x ∷ xs) (suc i) d e lt = same_get xs i d e (omega arith)

-- of what is kept of records
module _ (docs : ℕ) (dead : List ℕ) (rise : IsRising dead) (below : AllByRecursion (IsBelow docs) dead) (live : Live) (is : record { docs = docs; dead = dead } ≡ live) where
  pub few : length dead ≤ docs
  few = omega (arith, before_all docs dead rise below)

  pub number_is : (len : ℕ) → len ≡ length dead → docs - len ≡ live_before live.dead live.docs
  number_is len e =
      let here : docs - len ≡ live_before dead docs = omega (arith, before_all docs dead rise below) in
      here ∙ ap (λ (l : Live). live_before l.dead l.docs) is

  module _ (xs : List ℕ) (same : xs ≡ dead) where
    pub few_of : length xs ≤ docs
    few_of = omega (arith, few, ap length same)

    pub rank_under : (n at : ℕ) → at ≤ length xs → IsFirstFrom n xs at at → at ≤ n
    rank_under n at le h = omega (arith, before_first xs (subst IsRising (sym same) rise) n at le h)

    pub rank_is : (n at : ℕ) → at ≤ length xs → IsFirstFrom n xs at at → n - at ≡ live_before live.dead n
    rank_is n at le h =
        let here : n - at ≡ live_before xs n = omega (arith, before_first xs (subst IsRising (sym same) rise) n at le h) in
        here ∙ ap (λ ys. live_before ys n) same ∙ ap (λ (l : Live). live_before l.dead n) is

    pub place_within : (r at : ℕ) → at ≤ length xs → r < live_before live.dead live.docs → r + at < docs
    place_within r at le lt =
        omega (arith, few, ap length same, before_all docs dead rise below, ap (λ (l : Live). live_before l.dead l.docs) is)

    pub place_live : (r at : ℕ) → at ≤ length xs → IsPastRank r xs at at → is_dead live.dead (r + at) ≡ false
    place_live r at le h = sym (ap (λ ys. is_dead ys (r + at)) same ∙ ap (λ (l : Live). is_dead l.dead (r + at)) is) ∙ rank_live r xs at (subst IsRising (sym same) rise) le h

    pub place_rank : (r at : ℕ) → at ≤ length xs → IsPastRank r xs at at → live_before live.dead (r + at) ≡ r
    place_rank r at le h = sym (ap (λ ys. live_before ys (r + at)) same ∙ ap (λ (l : Live). live_before l.dead (r + at)) is) ∙ rank_before r xs at (subst IsRising (sym same) rise) le h

    pub live_end : (n at : ℕ) → at ≤ length xs → IsFirstFrom n xs at at → at ≡ length dead → true ≡ not (is_dead live.dead n)
    live_end n at le h e =
        let none : is_dead xs n ≡ false = dead_first n xs at (subst IsRising (sym same) rise) le h (λ lt there. omega (arith, ap length same)) in
        ap not (sym none ∙ ap (λ ys. is_dead ys n) same ∙ ap (λ (l : Live). is_dead l.dead n) is)

    pub live_at : (n at : ℕ) → at < length xs → IsFirstFrom n xs at at → eqb (get_or xs at 0) n ≡ is_dead live.dead n
    live_at n at lt h =
        here ∙ ap (λ ys. is_dead ys n) same ∙ ap (λ (l : Live). is_dead l.dead n) is
      where
        here : eqb (get_or xs at 0) n ≡ is_dead xs n
        here =
            elim (cases_eq (get_or xs at 0) n) [
              | inl e ↦ eq-eqb (get_or xs at 0) n e ∙ sym (dead_there n xs at lt e)
              | inr other ↦ ne_eqb (get_or xs at 0) n other ∙ sym (dead_first n xs at (subst IsRising (sym same) rise) (omega arith) h (λ l e. other e))
            ]
