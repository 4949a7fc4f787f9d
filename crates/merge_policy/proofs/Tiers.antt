-- Lists of sizes that are tiered, and the first that is small.
use Rattle.std.proofs.Common.{◌≡◌, ◌⊎◌, inl, inr, ℕ, zero, suc, ◌+◌, ◌-◌, ◌*◌, ◌^◌, ◌<◌, ◌≤◌, Bool, true, false, cond, List, [], ◌∷◌, length, refl, sym, ap, subst, ◌∙◌, arith}
use Rattle.std.specs.List.{AllByRecursion}
use Rattle.std.specs.Prelude.{sum, nat_le}
use Rattle.std.proofs.Math.Nat.{pow-succ', mul-le-mul_left}
use Rattle.std.proofs.lemmas.Bool.{cases_lt, leb-true, leb-false}
use Rattle.std.proofs.lemmas.List.Sums.{sum_by-cons}
use Rattle.merge_policy.specs.Tiers.{IsSome, IsTiered, first_small, as_one, merged_from}

pub sum-cons : (s : ℕ) (ss : List ℕ) → sum (s ∷ ss) ≡ s + sum ss
sum-cons s ss = sum_by-cons (λ x. x) s ss

-- as one they have as many
pub sum_as_one : (ss : List ℕ) → sum (as_one ss) ≡ sum ss
sum_as_one [] = refl
sum_as_one (s ∷ ss) = sum-cons (sum (s ∷ ss)) [] ∙ omega (arith)

pub as_one_tiered : (ss : List ℕ) → IsTiered (as_one ss)
as_one_tiered [] = tt
as_one_tiered (s ∷ ss) = (omega arith, tt)

-- one more before a tail that is tiered and has as many
pub one_before : (s : ℕ) (ss ts : List ℕ) → sum ts ≡ sum ss → sum ss ≤ 3 * s → IsTiered ts → IsTiered (s ∷ ts)
one_before s ss ts same few tiered = (omega (arith, same, few), tiered)

-- ---- how many there can be

four_thirds : (a b s r : ℕ) → a ≤ b * r → r ≤ 3 * s → 4 * a ≤ 3 * b * (s + r)
four_thirds a b s r few small =
    let one : b * r ≤ b * (3 * s) = mul-le-mul_left b small in
    let two : b * (3 * s) ≡ 3 * (b * s) = grind arith in
    let three : 3 * b * (s + r) ≡ 3 * (b * s) + 3 * (b * r) = grind arith in
    omega (arith, few, one, two, three)

pub few : (s : ℕ) (ss : List ℕ) → AllByRecursion IsSome (s ∷ ss) → IsTiered (s ∷ ss) → 4 ^ length ss ≤ 3 ^ length ss * sum (s ∷ ss)
few s [] some tiered = omega (arith, some.0, sum-cons s [])
few s (r ∷ rs) some tiered =
    let before : 4 ^ length rs ≤ 3 ^ length rs * sum (r ∷ rs) = few r rs some.1 tiered.1 in
    let more : 4 * 4 ^ length rs ≤ 3 * 3 ^ length rs * (s + sum (r ∷ rs)) = four_thirds (4 ^ length rs) (3 ^ length rs) s (sum (r ∷ rs)) before tiered.0 in
    rw (pow-succ' 4 (length rs), pow-succ' 3 (length rs), sum-cons s (r ∷ rs)) more

-- 4/3 to a power of 49 is more than a million
too_many : (k n : ℕ) → n ≤ 1000000 → 4 ^ (49 + k) ≤ 3 ^ (49 + k) * n → ⊥
too_many zero n low h =
    let one : 3 ^ 49 * n ≤ 3 ^ 49 * 1000000 = mul-le-mul_left (3 ^ 49) low in
    omega (arith, h, one)
too_many (suc k) n low h = too_many k n low (one_less (49 + k) n (subst (λ m. 4 ^ m ≤ 3 ^ m * n) (omega arith) h))
  where
    one_less : (m n : ℕ) → 4 ^ suc m ≤ 3 ^ suc m * n → 4 ^ m ≤ 3 ^ m * n
    one_less m n h =
        let four : 4 ^ suc m ≡ 4 * 4 ^ m = pow-succ' 4 m in
        let three : 3 ^ suc m * n ≡ 3 * (3 ^ m * n) = ap (λ t. t * n) (pow-succ' 3 m) ∙ grind arith in
        omega (arith, h, four, three)

pub at_most : (sizes : List ℕ) → AllByRecursion IsSome sizes → IsTiered sizes → sum sizes ≤ 1000000 → length sizes ≤ 49
at_most [] some tiered low = omega arith
at_most (s ∷ ss) some tiered low = by (cases_lt (length ss) 49)
  where
    by : (length ss < 49) ⊎ (49 ≤ length ss) → suc (length ss) ≤ 49
    by (inl less) = omega (arith, less)
    by (inr many) =
        let split : length ss ≡ 49 + (length ss - 49) = omega (arith, many) in
        absurd (too_many (length ss - 49) (sum (s ∷ ss)) low (subst (λ m. 4 ^ m ≤ 3 ^ m * sum (s ∷ ss)) split (few s ss some tiered)))

-- ---- the first small one

sum_merged : (k : ℕ) (ss : List ℕ) → sum (merged_from k ss) ≡ sum ss
sum_merged zero ss = sum_as_one ss
sum_merged (suc k) [] = refl
sum_merged (suc k) (s ∷ ss) = sum-cons s (merged_from k ss) ∙ ap (λ n. s + n) (sum_merged k ss) ∙ sym (sum-cons s ss)

-- with all from it on as one, they are tiered
pub merged_tiered : (ss : List ℕ) → IsTiered (merged_from (first_small ss) ss)
merged_tiered [] = tt
merged_tiered (s ∷ ss) = by (nat_le (sum ss) (3 * s)) refl (merged_tiered ss)
  where
    by : (b : Bool) → nat_le (sum ss) (3 * s) ≡ b → IsTiered (merged_from (first_small ss) ss) → IsTiered (merged_from (cond b (suc (first_small ss)) 0) (s ∷ ss))
    by true is rest = one_before s ss (merged_from (first_small ss) ss) (sum_merged (first_small ss) ss) (leb-true (sum ss) (3 * s) is) rest
    by false is rest = as_one_tiered (s ∷ ss)

pub small_within : (ss : List ℕ) → first_small ss ≤ length ss
small_within [] = omega arith
small_within (s ∷ ss) = by (nat_le (sum ss) (3 * s)) (small_within ss)
  where
    by : (b : Bool) → first_small ss ≤ length ss → cond b (suc (first_small ss)) 0 ≤ suc (length ss)
    by true rest = omega (arith, rest)
    by false rest = omega arith

-- it is never the last one
pub small_not_last : (ss : List ℕ) → first_small ss < length ss → first_small ss + 1 < length ss
small_not_last [] lt = absurd (omega (arith, lt))
small_not_last (s ∷ ss) lt = by (nat_le (sum ss) (3 * s)) refl (small_not_last ss) lt
  where
    others : (rs : List ℕ) → 3 * s < sum rs → 0 + 1 < suc (length rs)
    others [] more = let none : 3 * s < 0 = more in absurd (omega (arith, none))
    others (r ∷ rs) more = omega arith

    by : (b : Bool) → nat_le (sum ss) (3 * s) ≡ b → (first_small ss < length ss → first_small ss + 1 < length ss) → cond b (suc (first_small ss)) 0 < suc (length ss) → cond b (suc (first_small ss)) 0 + 1 < suc (length ss)
    by true is rest lt = let more : first_small ss + 1 < length ss = rest (omega (arith, lt)) in omega (arith, more)
    by false is rest lt = others ss (leb-false (sum ss) (3 * s) is)

pub none_small : (ss : List ℕ) → IsTiered ss → first_small ss ≡ length ss
none_small [] up = refl
none_small (s ∷ ss) up = by (nat_le (sum ss) (3 * s)) refl (none_small ss up.1)
  where
    by : (b : Bool) → nat_le (sum ss) (3 * s) ≡ b → first_small ss ≡ length ss → cond b (suc (first_small ss)) 0 ≡ suc (length ss)
    by true is rest = ap suc rest
    by false is rest = absurd (omega (arith, up.0, leb-false (sum ss) (3 * s) is))
