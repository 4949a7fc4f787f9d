-- The greatest number below a bound that passes, in the words of a user.
use Rattle.std.proofs.Common.{◌≡◌, ◌≤◌, ◌<◌, refl, sym, ap, ◌∙◌, ⊎_elim, arith, ℕ, zero, suc, Option, Some, None, Bool, true, false, if◌then◌else◌, rules}
use Rattle.std.specs.Prelude.{IfSome}
use Rattle.std.proofs.lemmas.Bool.{cases_lt}
use Rattle.facet_names.specs.Arrays.{greatest}

abbrev pub IsGreatest : (ℕ → Bool) → ℕ → Option ℕ → Type 0
IsGreatest test n None = (m : ℕ) → m < n → test m ≡ false
IsGreatest test n (Some k) = (k < n) × (test k ≡ true) × ((m : ℕ) → k < m → m < n → test m ≡ false)

-- one more number is tried
next_greatest : (test : ℕ → Bool) (n : ℕ) (o : Option ℕ) → IsGreatest test n o → (t : Bool) → test n ≡ t → IsGreatest test (suc n) (if t then Some n else o)
next_greatest test n o is true here = (omega arith, here, λ m over low. absurd (omega (arith, over, low)))
next_greatest test n None is false here = λ m low. ⊎_elim (λ (under : m < n). is m under) (λ (over : n ≤ m). let last : m ≡ n = omega (arith, over, low) in ap test last ∙ here) (cases_lt m n)
next_greatest test n (Some k) is false here =
    (omega (arith, is.0), is.1, λ m over low. ⊎_elim (λ (under : m < n). is.2 m over under) (λ (up : n ≤ m). let last : m ≡ n = omega (arith, up, low) in ap test last ∙ here) (cases_lt m n))

pub greatest_is : (test : ℕ → Bool) (n : ℕ) → IsGreatest test n (greatest test n)
unfolding greatest
greatest_is test zero = λ m low. absurd (omega (arith, low))
greatest_is test (suc n) = next_greatest test n (greatest test n) (greatest_is test n) (test n) refl

-- there is one at most
pub one_greatest : (test : ℕ → Bool) (n : ℕ) (a b : Option ℕ) → IsGreatest test n a → IsGreatest test n b → a ≡ b
one_greatest test n None None is_a is_b = refl
one_greatest test n None (Some k) is_a is_b = absurd (cc (sym (is_a k is_b.0) ∙ is_b.1))
one_greatest test n (Some k) None is_a is_b = absurd (cc (sym (is_b k is_a.0) ∙ is_a.1))
one_greatest test n (Some j) (Some k) is_a is_b = ⊎_elim
    (λ (low : j < k). absurd (cc (sym (is_a.2 k low is_b.0) ∙ is_b.1)))
    (λ (high : k ≤ j). ⊎_elim (λ (over : k < j). absurd (cc (sym (is_b.2 j over is_a.0) ∙ is_a.1))) (λ (low : j ≤ k). let same : j ≡ k = omega (arith, high, low) in ap Some same) (cases_lt k j))
    (cases_lt j k)

-- it is below the bound, and passes
pub greatest_passes : (test : ℕ → Bool) (n : ℕ) → IfSome (greatest test n) (λ k. (k < n) × (test k ≡ true))
greatest_passes test n = by (greatest test n) (greatest_is test n)
  where
    by : (o : Option ℕ) → IsGreatest test n o → IfSome o (λ k. (k < n) × (test k ≡ true))
    by None is = search rules
    by (Some k) is = (is.0, is.1)
