-- What is known at each index, after one more item.
use Rattle.std.proofs.Common.{◌≡◌, ℕ, ◌+◌, ◌<◌, ◌≤◌, List, [], ◌∷◌, ◌++◌, length, get_or, sym, subst, ◌∙◌, ◌⊎◌, inl, inr, arith}
use Rattle.std.proofs.lemmas.Bool.{cases_lt}
use Rattle.std.proofs.lemmas.List.{get_or_append_left, get_or_push}

pub pushed : {X : Type 0} (P : ℕ → X → Type 0) (xs : List X) (n : ℕ) (y d : X) → length xs ≡ n → ((k : ℕ) → k < n → P k (get_or xs k d)) → P n y → (k : ℕ) → k < n + 1 → P k (get_or (xs ++ y ∷ []) k d)
pushed {X} P xs n y d len each last k below = by (cases_lt k n)
  where
    by : (k < n) ⊎ (n ≤ k) → P k (get_or (xs ++ y ∷ []) k d)
    by (inl low) = subst (P k) (sym (get_or_append_left xs (y ∷ []) d k (omega (arith, low, len)))) (each k low)
    by (inr high) = let at : n ≡ k = omega arith in subst (P k) (sym (get_or_push xs y d k (len ∙ at))) (subst (λ i. P i y) at last)
