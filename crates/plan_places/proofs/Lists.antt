-- Halving a rising list of numbers.
use Rattle.std.proofs.Common.{◌≡◌, ℕ, ◌+◌, ◌<◌, ◌≤◌, List, length, get_or, drop, arith}
use Rattle.seg_postings.specs.Rising.{IsRising, from_place}
use Rattle.seg_postings.specs.Steps.{IsFirstFrom}
use Rattle.seg_postings.proofs.Order.{from_drop, rising_get}

module _ (p : ℕ) (xs : List ℕ) (rise : IsRising xs) where
  pub none_below : p ≤ get_or xs 0 0 → IsFirstFrom p xs 0 0
  none_below above = record {
    below = λ j lt. absurd (omega arith);
    from = λ j le lt. omega (arith, above, rising_get xs rise 0 j (omega arith) lt);
  }

  pub low_more : (low high m : ℕ) → IsFirstFrom p xs low high → m < length xs → get_or xs m 0 < p → IsFirstFrom p xs (m + 1) high
  low_more low high m h lt below = record {
    below = λ j jl. omega (arith, rising_get xs rise j m (omega arith) lt);
    from = h.from;
  }

  pub high_less : (low high m : ℕ) → IsFirstFrom p xs low high → m < length xs → p ≤ get_or xs m 0 → IsFirstFrom p xs low m
  high_less low high m h lt above = record {
    below = h.below;
    from = λ j le jl. omega (arith, rising_get xs rise m j le jl);
  }

-- nothing is known yet
pub between_all : (p : ℕ) (xs : List ℕ) → IsFirstFrom p xs 0 (length xs)
between_all p xs = record { below = λ j lt. absurd (omega arith); from = λ j le lt. absurd (omega arith) }

pub passed_drop : (p : ℕ) (xs : List ℕ) (n : ℕ) → n ≤ length xs → IsFirstFrom p xs n n → from_place p xs ≡ drop n xs
passed_drop p xs n le h = from_drop p xs n le h.below h.from
