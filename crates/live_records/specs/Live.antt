-- Which records of a segment are live.
use Rattle.std.specs.Prelude.{ℕ, ◌<◌, ◌≤◌, ◌+◌, List, slice_index, length}

-- how many records there are, and the places of those that are no longer live
pub record Live : Type 0 where
  pub docs : ℕ
  pub dead : List ℕ

-- Each dead place before low has at most so many live places below it, and each from high on has more.
pub record IsPastRank (rank : ℕ) (dead : List ℕ) (low high : ℕ) : Type 0 where
  pub upto : (k : ℕ) → k < low → slice_index dead k ≤ rank + k
  pub past : (k : ℕ) → high ≤ k → k < length dead → rank + k < slice_index dead k
