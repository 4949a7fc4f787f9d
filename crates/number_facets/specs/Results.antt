-- The plain data of counted ranges.
use Rattle.std.specs.Prelude.{ℕ, List}

-- the number of documents with a value in each range, and of those with a value at all
pub record RangeCounts : Type 0 where
  pub counts : List ℕ
  pub valued : ℕ
