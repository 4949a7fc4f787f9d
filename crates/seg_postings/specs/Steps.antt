-- What holds between the steps of a search and of a union.
use Rattle.std.specs.Prelude.{◌≡◌, ℕ, ◌<◌, ◌≤◌, List, [], ◌∷◌, Option, Some, None, nat_lt, if◌then◌else◌, slice_index}
use Rattle.std.specs.Prelude.{length}
use Rattle.seg_postings.specs.Rising.{IsRising}

-- Those before low are below p, and those from high on are not.
pub record IsFirstFrom (p : ℕ) (xs : List ℕ) (low high : ℕ) : Type 0 where
  pub below : (k : ℕ) → k < low → slice_index xs k < p
  pub from : (k : ℕ) → high ≤ k → k < length xs → p ≤ slice_index xs k

-- the lesser of two, or the one that there is
abbrev pub least_of : Option ℕ → Option ℕ → Option ℕ
least_of None b = b
least_of (Some x) None = Some x
least_of (Some x) (Some y) = if nat_lt y x then Some y else Some x

-- What is left after the first place rises from it. Without a first place nothing is left.
abbrev pub IsPeeked : Option ℕ → List ℕ → Type 0
IsPeeked None xs = xs ≡ []
IsPeeked (Some x) xs = IsRising (x ∷ xs)
