-- The numbers where the ranges that have a number change, and the ranges from each of them on.
use Rattle.std.specs.Prelude.{◌≡◌, ◌+◌, ◌-◌, ◌^◌, ◌<◌, ◌≤◌, ◌+ℤ◌, ◌≤ℤ◌, ◌<ℤ◌, ℕ, ℤ, pos}
use Rattle.std.specs.Prelude.{nat_eq, true, IsTrue, All, List, [], map}
use Rattle.std.specs.Prelude.{length, slice_index_or}
use Rattle.std.specs.List.{list_any, Contains}
use Rattle.std.specs.declared.alloc.Global.{Global}
use Rattle.std.specs.declared.vec.Vec.{Vec}
use Rattle.number_facets.specs.Bounds.{is_within}
use Rattle.number_facets.specs.Numbers.{is_i64}
use Rattle.number_facets.specs.Values.{Range, contains}

-- the first and the last number of a range; two with no number between them if there is no such range
abbrev pub bound_at : List (ℤ × ℤ) → ℕ → ℤ × ℤ
bound_at bounds k = slice_index_or bounds k (pos 1, pos 0)

-- The bounds of the ranges, and after them those of all numbers.
pub record AreBounds (ranges : List Range) (bounds : List (ℤ × ℤ)) : Type 0 where
  pub as_many : length bounds ≡ length ranges + 1
  pub few : length bounds ≤ 2 ^ 30
  pub each : (k : ℕ) (r : Range) → k < length ranges → (v : ℤ) → IsTrue (is_i64 v)
      → contains (slice_index_or ranges k r) v ≡ is_within (bound_at bounds k) v
  pub all : (v : ℤ) → IsTrue (is_i64 v) → is_within (bound_at bounds (length ranges)) v ≡ true

abbrev pub cut_at : List ℤ → ℕ → ℤ
cut_at cuts i = slice_index_or cuts i (pos 0)

abbrev pub AreRising : List ℤ → Type 0
AreRising cuts = (i j : ℕ) → i ≤ j → j < length cuts → cut_at cuts i ≤ℤ cut_at cuts j

-- The first number of a bound is a cut, and so is the one after its last number.
pub record HasCuts (cuts : List ℤ) (bound : ℤ × ℤ) : Type 0 where
  pub first : Contains cuts bound.0
  pub after : bound.1 <ℤ pos (2 ^ 63 - 1) → Contains cuts (bound.1 +ℤ pos 1)

-- So many cuts are not above the number.
pub record IsRank (cuts : List ℤ) (number : ℤ) (rank : ℕ) : Type 0 where
  pub within : rank ≤ length cuts
  pub below : (j : ℕ) → j < rank → cut_at cuts j ≤ℤ number
  pub above : (j : ℕ) → rank ≤ j → j < length cuts → number <ℤ cut_at cuts j

-- These are the bounds with the number, by their places.
pub record IsRow (bounds : List (ℤ × ℤ)) (number : ℤ) (row : List ℕ) : Type 0 where
  pub within : All (λ k. k < length bounds) row
  pub has : (k : ℕ) → k < length bounds → list_any (nat_eq k) row ≡ is_within (bound_at bounds k) number

abbrev pub row_at : List (Vec ℕ Global) → ℕ → List ℕ
row_at rows i = slice_index_or (map (λ (row : Vec ℕ Global). row.items) rows) i []

-- A row without a bound, and after it the row of each cut.
pub record AreRows (bounds : List (ℤ × ℤ)) (cuts : List ℤ) (rows : List (Vec ℕ Global)) : Type 0 where
  pub as_many : length rows ≡ length cuts + 1
  pub none : row_at rows 0 ≡ []
  pub each : (i : ℕ) → i < length cuts → IsRow bounds (cut_at cuts i) (row_at rows (i + 1))
