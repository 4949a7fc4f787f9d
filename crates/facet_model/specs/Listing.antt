-- Children with their counts, and their order.
use Rattle.std.specs.Prelude.{◌≡◌, ℕ, nat_lt, if◌then◌else◌, List, count_by, All}
use Rattle.std.specs.List.Sorted.{IsSorted}
use Rattle.std.specs.declared.cmp.Ordering.{Ordering}
use Rattle.std.specs.Ordering.{nat_cmp, on, flip_args, then_cmp}
use Rattle.std.specs.Cmp.Lexicographic.{slice_cmp}
use Rattle.std.specs.Str.{bytes_eq}
use Rattle.facet_model.specs.declared.result.Child.{Child}

-- a component and its count
abbrev pub PartCount : Type 0
PartCount = List ℕ × ℕ

-- a child as such a pair
abbrev pub counted_child : Child → PartCount
counted_child c = (c.part, c.count)

-- by falling counts, ties by the rising bytes of the components
abbrev pub listing_cmp : PartCount → PartCount → Ordering
listing_cmp = then_cmp (flip_args (on (λ c. c.1) nat_cmp)) (on (λ c. c.0) (slice_cmp nat_cmp))

-- All components with a count above 0, each once, with its count, in the order of a listing.
pub record IsListing (count_of : List ℕ → ℕ) (all : List PartCount) : Type 0 where
  pub each_once : (part : List ℕ) → count_by (λ c. bytes_eq part c.0) all ≡ (if nat_lt 0 (count_of part) then 1 else 0)
  pub counted : All (λ c. c.1 ≡ count_of c.0) all
  pub ordered : IsSorted listing_cmp all
