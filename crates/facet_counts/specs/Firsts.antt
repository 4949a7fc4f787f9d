-- The first of some children in the order of a listing.
use Rattle.std.specs.Prelude.{◌≡◌, ◌<◌, ◌≤◌, ◌*◌, ℕ, List, length, take, map, sum_by, All}
use Rattle.std.specs.List.Sorted.{IsPermutation, IsSorted}
use Rattle.facet_model.specs.Listing.{PartCount, listing_cmp}
use Rattle.facet_counts.specs.declared.firsts.Candidate.{Candidate}
use Rattle.facet_counts.specs.declared.firsts.Chosen.{Chosen}

-- These children, put in order; the first n of them are shown, and all are added up and counted.
pub record AreFirst (n : ℕ) (children shown : List PartCount) (sum number : ℕ) : Type 0 where
  pub ordered : List PartCount
  pub moved : IsPermutation children ordered
  pub sorted : IsSorted listing_cmp ordered
  pub first : shown ≡ take n ordered
  pub total : sum ≡ sum_by (λ c. c.1) ordered
  pub as_many : number ≡ length ordered

-- a candidate as a component and its count
abbrev pub standing : Candidate → PartCount
standing c = (c.text.now, c.count)

-- a candidate's text is as long as a component's
abbrev pub IsShort : Candidate → Type 0
IsShort c = (0 < length c.text.now) × (length c.text.now ≤ 1024)

-- The first of these children, chosen so far.
pub record AreChosen (n : ℕ) (children : List PartCount) (chosen : Chosen) : Type 0 where
  pub first : AreFirst n children (map standing chosen.candidates.items) chosen.sum chosen.number
  pub short : All IsShort chosen.candidates.items
  pub small : chosen.sum ≤ 1000000 * chosen.number
