-- The records of a segment that a part has left.
use Rattle.std.specs.Prelude.{ℕ, List, []}
use Rattle.facet_model.specs.Stored.{Records}
use Rattle.seg_drill.specs.Counting.{AreWithin, IsSetWithin}
use Rattle.sideways.specs.declared.part.Left.{Left}
use Rattle.sideways.specs.declared.part.Left.TheVariants.{At, Marked, Nothing}

-- their places
abbrev pub left_of : Left → List ℕ
left_of (At places) = places
left_of (Marked set) = set.places
left_of Nothing = []

-- each of them is there
abbrev pub IsLeft : Records → Left → Type 0
IsLeft segment (At places) = AreWithin segment places
IsLeft segment (Marked set) = IsSetWithin segment set
IsLeft segment Nothing = Unit {0}
