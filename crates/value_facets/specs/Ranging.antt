-- The plain data of counting by ranges, and what a counter keeps true of its fields.
use Rattle.std.specs.Prelude.{◌≡◌, ◌+◌, ◌≤◌, ℕ, ℤ, List, length, replicate, None}
use Rattle.facet_model.specs.Documents.{Doc}
use Rattle.facet_model.specs.Flags.{Config}
use Rattle.facet_model.specs.Queries.{QueryTree}
use Rattle.facet_model.specs.Stored.{Decodes, Records}
use Rattle.number_facets.specs.Values.{Range}
use Rattle.seg_drill.specs.Passing.{passes_all}
use Rattle.sideways.specs.Counted.{ArePartsOf, PartLeft}
use Rattle.value_facets.specs.Cuts.{AreBounds}
use Rattle.value_facets.specs.Marking.{AreMarks, Marked}
use Rattle.value_facets.specs.Tallying.{Tallied}

-- the documents that match a query and pass a drill-down are counted by ranges of their values in a dimension
pub record RangeQuestion : Type 0 where
  pub labels : List (List (List ℕ))
  pub segments : List Records
  pub query : QueryTree
  pub drill : List (List (List ℕ))
  pub dim : List ℕ
  pub ranges : List Range

-- The segments have documents, at most a million. There is a part for each segment, and nothing has been counted.
pub record IsRangeCounter (q : RangeQuestion) (left : List PartLeft) (marked : Marked) (tally : Tallied) : Type 0 where
  pub config : Config
  pub docs : List Doc
  pub decodes : Decodes q.labels config q.segments docs
  pub few : length docs ≤ 1000000
  pub parts : ArePartsOf (passes_all q.query q.drill None) q.segments left
  pub bounds : List (ℤ × ℤ)
  pub are_bounds : AreBounds q.ranges bounds
  pub marks : AreMarks q.labels q.dim bounds marked
  pub fresh : tally
      ≡ record { counts = replicate (length q.ranges + 1) 0; rows = replicate (length marked.rows) 0; hits = 0 }
