use Rattle.std.proofs.Common.{None, take}
use Rattle.std.specs.List.{AllZip}
use Rattle.facet_model.specs.QueryViews.{query_view}
use Rattle.seg_drill.specs.Passing.{passes_all}
use Rattle.sideways.specs.Kept.{HasNears, HasParts}
use Rattle.sideways.specs.Searches.{records_of}
use Rattle.sideways.proofs.plan.add_segments.Given as goal

abbrev pub invariant-loop-segment : goal.invariant-loop-segment
invariant-loop-segment l = record {
  hits : HasParts (passes_all (query_view l.fn.ask.query) l.fn.ask.drill None) (records_of (take l.segment-index l.segments)) l.fn.hits l.hits;
  lifted : AllZip (HasNears (query_view l.fn.ask.query) l.fn.ask.drill (records_of (take l.segment-index l.segments))) l.fn.lifted.items l.lifted.items;
}
