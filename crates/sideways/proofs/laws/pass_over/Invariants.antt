use Rattle.std.proofs.Common.{take}
use Rattle.facet_model.specs.QueryViews.{query_view}
use Rattle.facet_names.specs.Labels.{IsLabelList}
use Rattle.seg_drill.specs.Passing.{passes_all}
use Rattle.facet_names.specs.Texts.{text_in}
use Rattle.sideways.specs.Kept.{IsPassOf}
use Rattle.sideways.specs.Searches.{question_of, records_of}
use Rattle.sideways.proofs.laws.pass_over.Given as goal

abbrev pub invariant-loop-segment : goal.invariant-loop-segment
invariant-loop-segment l = record {
  pass : IsPassOf (question_of l.view l.config l.fn.segments l.ask) (passes_all (query_view l.ask.query) l.ask.drill (text_in l.fn.lifted)) (records_of (take l.segment-index l.segments)) l.pass;
  list : IsLabelList l.pass.counter.labels;
}
