use Rattle.std.proofs.Common.{Bool, List, sym, subst, arith}
use Rattle.std.specs.Arc.{arc_value}
use Rattle.std.proofs.lemmas.List.{take_all}
use Rattle.facet_model.specs.Documents.{Doc}
use Rattle.facet_model.specs.QueryViews.{query_view}
use Rattle.query_eval.specs.Segments.{HasTermsOf}
use Rattle.seg_drill.specs.Passing.{passes_all}
use Rattle.sideways.specs.Counted.{IsPartOf}
use Rattle.facet_counts.specs.Tallies.{Tally}
use Rattle.facet_names.specs.Labels.{IsLabelList}
use Rattle.facet_names.specs.Texts.{text_in}
use Rattle.sideways.specs.Kept.{IsPassOf}
use Rattle.sideways.specs.Searches.{question_of, records_of}
use Rattle.sideways.proofs.Gathered.{mapped_at, pass_more, pass_starts}
use Rattle.sideways.proofs.laws.pass_over.Goals as goal

pub loop-segment-init : goal.loop-segment-init
loop-segment-init c = record {
  pass = pass_starts (question_of c.args.view.now c.args.config.now c.args.segments.now c.args.ask.now) (passes_all (query_view c.args.ask.now.query) c.args.ask.now.drill (text_in c.args.lifted)) c.in_ok-pass.pass c.in_ok-pass.ensures.none c.in_ok-pass.ensures.fresh c.in_ok-pass.ensures.labels
      c.in_ok-pass.ensures.config;
  list = c.in_ok-pass.ensures.list;
}

pub new-requires-in-loop-segment : goal.new-requires-in-loop-segment
new-requires-in-loop-segment c =
    let has = mapped_at (λ s. (docs : List Doc) × HasTermsOf s docs) arc_value c.args.segments.now c.loop-segment.segment-index c.segment-item.result c.requires (omega arith) c.segment-item.is in
    (has.0, subst (λ s. HasTermsOf s has.0) (sym c.deref.ensures) has.1)

pub loop-segment-preserved : goal.loop-segment-preserved
loop-segment-preserved c =
    let q = question_of c.args.view.now c.args.config.now c.args.segments.now c.args.ask.now in
    let query = query_view c.args.ask.now.query in
    let lift = text_in c.args.lifted in
    let test : Doc → Bool = passes_all query c.args.ask.now.drill lift in
    let part : IsPartOf test (arc_value c.segment-item.result) c.in_ok-part.part =
    subst (λ s. IsPartOf test s c.in_ok-part.part) c.deref.ensures c.in_ok-part.ensures in
    record {
      pass = pass_more q test arc_value c.args.segments.now c.loop-segment.segment-index c.segment-item.result c.loop-segment.pass _ c.in_ok-part.part (omega arith) c.segment-item.is c.loop-segment.invariant.pass part c.in_ok-add.ensures.parts c.in_ok-add.ensures.counter;
      list = subst (λ (t : Tally). IsLabelList t.labels) (sym c.in_ok-add.ensures.counter) c.loop-segment.invariant.list;
    }

pub returns-clause-pass : goal.returns-clause-pass
returns-clause-pass c =
    subst (λ xs. IsPassOf (question_of c.args.view.now c.args.config.now c.args.segments.now c.args.ask.now) (passes_all (query_view c.args.ask.now.query) c.args.ask.now.drill (text_in c.args.lifted)) (records_of xs) c.loop-segment.pass)
    (take_all c.loop-segment.segment-index c.args.segments.now (omega arith)) c.loop-segment.invariant.pass
