use Rattle.std.proofs.Common.{◌∙◌, Some, subst}
use Rattle.std.specs.Prelude.{filter}
use Rattle.facet_names.specs.Labels.{IsLabelList}
use Rattle.facet_counts.specs.Tallies.{HasAdded}
use Rattle.facet_counts.proofs.Documents.{list_counted}
use Rattle.seg_drill.specs.Passing.{passes_all}
use Rattle.sideways.specs.Questions.{counted_of}
use Rattle.sideways.specs.Searches.{question_of, records_of}
use Rattle.sideways.proofs.Ready.{each_has, lists_found, ready}
use Rattle.sideways.proofs.laws.counts_over.Goals as goal

pub pass_over-requires : goal.pass_over-requires
pass_over-requires c =
    let decoded = c.requires.1 in
    each_has (question_of c.args.view.now c.args.config.now c.args.segments.now c.args.ask.now) (records_of c.args.segments.now) decoded.0 decoded.1

pub count_hits-counter-requires-clause-ready : goal.count_hits-counter-requires-clause-ready
count_hits-counter-requires-clause-ready c =
    let q = question_of c.args.view.now c.args.config.now c.args.segments.now c.args.ask.now in
    let is = c.in_ok-pass.ensures.pass in
    ready q (passes_all q.query q.drill (Some c.args.dim.now)) (λ config labels list doc is of. list_counted config labels is list doc of) (subst IsLabelList is.labels c.in_ok-pass.ensures.list) c.requires c.in_ok-pass.pass is

pub returns : goal.returns
returns c =
    let q = question_of c.args.view.now c.args.config.now c.args.segments.now c.args.ask.now in
    let test = passes_all q.query q.drill (Some c.args.dim.now) in
    let is = c.in_ok-pass.ensures.pass in
    record {
      labels = c.roll_up.ensures.labels ∙ c.count_hits-counter.ensures.labels ∙ is.labels;
      config = c.roll_up.ensures.config ∙ c.count_hits-counter.ensures.config ∙ is.config;
      each = λ docs has. c.roll_up.ensures.counts (counted_of q (filter test docs)) (subst (HasAdded c.count_hits-counter.result.counter) (lists_found q test c.in_ok-pass.pass is docs has) c.count_hits-counter.ensures.counted);
    }
