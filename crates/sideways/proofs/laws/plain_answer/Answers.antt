use Rattle.std.proofs.Common.{◌∙◌, ◌≤◌, ap, subst, None, take, arith}
use Rattle.std.specs.Prelude.{filter, length}
use Rattle.std.proofs.lemmas.List.{length-map}
use Rattle.facet_model.specs.CountedPaths.{counted_ordinals}
use Rattle.facet_model.specs.Documents.{Doc}
use Rattle.facet_names.specs.Labels.{IsLabelList}
use Rattle.facet_counts.proofs.Documents.{list_counted}
use Rattle.seg_drill.specs.Passing.{passes_all}
use Rattle.sideways.specs.Counted.{placed}
use Rattle.sideways.proofs.Placed.{placed_length, take_few}
use Rattle.sideways.specs.Searches.{question_of, records_of}
use Rattle.sideways.proofs.Ready.{counts_found, each_has, hits_counted, lists_found, places_found, ready}
use Rattle.sideways.proofs.laws.plain_answer.Goals as goal

pub pass_over-requires : goal.pass_over-requires
pass_over-requires c =
    let decoded = c.requires.docs.1 in
    each_has (question_of c.args.view.now c.args.config.now c.args.segments.now c.args.ask.now) (records_of c.args.segments.now) decoded.0 decoded.1

pub count_hits-counter-requires-clause-ready : goal.count_hits-counter-requires-clause-ready
count_hits-counter-requires-clause-ready c =
    let q = question_of c.args.view.now c.args.config.now c.args.segments.now c.args.ask.now in
    let is = c.in_ok-pass.ensures.pass in
    ready q (passes_all q.query q.drill None) (λ config labels list doc is of. list_counted config labels is list doc of) (subst IsLabelList is.labels c.in_ok-pass.ensures.list) c.requires.docs c.in_ok-pass.pass is

pub invariant_of-result : goal.invariant_of-result
invariant_of-result c =
    let q = question_of c.args.view.now c.args.config.now c.args.segments.now c.args.ask.now in
    let pass = c.in_ok-pass.pass in
    let is = c.in_ok-pass.ensures.pass in
    let list : IsLabelList q.labels = subst IsLabelList is.labels c.in_ok-pass.ensures.list in
    let test = passes_all q.query q.drill None in
    let few : length (placed 0 pass.parts.items) ≤ 1000000 = omega (arith, placed_length 0 pass.parts.items, (ready q test (λ config labels list doc is of. list_counted config labels is list doc of) list c.requires.docs pass is).room) in
    let tally = c.count_hits-counter.result.counter in
    let hits = hits_counted q pass is tally c.count_hits-counter.ensures.counted in
    record {
      docs = c.requires.docs;
      list = list;
      fit = c.requires.fit;
      counts = counts_found q tally c.roll_up.result hits c.roll_up.ensures.counts (c.roll_up.ensures.labels ∙ c.count_hits-counter.ensures.labels ∙ is.labels) (c.roll_up.ensures.config ∙ c.count_hits-counter.ensures.config ∙ is.config);
      each = c.in_ok-lifted.ensures.each;
      covers = c.in_ok-lifted.ensures.covers;
      number = λ docs has. c.count_hits-counter.ensures.number ∙ ap length (lists_found q test pass is docs has) ∙ length-map (filter test docs) (λ (doc : Doc). counted_ordinals q.labels q.config doc.labels);
      first = λ docs has. c.count_hits-counter.ensures.places ∙ ap (λ n. take n (placed 0 pass.parts.items)) c.limit_of-limit.ensures ∙ take_few q.hits 1000000 (placed 0 pass.parts.items) few ∙ ap (take q.hits) (places_found q test pass is docs has);
    }
