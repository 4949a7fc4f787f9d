use Rattle.std.proofs.Common.{◌∙◌, ◌≤◌, ap, sym, subst, None, take, arith}
use Rattle.std.specs.Vec.{vec_capacity}
use Rattle.std.specs.Prelude.{filter, length}
use Rattle.std.proofs.lemmas.List.{length-map}
use Rattle.facet_model.specs.CountedPaths.{counted_ordinals}
use Rattle.facet_model.specs.Documents.{Doc}
use Rattle.facet_counts.proofs.Documents.{list_counted}
use Rattle.seg_drill.specs.Passing.{passes_all}
use Rattle.sideways.specs.Counted.{placed}
use Rattle.sideways.proofs.Placed.{placed_length, take_few}
use Rattle.sideways.specs.Searches.{question_of}
use Rattle.sideways.proofs.Ready.{counts_found, each_ready, each_room, hits_counted, lists_found, places_found, ready}
use Rattle.sideways.proofs.plan.DrillPlan.run.Goals as goal

pub count_hits-counter-requires : goal.count_hits-counter-requires
count_hits-counter-requires c =
    let q = question_of c.self.inside.view.now c.self.inside.config.now c.self.inside.segments.now c.self.inside.ask.now in
    let plan = c.self.invariant.0 in
    record { ready = ready q (passes_all q.query q.drill None) (λ config labels list doc is of. list_counted config labels is list doc of) plan.list plan.docs c.self.inside.hits plan.hits; none = c.self.invariant.1.no_places; capacity = subst (λ n. n ≤ vec_capacity c.self.inside.places) (sym c.limit_of.ensures) c.self.invariant.1.for_places }

pub count_lifted-lifted-requires-clause-ready : goal.count_lifted-lifted-requires-clause-ready
count_lifted-lifted-requires-clause-ready c =
    let q = question_of c.self.inside.view.now c.self.inside.config.now c.self.inside.segments.now c.self.inside.ask.now in
    let plan = c.self.invariant.0 in
    each_ready q (λ config labels list doc is of. list_counted config labels is list doc of) plan.list plan.docs c.self.inside.lifted.items plan.each

pub count_lifted-lifted-requires-clause-room : goal.count_lifted-lifted-requires-clause-room
count_lifted-lifted-requires-clause-room c =
    let q = question_of c.self.inside.view.now c.self.inside.config.now c.self.inside.segments.now c.self.inside.ask.now in
    let plan = c.self.invariant.0 in
    let tally = c.count_hits-counter.result.counter in
    each_room q tally plan.docs (hits_counted q c.self.inside.hits plan.hits tally c.count_hits-counter.ensures.counted) (c.count_hits-counter.ensures.labels ∙ plan.hits.labels) (c.count_hits-counter.ensures.config ∙ plan.hits.config) c.self.inside.lifted.items plan.each

pub invariant_of-result : goal.invariant_of-result
invariant_of-result c =
    let q = question_of c.self.inside.view.now c.self.inside.config.now c.self.inside.segments.now c.self.inside.ask.now in
    let plan = c.self.invariant.0 in
    let pass = c.self.inside.hits in
    let test = passes_all q.query q.drill None in
    let few : length (placed 0 pass.parts.items) ≤ 1000000 = omega (arith, placed_length 0 pass.parts.items, (ready q test (λ config labels list doc is of. list_counted config labels is list doc of) plan.list plan.docs pass plan.hits).room) in
    let tally = c.count_hits-counter.result.counter in
    let hits = hits_counted q pass plan.hits tally c.count_hits-counter.ensures.counted in
    record {
      docs = plan.docs;
      list = plan.list;
      fit = plan.fit;
      counts = counts_found q tally c.roll_up.result hits c.roll_up.ensures.counts (c.roll_up.ensures.labels ∙ c.count_hits-counter.ensures.labels ∙ plan.hits.labels) (c.roll_up.ensures.config ∙ c.count_hits-counter.ensures.config ∙ plan.hits.config);
      each = c.count_lifted-lifted.ensures.each q hits plan.each;
      covers = λ d. c.count_lifted-lifted.ensures.covers d ∙ plan.covers d;
      number = λ docs has. c.count_hits-counter.ensures.number ∙ ap length (lists_found q test pass plan.hits docs has) ∙ length-map (filter test docs) (λ (doc : Doc). counted_ordinals q.labels q.config doc.labels);
      first = λ docs has. c.count_hits-counter.ensures.places ∙ ap (λ n. take n (placed 0 pass.parts.items)) c.limit_of.ensures ∙ take_few q.hits 1000000 (placed 0 pass.parts.items) few ∙ ap (take q.hits) (places_found q test pass plan.hits docs has);
    }
