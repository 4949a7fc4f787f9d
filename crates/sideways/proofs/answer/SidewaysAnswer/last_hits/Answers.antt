use Rattle.std.proofs.Common.{◌≡◌, ◌∙◌, ◌≤◌, List, length, take, drop, reverse, ap, subst, None, arith}
use Rattle.facet_model.specs.CountedPaths.{places}
use Rattle.facet_model.specs.Documents.{Doc}
use Rattle.facet_model.specs.Hits.{is_hit}
use Rattle.seg_drill.specs.Passing.{passes_all}
use Rattle.sideways.specs.Questions.{HasDocs}
use Rattle.sideways.specs.Searches.{Search, question, question_of, records_of}
use Rattle.sideways.proofs.LastHits.{listed_back, live_number}
use Rattle.sideways.proofs.Ready.{each_has}
use Rattle.sideways.proofs.answer.SidewaysAnswer.last_hits.Goals as goal

pub last_of-requires-clause-has : goal.last_of-requires-clause-has
last_of-requires-clause-has c =
    let q = question_of c.self.inside.view.now c.self.inside.config.now c.self.inside.segments.now c.self.inside.ask.now in
    let has = c.self.invariant.docs.1 in
    each_has q (records_of c.self.inside.segments.now) has.0 has.1

pub last_of-requires-clause-few : goal.last_of-requires-clause-few
last_of-requires-clause-few c =
    let docs = c.self.invariant.docs in
    omega (arith, live_number c.self.inside.view.now c.self.inside.config.now (records_of c.self.inside.segments.now) docs.1.0 docs.1.1, ap length docs.1.2, docs.2)

pub returns : goal.returns
returns c =
    let known = c.self.inside.view.now in
    let config = c.self.inside.config.now in
    let segments = records_of c.self.inside.segments.now in
    let ask = c.self.inside.ask.now in
    let q = question_of known config c.self.inside.segments.now ask in
    let own = c.self.invariant.docs in
    subst (λ (s : Search). (docs : List Doc) → HasDocs (question s) docs → c.without_first.result.items ≡ take s.ask.hits (drop s.ask.from (reverse (places (is_hit (question s).query (question s).drill) docs)))) c.self.view_is
    (λ docs has.
    let few : length docs ≤ 1000000 = omega (arith, live_number known config segments own.1.0 own.1.1, ap length own.1.2, own.2, live_number known config segments has.0 has.1, ap length has.2) in
    c.without_first.ensures
    ∙ listed_back ask.from ask.hits c.reach_of-limit.result (passes_all q.query q.drill None) docs c.in_ok-last.last.items few c.reach_of-limit.ensures (c.in_ok-last.ensures known config docs has))
