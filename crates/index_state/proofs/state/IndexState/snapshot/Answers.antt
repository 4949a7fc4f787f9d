use Rattle.std.proofs.Common.{◌≡◌, ◌≤◌, ◌∙◌, List, length, map, ap, sym, subst}
use Rattle.std.specs.Arc.{arc_value}
use Rattle.facet_model.specs.Stored.{Records}
use Rattle.seg_documents.specs.Decoding.{records_in}
use Rattle.index_state.proofs.Placing.{few_records}
use Rattle.index_state.proofs.state.IndexState.snapshot.Goals as goal

pub invariant_of-result-clause-few : goal.invariant_of-result-clause-few
invariant_of-result-clause-few c =
    let s = c.self.inside in
    let all : c.in_ok-segments.segments ≡ map arc_value s.segments.items = c.in_ok-segments.ensures.all ∙ ap (map arc_value) c.deref.ensures.value in
    subst (λ (ss : List Records). length (records_in ss) ≤ 1000000) (sym all) (few_records (arc_value s.config) s.labels (map arc_value s.segments.items) s.waiting.items s.sessions.items s.max_docs c.self.invariant)

pub returns-clause-segments : goal.returns-clause-segments
returns-clause-segments c = c.in_ok-segments.ensures.all ∙ ap (map arc_value) c.deref.ensures.value
