use Rattle.std.proofs.Common.{◌≡◌, ◌≤◌, ◌∙◌, List, length, map, take, drop, ap, sym, subst, arith}
use Rattle.std.specs.Arc.{arc_value}
use Rattle.std.proofs.lemmas.List.{length-map}
use Rattle.facet_model.specs.Stored.{Records}
use Rattle.seg_documents.specs.Decoding.{records_in}
use Rattle.index_state.specs.Index.{Index}
use Rattle.index_state.specs.Merging.{IsRangeOf}
use Rattle.index_state.proofs.Placing.{few_records, few_from, is_range}
use Rattle.index_state.proofs.state.IndexState.segments_from.Goals as goal

pub shared_from-requires-clause-within : goal.shared_from-requires-clause-within
shared_from-requires-clause-within c =
    omega (arith, c.requires.within, ap (λ (x : Index). length x.segments) c.self.view_is, length-map c.self.inside.segments.items arc_value, ap length c.deref.ensures.value)

pub shared_from-requires-clause-few : goal.shared_from-requires-clause-few
shared_from-requires-clause-few c =
    let s = c.self.inside in
    subst (λ arcs. length (records_in (map arc_value arcs)) ≤ 1000000) (sym c.deref.ensures.value)
    (few_records (arc_value s.config) s.labels (map arc_value s.segments.items) s.waiting.items s.sessions.items s.max_docs c.self.invariant)

pub returns-clause-range : goal.returns-clause-range
returns-clause-range c =
    let s = c.self.inside in
    let first = c.args.first in
    let taken = c.in_ok-segments in
    let before : taken.before ≡ length (records_in (take first (map arc_value s.segments.items))) =
    taken.ensures.before ∙ ap (λ arcs. length (records_in (take first (map arc_value arcs)))) c.deref.ensures.value in
    let range : map arc_value taken.segments.items ≡ drop first (map arc_value s.segments.items) = taken.ensures.range ∙ ap (λ arcs. drop first (map arc_value arcs)) c.deref.ensures.value in
    subst (λ (x : Index). IsRangeOf x first c.note.result taken.before (map arc_value taken.segments.items)) c.self.view_is
    (is_range (arc_value s.config) s.labels (map arc_value s.segments.items) s.waiting.items s.sessions.items s.max_docs c.self.invariant first c.note.result taken.before (map arc_value taken.segments.items) c.note.ensures.note before range)

pub invariant_of-result-clause-few : goal.invariant_of-result-clause-few
invariant_of-result-clause-few c =
    let s = c.self.inside in
    let range : map arc_value c.in_ok-segments.segments.items ≡ drop c.args.first (map arc_value s.segments.items) = c.in_ok-segments.ensures.range ∙ ap (λ arcs. drop c.args.first (map arc_value arcs)) c.deref.ensures.value in
    subst (λ (ss : List Records). length (records_in ss) ≤ 1000000) (sym range) (few_from (arc_value s.config) s.labels (map arc_value s.segments.items) s.waiting.items s.sessions.items s.max_docs c.self.invariant c.args.first)
