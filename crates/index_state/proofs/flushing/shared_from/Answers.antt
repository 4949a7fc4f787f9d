use Rattle.std.proofs.Common.{◌≤◌, ◌∙◌, List, length, map, sym, ap, subst, arith}
use Rattle.std.specs.Arc.{arc_value}
use Rattle.std.proofs.lemmas.List.{take-map, drop-map}
use Rattle.facet_model.specs.Stored.{Records}
use Rattle.seg_documents.specs.Decoding.{records_in}
use Rattle.seg_merge.proofs.Moved.{live_upto}
use Rattle.index_state.proofs.flushing.shared_from.Goals as goal

pub count_documents-before-requires : goal.count_documents-before-requires
count_documents-before-requires c =
    let segments = c.args.segments.now in
    subst (λ arcs. length (records_in (map arc_value arcs)) ≤ 1000000) (sym c.split_at.ensures.front) (omega (arith, live_upto arc_value segments c.args.first, c.requires.few))

pub returns-clause-range : goal.returns-clause-range
returns-clause-range c = c.in_ok-again.ensures ∙ ap (map arc_value) c.split_at.ensures.back ∙ sym (drop-map arc_value c.args.first c.args.segments.now)

pub returns-clause-before : goal.returns-clause-before
returns-clause-before c =
    c.count_documents-before.ensures ∙ ap (λ arcs. length (records_in (map arc_value arcs))) c.split_at.ensures.front
    ∙ ap (λ (ss : List Records). length (records_in ss)) (sym (take-map arc_value c.args.first c.args.segments.now))
