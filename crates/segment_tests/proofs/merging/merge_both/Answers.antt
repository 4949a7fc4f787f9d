use Rattle.std.proofs.Common.{[], ◌∷◌, length, ap, ◌∙◌, arith}
use Rattle.std.specs.Arc.{arc_value}
use Rattle.facet_model.specs.Stored.{Records, live_before}
use Rattle.segment_tests.proofs.Live.{both_live}
use Rattle.segment_tests.proofs.merging.merge_both.Goals as goal

pub merge-requires-clause-some : goal.merge-requires-clause-some
merge-requires-clause-some c =
    let one = c.live.ensures ∙ ap (λ (s : Records). live_before s.dead (length s.records)) c.deref.ensures in
    let other = c.live-2.ensures ∙ ap (λ (s : Records). live_before s.dead (length s.records)) c.deref-2.ensures in
    omega (arith, one, other, both_live (arc_value c.args.one) (arc_value c.args.other), c.if-live-eq0.false)

pub merge-requires-clause-few : goal.merge-requires-clause-few
merge-requires-clause-few c =
    let one = c.live.ensures ∙ ap (λ (s : Records). live_before s.dead (length s.records)) c.deref.ensures in
    let other = c.live-2.ensures ∙ ap (λ (s : Records). live_before s.dead (length s.records)) c.deref-2.ensures in
    omega (arith, one, other, both_live (arc_value c.args.one) (arc_value c.args.other), c.if-live-gt1000000.false)

pub merge-requires-clause-terms : goal.merge-requires-clause-terms
merge-requires-clause-terms c = (c.requires.one.0 ∷ c.requires.other.0 ∷ [], (c.requires.one.1, (c.requires.other.1, tt)))
