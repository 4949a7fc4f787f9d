use Rattle.std.proofs.Common.{rules, ◌≡◌, ◌∙◌, sym}
use Rattle.std.specs.Arc.{arc_value}
use Rattle.index_state.specs.Frames.{index_frame}
use Rattle.pair_manager.specs.Published.{pair_frame}
use Rattle.pair_fixture.proofs.passes.begin.Goals as goal

pub passes_of-requires-clause-index_frame : goal.passes_of-requires-clause-index_frame
passes_of-requires-clause-index_frame g c =
    let of = c.in_ok-manager in
    let same : arc_value c.in_ok-config.config ≡ arc_value c.in_ok-again.again = search (rules, c.in_ok-again.ensures) in
    of.ensures.index_frame ∙ (λ i. index_frame (same i) 1000000 ((sym of.ensures.writer) i).labels)

pub passes_of-requires-clause-pair_frame : goal.passes_of-requires-clause-pair_frame
passes_of-requires-clause-pair_frame g c =
    let of = c.in_ok-manager in
    let same : arc_value c.in_ok-config.config ≡ arc_value c.in_ok-again.again = search (rules, c.in_ok-again.ensures) in
    of.ensures.pair_frame ∙ (λ i. pair_frame (same i) of.manager.operations ((sym of.ensures.writer) i).labels)
