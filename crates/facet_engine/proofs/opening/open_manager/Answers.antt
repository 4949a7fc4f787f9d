use Rattle.std.proofs.Common.{◌≡◌, ◌∙◌, ℕ, List, map, sym, subst}
use Rattle.std.specs.Arc.{arc_value}
use Rattle.chronicle.specs.Shown.{Shown}
use Rattle.facet_model.specs.Flags.{Config}
use Rattle.index_state.specs.Index.{DecodeUnder}
use Rattle.facet_engine.proofs.opening.open_manager.Goals as goal

pub open-requires-2-clause-decodes : goal.open-requires-2-clause-decodes
open-requires-2-clause-decodes g c =
    let segments = map arc_value c.args.segments.items in
    let config : arc_value c.in_ok-shared.shared ≡ c.args.settings.config = c.in_ok-shared.ensures ∙ c.in_ok-config.ensures.ok in
    subst (λ (t : Shown (List (List ℕ))). DecodeUnder t (arc_value c.in_ok-shared.shared) segments) (sym c.in_ok-writer.ensures.first)
    (subst (λ (x : Config). DecodeUnder c.args.first.now x segments) (sym config) c.requires.decodes)
