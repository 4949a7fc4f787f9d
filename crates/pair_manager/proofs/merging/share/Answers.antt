use Rattle.std.proofs.Common.{◌≡◌, ◌⊎◌, inr, ◌∙◌, ℕ, List, map, ap, sym, subst}
use Rattle.std.proofs.lemmas.Result.{IfOk-weaker}
use Rattle.std.specs.Arc.{arc_value}
use Rattle.facet_model.specs.Histories.{Operation}
use Rattle.index_state.specs.Index.{Index, StandsFor, IsFlushed}
use Rattle.index_state.specs.Frames.{frame_of}
use Rattle.index_state.specs.Merging.{IsRangeOf}
use Rattle.pair_manager.specs.Merging.{first_in}
use Rattle.pair_manager.proofs.Sharing.{flushed_stands, flushed_frame, on_ok}
use Rattle.pair_manager.proofs.merging.share.Goals as goal

pub returns-in_err-first-clause-stands : goal.returns-in_err-first-clause-stands
returns-in_err-first-clause-stands c = flushed_stands c.args.index.now c.flush.new.self c.in_ok-flush.ensures.flushed

pub returns-in_err-first-clause-frame : goal.returns-in_err-first-clause-frame
returns-in_err-first-clause-frame c = flushed_frame c.args.index.now c.flush.new.self c.in_ok-flush.ensures.flushed

pub returns-clause-stands : goal.returns-clause-stands
returns-clause-stands c =
    subst (λ (x : Index). (history : List Operation) → StandsFor c.args.index.now history → StandsFor x history) (sym c.segments_from.ensures.index) (flushed_stands c.args.index.now c.flush.new.self c.in_ok-flush.ensures.flushed)

pub returns-clause-frame : goal.returns-clause-frame
returns-clause-frame c = ap (λ (x : Index). frame_of x) c.segments_from.ensures.index ∙ flushed_frame c.args.index.now c.flush.new.self c.in_ok-flush.ensures.flushed

pub returns-clause-rest : goal.returns-clause-rest
returns-clause-rest c = subst (λ (x : Index). (x ≡ c.args.index.now) ⊎ IsFlushed c.args.index.now x) (sym c.segments_from.ensures.index) (inr c.in_ok-flush.ensures.flushed)

pub returns-clause-flushed : goal.returns-clause-flushed
returns-clause-flushed c = on_ok c.segments_from.result (subst (λ (x : Index). IsFlushed c.args.index.now x) (sym c.segments_from.ensures.index) c.in_ok-flush.ensures.flushed)

pub returns-clause-range : goal.returns-clause-range
returns-clause-range c =
    IfOk-weaker c.segments_from.result _ _ (λ r is.
    subst (λ (x : Index). IsRangeOf x (first_in c.args.scope x.segments) r.labels r.before (map arc_value r.segments.items)) (sym c.segments_from.ensures.index)
    (subst (λ (n : ℕ). IsRangeOf c.flush.new.self n r.labels r.before (map arc_value r.segments.items)) c.in_ok-first.ensures.first is)) c.segments_from.ensures.range
