use Rattle.std.proofs.Common.{arith, ◌≡◌, ◌∙◌, ◌<◌, ◌+◌, ◌++◌, length, drop, get_or, map, sym, ap}
use Rattle.std.specs.Arc.{arc_value}
use Rattle.std.proofs.lemmas.List.{length-map, append-nil}
use Rattle.commit_plan.specs.Committed.{kept_view}
use Rattle.commit_plan.specs.Openings.{kept_by}
use Rattle.commit_plan.proofs.Named.{kept_step, kept_end}
use Rattle.commit_plan.proofs.SameBytes.{mapped_at}
use Rattle.commit_plan.proofs.reading.stored_segments.Goals as goal

pub returns : goal.returns
returns c =
    let all = map kept_view c.loop-at.stored.items in
    sym (append-nil all) ∙ ap (λ rest. all ++ rest) (sym (kept_end c.args.parts.now (drop c.loop-at.at (map arc_value c.args.segments.now)) c.loop-at.at (omega (arith, c.loop-at-test.false)))) ∙ c.loop-at.invariant

pub loop-at-preserved : goal.loop-at-preserved
loop-at-preserved c =
    let ss = map arc_value c.args.segments.now in
    let high : c.loop-at.at < length c.args.segments.now = omega (arith, c.loop-at-test.true, c.requires) in
    let here : get_or ss c.loop-at.at (arc_value c.index-segments-at.result) ≡ arc_value c.index-segments-at.result = mapped_at arc_value c.args.segments.now c.loop-at.at c.index-segments-at.result high c.index-segments-at.is in
    ap (λ ks. ks ++ kept_by (drop (c.loop-at.at + 1) c.args.parts.now) (drop (c.loop-at.at + 1) ss)) c.in_ok-push_stored.ensures
    ∙ kept_step c.args.parts.now ss c.loop-at.at c.index-parts-at.result (arc_value c.index-segments-at.result) (map kept_view c.loop-at.stored.items) _ c.loop-at-test.true (omega (arith, high, length-map c.args.segments.now arc_value)) (sym c.index-parts-at.is) here c.loop-at.invariant
