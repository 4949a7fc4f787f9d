use Rattle.std.proofs.Common.{rules, arith, ◌≡◌, ◌∙◌, ◌<◌, ◌≤◌, sym, length, map, true, false}
use Rattle.std.specs.Arc.{arc_value}
use Rattle.std.proofs.lemmas.List.{length-map}
use Rattle.commit_plan.specs.Committed.{kept_view}
use Rattle.commit_plan.specs.Drafts.{is_same}
use Rattle.commit_plan.proofs.SameBytes.{same_more, same_apart, same_end, lengths_differ}
use Rattle.commit_plan.proofs.matching.are_same.Goals as goal

pub returns-then-stored-segments : goal.returns-then-stored-segments
returns-then-stored-segments c = sym (lengths_differ (map kept_view c.args.stored.now) (map arc_value c.args.segments.now)
    (λ same. c.if-stored-segments.true (omega (arith, same, length-map c.args.stored.now kept_view, length-map c.args.segments.now arc_value))))

pub returns-then-not-is_same : goal.returns-then-not-is_same
returns-then-not-is_same c =
    let other : is_same (kept_view c.index-stored-at.result) (arc_value c.index-segments-at.result) ≡ false = search rules in
    let high : c.loop-at.at < length c.args.segments.now = omega (arith, c.loop-at-test.true, c.if-stored-segments.false) in
    sym (same_apart kept_view c.args.stored.now c.loop-at.at c.index-stored-at.result c.loop-at-test.true c.index-stored-at.is arc_value c.args.segments.now c.index-segments-at.result high c.index-segments-at.is other) ∙ c.loop-at.invariant

pub loop-at-preserved : goal.loop-at-preserved
loop-at-preserved c =
    let same : is_same (kept_view c.index-stored-at.result) (arc_value c.index-segments-at.result) ≡ true = search rules in
    let high : c.loop-at.at < length c.args.segments.now = omega (arith, c.loop-at-test.true, c.if-stored-segments.false) in
    same_more kept_view c.args.stored.now c.loop-at.at c.index-stored-at.result c.loop-at-test.true c.index-stored-at.is arc_value c.args.segments.now c.index-segments-at.result high c.index-segments-at.is same ∙ c.loop-at.invariant

pub returns : goal.returns
returns c =
    let high : length (map kept_view c.args.stored.now) ≤ c.loop-at.at = omega (arith, c.loop-at-test.false, length-map c.args.stored.now kept_view) in
    let long : length (map arc_value c.args.segments.now) ≤ c.loop-at.at = omega (arith, c.loop-at-test.false, c.if-stored-segments.false, length-map c.args.segments.now arc_value) in
    sym (same_end (map kept_view c.args.stored.now) (map arc_value c.args.segments.now) c.loop-at.at high long) ∙ c.loop-at.invariant
