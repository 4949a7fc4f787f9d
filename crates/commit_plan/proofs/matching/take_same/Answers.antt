use Rattle.std.proofs.Common.{rules, arith, ◌≡◌, ◌∙◌, ◌≤◌, ◌-◌, sym, ap, length, map, take, drop, Some, true, false}
use Rattle.std.specs.Arc.{arc_value}
use Rattle.std.specs.Str.{bytes_eq}
use Rattle.std.proofs.lemmas.List.{length-map}
use Rattle.seg_grammar.specs.Spelling.{seg_bytes}
use Rattle.commit_plan.specs.Committed.{kept_view}
use Rattle.commit_plan.specs.Drafts.{taken}
use Rattle.commit_plan.proofs.SameBytes.{taken_more, taken_here, taken_none, rest_mapped, rest_behind}
use Rattle.commit_plan.proofs.matching.take_same.Goals as goal

pub loop-ahead-init : goal.loop-ahead-init
loop-ahead-init c = ap (λ kept. taken kept c.args.bytes.now) (rest_mapped kept_view c.args.stored.now c.args.from c.requires)

pub returns-then-has_bytes-clause-taken : goal.returns-then-has_bytes-clause-taken
returns-then-has_bytes-clause-taken c =
    let rest = take (length c.args.stored.now - c.args.from) (drop c.args.from c.args.stored.now) in
    let same : bytes_eq (seg_bytes (arc_value c.index-rest-ahead.result.segment)) c.args.bytes.now ≡ true = search rules in
    sym c.loop-ahead.invariant ∙ taken_here kept_view rest c.loop-ahead.ahead c.index-rest-ahead.result c.loop-ahead-test.true c.index-rest-ahead.is c.args.bytes.now same
    ∙ ap (λ behind. Some (c.index-rest-ahead.result.part, behind)) (rest_behind kept_view c.args.stored.now c.args.from c.requires c.loop-ahead.ahead)

pub loop-ahead-preserved : goal.loop-ahead-preserved
loop-ahead-preserved c =
    let rest = take (length c.args.stored.now - c.args.from) (drop c.args.from c.args.stored.now) in
    let other : bytes_eq (seg_bytes (arc_value c.index-rest-ahead.result.segment)) c.args.bytes.now ≡ false = search rules in
    taken_more kept_view rest c.loop-ahead.ahead c.index-rest-ahead.result c.loop-ahead-test.true c.index-rest-ahead.is c.args.bytes.now other ∙ c.loop-ahead.invariant

pub returns-clause-taken : goal.returns-clause-taken
returns-clause-taken c =
    let rest = take (length c.args.stored.now - c.args.from) (drop c.args.from c.args.stored.now) in
    let high : length (map kept_view rest) ≤ c.loop-ahead.ahead = omega (arith, c.loop-ahead-test.false, length-map rest kept_view) in
    sym c.loop-ahead.invariant ∙ taken_none (map kept_view rest) c.loop-ahead.ahead c.args.bytes.now high
