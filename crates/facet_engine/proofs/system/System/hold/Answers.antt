use Rattle.std.proofs.Common.{◌∙◌, ◌++◌, ◌∷◌, [], ℕ, List, length, refl, sym, ap}
use Rattle.std.specs.Prelude.{string_bytes}
use Rattle.pair_manager.specs.Published.{Published}
use Rattle.facet_engine.specs.HeldPairs.{numbers_held}
use Rattle.facet_engine.specs.Sessions.{HasSeen}
use Rattle.facet_engine.proofs.Carried.{held_more}
use Rattle.facet_engine.proofs.Naming.{all_under, some_under, not_under}
use Rattle.facet_engine.proofs.PairReplies.{hold_last, hold_already, hold_without_memory}
use Rattle.facet_engine.proofs.SeenPairs.{acquired, all_still_seen, pushed_seen, same_pass, sees_self, still_named}
use Rattle.facet_engine.proofs.system.System.hold.Goals as goal

pub returns-then-is_some-clause-step : goal.returns-then-is_some-clause-step
returns-then-is_some-clause-step g c settings phase line is =
    let session = c.args.session.now in
    let pass = session.pass in
    let name = c.args.name.now in
    let under = some_under session.held name c.find.result c.find.ensures (sym c.is_some.ensures ∙ c.if-is_some.true) in
    let seen = all_under (HasSeen pass) session.held name under.0 session.seen under.1 in
    hold_already settings session.held phase line session.number pass pass session.numbers (same_pass pass) (sees_self pass.labels) (sees_self pass.operations) (sees_self pass.pairs) refl under.0 seen name under.1

pub invariant_of-session-clause-own : goal.invariant_of-session-clause-own
invariant_of-session-clause-own g c =
    let session = c.args.session.now in
    still_named session.number session.pass c.acquire.new.pass c.acquire.ensures.operations.1 session.own

pub invariant_of-session-clause-seen : goal.invariant_of-session-clause-seen
invariant_of-session-clause-seen g c =
    let e = c.acquire.ensures in
    let session = c.args.session.now in
    all_still_seen session.pass c.acquire.new.pass session.held e.same e.operations.0 e.labels.0 session.seen

pub returns-in_default-clause-step : goal.returns-in_default-clause-step
returns-in_default-clause-step g c settings phase line is =
    let session = c.args.session.now in
    let e = c.in_default.ensures in
    hold_without_memory settings session.held phase line session.number session.pass c.acquire.new.pass session.numbers e.same e.labels e.operations e.pairs e.commits c.args.name.now

pub invariant_of-session-in_default-from_str-clause-own : goal.invariant_of-session-in_default-from_str-clause-own
invariant_of-session-in_default-from_str-clause-own g c =
    let session = c.args.session.now in
    still_named session.number session.pass c.acquire.new.pass c.in-Ok.ensures.operations.1 session.own

pub invariant_of-session-in_default-from_str-clause-seen : goal.invariant_of-session-in_default-from_str-clause-seen
invariant_of-session-in_default-from_str-clause-seen g c =
    let e = c.in-Ok.ensures in
    let session = c.args.session.now in
    all_still_seen session.pass c.acquire.new.pass session.held e.same e.operations.0 e.labels.0 session.seen

pub returns-in_default-from_str-clause-step : goal.returns-in_default-from_str-clause-step
returns-in_default-from_str-clause-step g c settings phase line is =
    let session = c.args.session.now in
    let e = c.in-Ok.ensures in
    hold_without_memory settings session.held phase line session.number session.pass c.acquire.new.pass session.numbers e.same e.labels e.operations e.pairs e.commits c.args.name.now

pub returns-in-Ok-push-clause-step : goal.returns-in-Ok-push-clause-step
returns-in-Ok-push-clause-step g c settings phase line is =
    let session = c.args.session.now in
    let name = c.args.name.now in
    let e = c.in-Ok.ensures in
    let pair = c.in-Ok.lease in
    let none = not_under session.held name c.find.result c.find.ensures (sym c.is_some.ensures ∙ c.if-is_some.false) in
    let seen = acquired session.pass c.acquire.new.pass pair e.same e.told.0 e.told.1 e.frame in
    hold_last settings session.held phase line session.number session.pass c.acquire.new.pass session.numbers e.same e.labels e.operations e.pairs e.commits pair seen name c.operations-operations.result e.last none
    (c.operations-operations.ensures ∙ ap (λ (p : Published). length p.history.seen) c.pair.ensures)

pub returns-in-Ok-push-clause-holds : goal.returns-in-Ok-push-clause-holds
returns-in-Ok-push-clause-holds g c phase line =
    let session = c.args.session.now in
    let e = c.in-Ok.ensures in
    ap numbers_held (c.in-Ok-push.ensures.ok ∙ ap (λ (n : List ℕ). session.held ++ record { name = n; pair = c.in-Ok.lease } ∷ []) c.in-Ok-from_str.ensures.ok)
    ∙ held_more c.args.name.now session.held session.pass c.acquire.new.pass c.in-Ok.lease c.operations-operations.result phase line e.last

pub returns-in-Err-clause-step : goal.returns-in-Err-clause-step
returns-in-Err-clause-step g c settings phase line is =
    let session = c.args.session.now in
    let e = c.in-Ok.ensures in
    hold_without_memory settings session.held phase line session.number session.pass c.acquire.new.pass session.numbers e.same e.labels e.operations e.pairs e.commits c.args.name.now

pub invariant_of-session-2-clause-own : goal.invariant_of-session-2-clause-own
invariant_of-session-2-clause-own g c =
    let session = c.args.session.now in
    still_named session.number session.pass c.acquire.new.pass c.in-Ok.ensures.operations.1 session.own

pub invariant_of-session-2-clause-seen : goal.invariant_of-session-2-clause-seen
invariant_of-session-2-clause-seen g c =
    let e = c.in-Ok.ensures in
    let session = c.args.session.now in
    let new = c.acquire.new.pass in
    let all = all_still_seen session.pass new session.held e.same e.operations.0 e.labels.0 session.seen in
    pushed_seen new session.held c.push.new.self (string_bytes c.in-Ok-from_str.name) c.in-Ok.lease c.push.result c.push.ensures.ok c.push.ensures.err all (acquired session.pass new c.in-Ok.lease e.same e.told.0 e.told.1 e.frame)
