use Rattle.std.proofs.Common.{◌∙◌, refl, ap}
use Rattle.facet_engine.specs.declared.holding.NotHeld.{NotHeld}
use Rattle.facet_engine.specs.HeldPairs.{numbers_held}
use Rattle.facet_engine.specs.Sessions.{HasSeen}
use Rattle.facet_engine.proofs.Carried.{held_less}
use Rattle.facet_engine.proofs.Naming.{all_under}
use Rattle.facet_engine.proofs.PairReplies.{release_under, release_not_held}
use Rattle.facet_engine.proofs.SeenPairs.{same_pass, sees_self, still_held}
use Rattle.facet_engine.proofs.system.System.release.Goals as goal

pub returns-in-Some-clause-holds : goal.returns-in-Some-clause-holds
returns-in-Some-clause-holds g c phase line =
    let session = c.args.session.now in
    ap numbers_held c.in-Some.ensures.rest ∙ held_less NotHeld c.args.name.now session.held session.pass c.in-Some.operations phase line

pub returns-in-Some-clause-step : goal.returns-in-Some-clause-step
returns-in-Some-clause-step g c settings phase line is =
    let session = c.args.session.now in
    let pass = session.pass in
    let p = c.in-Some.ensures.pair in
    let seen = all_under (HasSeen pass) session.held c.args.name.now p.0 session.seen p.1 in
    release_under settings session.held phase line session.number pass pass session.numbers (same_pass pass) (sees_self pass.labels) (sees_self pass.operations) (sees_self pass.pairs) refl p.0 seen NotHeld c.args.name.now c.in-Some.operations p.1 p.2

pub returns-in-None-clause-step : goal.returns-in-None-clause-step
returns-in-None-clause-step g c settings phase line is =
    let session = c.args.session.now in
    let fault : NotHeld = record {} in
    let pass = session.pass in
    release_not_held settings session.held phase line session.number pass pass session.numbers (same_pass pass) (sees_self pass.labels) (sees_self pass.operations) (sees_self pass.pairs) refl c.args.name.now fault c.in-None.ensures.pair

pub invariant_of-session-clause-seen : goal.invariant_of-session-clause-seen
invariant_of-session-clause-seen g c = still_held c.args.session.now.pass c.args.session.now.held c.args.name.now c.release.new.self c.release.result c.release.ensures.rest c.args.session.now.seen
