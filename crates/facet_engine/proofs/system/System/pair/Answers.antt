use Rattle.std.proofs.Common.{ℕ, List, Option, refl, sym, ap, subst}
use Rattle.facet_names.specs.Texts.{text_in}
use Rattle.facet_engine.specs.Looking.{IsLook, IsPairAt}
use Rattle.facet_engine.specs.Sessions.{HasSeen}
use Rattle.facet_engine.proofs.Looks.{look_last, look_under, of_shared}
use Rattle.facet_engine.proofs.Naming.{all_under}
use Rattle.facet_engine.proofs.SeenPairs.{acquired, all_still_seen, same_pass, sees_self, still_named}
use Rattle.facet_engine.proofs.system.System.pair.Goals as goal

pub invariant_of-session-clause-own : goal.invariant_of-session-clause-own
invariant_of-session-clause-own g c =
    let e = c.acquire.ensures in
    let session = c.args.session.now in
    still_named session.number session.pass c.acquire.new.pass e.operations.1 session.own

pub invariant_of-session-clause-seen : goal.invariant_of-session-clause-seen
invariant_of-session-clause-seen g c =
    let e = c.acquire.ensures in
    let session = c.args.session.now in
    all_still_seen session.pass c.acquire.new.pass session.held e.same e.operations.0 e.labels.0 session.seen

pub returns-in-Some-find-clause-pair : goal.returns-in-Some-find-clause-pair
returns-in-Some-find-clause-pair g c =
    let session = c.args.session.now in
    let pass = session.pass in
    let pair = c.in-Some-find.lease.now in
    of_shared (IsPairAt (text_in c.args.on) session pass) pair c.shared.result c.shared.ensures.ok
    (subst (λ (on : Option (List ℕ)). IsPairAt on session pass pair) (sym (ap text_in c.in-Some.is))
    (c.in-Some-find.ensures, all_under (HasSeen pass) session.held c.in-Some.name.now pair session.seen c.in-Some-find.ensures))

pub returns-in-Some-find-clause-look : goal.returns-in-Some-find-clause-look
returns-in-Some-find-clause-look g c =
    let session = c.args.session.now in
    let pass = session.pass in
    let name = c.in-Some.name.now in
    let pair = c.in-Some-find.lease.now in
    let seen = all_under (HasSeen pass) session.held name pair session.seen c.in-Some-find.ensures in
    of_shared (IsLook c.args.self.now (text_in c.args.on) session pass) pair c.shared.result c.shared.ensures.ok
    (subst (λ (on : Option (List ℕ)). IsLook c.args.self.now on session pass pair) (sym (ap text_in c.in-Some.is))
    (λ settings phase line command reply has is right.
    look_under settings session.held phase line session.number pass pass session.numbers (same_pass pass) (sees_self pass.labels) (sees_self pass.operations) (sees_self pass.pairs) refl pair seen name command reply is c.in-Some-find.ensures right))

pub returns-in-Ok-clause-pair : goal.returns-in-Ok-clause-pair
returns-in-Ok-clause-pair g c =
    let session = c.args.session.now in
    let old = session.pass in
    let new = c.acquire.new.pass in
    let e = c.in-Ok.ensures in
    let pair = c.in-Ok.lease in
    of_shared (IsPairAt (text_in c.args.on) session new) pair c.shared-in-Ok.result c.shared-in-Ok.ensures.ok
    (subst (λ (on : Option (List ℕ)). IsPairAt on session new pair) (sym (ap text_in c.in-None.is)) (e.last, acquired old new pair e.same e.told.0 e.told.1 e.frame))

pub returns-in-Ok-clause-look : goal.returns-in-Ok-clause-look
returns-in-Ok-clause-look g c =
    let session = c.args.session.now in
    let old = session.pass in
    let new = c.acquire.new.pass in
    let e = c.in-Ok.ensures in
    let pair = c.in-Ok.lease in
    let seen = acquired old new pair e.same e.told.0 e.told.1 e.frame in
    of_shared (IsLook c.args.self.now (text_in c.args.on) session new) pair c.shared-in-Ok.result c.shared-in-Ok.ensures.ok
    (subst (λ (on : Option (List ℕ)). IsLook c.args.self.now on session new pair) (sym (ap text_in c.in-None.is))
    (λ settings phase line command reply has is right.
    look_last settings session.held phase line session.number old new session.numbers e.same e.labels e.operations e.pairs e.commits pair seen command reply is e.last right))
