use Rattle.std.proofs.Common.{refl, sym, subst}
use Rattle.pair_manager.specs.Passes.{IsOf}
use Rattle.facet_engine.proofs.Between.{same_since, labels_since, operations_since, still_one_number}
use Rattle.facet_engine.proofs.Refreshed.{refresh_step_since}
use Rattle.facet_engine.proofs.SeenPairs.{all_still_seen, still_belongs, still_named}
use Rattle.facet_engine.specs.HeldPairs.{numbers_held}
use Rattle.facet_engine.specs.Systems.{Engine}
use Rattle.facet_engine.proofs.system.System.refresh.Goals as goal

pub refresh-requires : goal.refresh-requires
refresh-requires g c =
    let mid = c.keep_few.new.pass in
    record { own = subst (λ (e : Engine). IsOf e.manager mid) (sym c.self.view_is) (still_belongs c.args.self.now c.args.session.now.pass mid c.keep_few.ensures.same c.requires.own).manager }

pub invariant_of-session-clause-numbers : goal.invariant_of-session-clause-numbers
invariant_of-session-clause-numbers g c =
    let session = c.args.session.now in
    let mid = c.keep_few.new.pass in
    let new = c.refresh.new.pass in
    still_one_number session.number session.pass new (same_since session.pass mid new c.keep_few.ensures c.refresh.ensures.same) session.numbers

pub invariant_of-session-clause-own : goal.invariant_of-session-clause-own
invariant_of-session-clause-own g c =
    let session = c.args.session.now in
    let mid = c.keep_few.new.pass in
    let new = c.refresh.new.pass in
    still_named session.number session.pass new (operations_since session.pass mid new c.keep_few.ensures c.refresh.ensures.operations).1 session.own

pub invariant_of-session-clause-seen : goal.invariant_of-session-clause-seen
invariant_of-session-clause-seen g c =
    let e = c.refresh.ensures in
    let session = c.args.session.now in
    let mid = c.keep_few.new.pass in
    let more = c.keep_few.ensures in
    let new = c.refresh.new.pass in
    all_still_seen session.pass new session.held (same_since session.pass mid new more e.same) (operations_since session.pass mid new more e.operations).0 (labels_since session.pass mid new more e.labels).0 session.seen

pub returns-clause-same : goal.returns-clause-same
returns-clause-same g c = (refl, same_since c.args.session.now.pass c.keep_few.new.pass c.refresh.new.pass c.keep_few.ensures c.refresh.ensures.same)

pub returns-clause-step : goal.returns-clause-step
returns-clause-step g c settings phase line is =
    let e = c.refresh.ensures in
    let session = c.args.session.now in
    refresh_step_since settings (numbers_held session.held) phase line session.number session.pass c.keep_few.new.pass c.refresh.new.pass session.numbers c.keep_few.ensures
    c.refresh.result e.same e.labels e.operations e.pairs e.commits e.answer e.fresh e.enters e.none
