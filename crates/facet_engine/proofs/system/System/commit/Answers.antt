use Rattle.std.proofs.Common.{◌≡◌, ℕ, refl, sym, subst}
use Rattle.std.specs.Prelude.{IfErr}
use Rattle.chronicle.specs.Shown.{Shown}
use Rattle.commit_plan.specs.declared.fault.CommitFault.TheVariants.{Disk as OfDisk}
use Rattle.commit_turns.specs.Frames.{HasNumbers}
use Rattle.facet_disk.specs.Calls.{Rose}
use Rattle.pair_manager.specs.declared.point.CommitPoint.{CommitPoint as Point}
use Rattle.pair_manager.specs.Passes.{IsOf}
use Rattle.facet_engine.proofs.Between.{same_since, labels_since, operations_since, still_one_number}
use Rattle.facet_engine.proofs.Committed.{commit_step_since}
use Rattle.facet_engine.proofs.Spent.{commit_spends, spends_since}
use Rattle.facet_engine.proofs.SeenPairs.{all_still_seen, same_tokens, still_belongs, still_named}
use Rattle.facet_engine.specs.HeldPairs.{numbers_held}
use Rattle.facet_engine.specs.Replies.{commit_reply}
use Rattle.facet_engine.specs.Systems.{Engine}
use Rattle.facet_engine.proofs.system.System.commit.Goals as goal

pub commit-requires-clause-own : goal.commit-requires-clause-own
commit-requires-clause-own g c κs within =
    let mid = c.keep_few.new.pass in
    let own = still_belongs c.args.self.now c.args.session.now.pass mid c.keep_few.ensures.same c.requires.own in
    subst (λ (e : Engine). IsOf e.manager mid × (mid.commits.identity ≡ e.commits)) (sym c.self.view_is) (own.manager, own.commits)

pub invariant_of-session-clause-numbers : goal.invariant_of-session-clause-numbers
invariant_of-session-clause-numbers g c =
    let e = c.commit.ensures in
    let session = c.args.session.now in
    let mid = c.keep_few.new.pass in
    let new = c.commit.new.pass in
    still_one_number session.number session.pass new (same_since session.pass mid new c.keep_few.ensures (same_tokens mid new e.labels.0 e.seen.0 e.pairs e.commits)) session.numbers

pub invariant_of-session-clause-own : goal.invariant_of-session-clause-own
invariant_of-session-clause-own g c =
    let session = c.args.session.now in
    let mid = c.keep_few.new.pass in
    let new = c.commit.new.pass in
    still_named session.number session.pass new (operations_since session.pass mid new c.keep_few.ensures c.commit.ensures.seen.1).1 session.own

pub invariant_of-session-clause-seen : goal.invariant_of-session-clause-seen
invariant_of-session-clause-seen g c =
    let e = c.commit.ensures in
    let session = c.args.session.now in
    let mid = c.keep_few.new.pass in
    let more = c.keep_few.ensures in
    let new = c.commit.new.pass in
    all_still_seen session.pass new session.held (same_since session.pass mid new more (same_tokens mid new e.labels.0 e.seen.0 e.pairs e.commits)) (operations_since session.pass mid new more e.seen.1).0
    (labels_since session.pass mid new more e.labels.1).0 session.seen

pub returns-clause-same : goal.returns-clause-same
returns-clause-same g c =
    let e = c.commit.ensures in
    let mid = c.keep_few.new.pass in
    let new = c.commit.new.pass in
    (refl, same_since c.args.session.now.pass mid new c.keep_few.ensures (same_tokens mid new e.labels.0 e.seen.0 e.pairs e.commits))

pub returns-clause-step : goal.returns-clause-step
returns-clause-step g c settings phase line is =
    let e = c.commit.ensures in
    let session = c.args.session.now in
    let mid = c.keep_few.new.pass in
    let new = c.commit.new.pass in
    commit_step_since settings (numbers_held session.held) phase line session.number session.pass mid new session.numbers c.keep_few.ensures
    c.commit.result (same_tokens mid new e.labels.0 e.seen.0 e.pairs e.commits) e.labels.1 e.seen.1 e.pairs e.enters e.operations e.limit

pub returns-clause-spent : goal.returns-clause-spent
returns-clause-spent g c =
    let mid = c.keep_few.new.pass in
    let new = c.commit.new.pass in
    spends_since c.args.session.now.pass mid new (commit_reply c.commit.result) c.keep_few.ensures.commits (commit_spends mid new c.commit.result c.commit.ensures.spent)

pub returns-clause-disk : goal.returns-clause-disk
returns-clause-disk g c =
    subst (λ (t : Shown Point). IfErr c.commit.result (λ e. (count : ℕ) → e ≡ OfDisk count → (next moment faults failures : ℕ) → HasNumbers next moment faults failures t.frame → Rose faults count))
    c.keep_few.ensures.commits c.commit.ensures.disk
