use Rattle.std.proofs.Common.{rules, ◌≡◌, refl, subst, map, Some, None, true, false}
use Rattle.std.specs.Arc.{arc_value}
use Rattle.std.specs.Prelude.{is_err}
use Rattle.facet_disk.specs.Images.{Told}
use Rattle.commit_calls.specs.Held.{Below}
use Rattle.commit_calls.specs.Outcomes.{carried_told}
use Rattle.commit_store.specs.Committers.{CommitterView}
use Rattle.commit_store.specs.Committing.{HasOneOfThree}
use Rattle.commit_store.specs.Promised.{OfBoth, PassesThree, LeavesThree, Acknowledges, Settles, TellsCommit, AreAmong, HasNamed, StaysListed, CutsShort, FailsDevice}
use Rattle.commit_store.proofs.Carried.{left, passes, ends, acknowledged, settles, stays_listed, named_still, tells, tells_still, cleaned, cut_short, fresh}
use Rattle.commit_plan.proofs.Fitting.{plan_fits}
use Rattle.commit_store.proofs.Promises.{on_ok, on_fault, leaves_same, here_now}
use Rattle.commit_store.proofs.committer.Committer.commit.Goals as goal

pub returns-in_err-planned-clause-now : goal.returns-in_err-planned-clause-now
returns-in_err-planned-clause-now g c =
    λ unclosed s labels segs told at on. here_now g.D.Disk c.args.self.now.config c.args.self.now.state c.args.self.now.disk labels c.args.view.now segs (map arc_value c.args.segments.now) at

pub returns-in_err-planned-clause-any_moment : goal.returns-in_err-planned-clause-any_moment
returns-in_err-planned-clause-any_moment g c =
    let laws = g.met.D.Disk g.world.𝓛 g.world.𝓜 g.world.𝓡 ((λ s x. x), (λ x. x), (λ x. x), λ x. x) in
    λ unclosed s labels segs told at on. leaves_same g.D.Disk laws.only_now c.args.self.now.disk (HasOneOfThree c.args.self.now.config labels segs c.args.view.now (map arc_value c.args.segments.now))
    (here_now g.D.Disk c.args.self.now.config c.args.self.now.state c.args.self.now.disk labels c.args.view.now segs (map arc_value c.args.segments.now) at)

pub returns-then-is_err-clause-any_moment : goal.returns-then-is_err-clause-any_moment
returns-then-is_err-clause-any_moment g c =
    let laws = g.met.D.Disk g.world.𝓛 g.world.𝓜 g.world.𝓡 ((λ s x. x), (λ x. x), (λ x. x), λ x. x) in
    subst (λ (old : CommitterView _). old.closed ≡ None → PassesThree g.D.Disk old (left c.self.inside.config c.in_ok-planned.planned.after c.execute_plan-executed.new.disk) c.args.view.now (map arc_value c.args.segments.now)) c.self.view_is
    (λ unclosed s labels segs told at on. passes g.D.Disk laws.own c.self.inside.config c.self.inside.state c.self.inside.disk c.args.view.now (map arc_value c.args.segments.now) c.in_ok-planned.planned.plan c.in_ok-planned.planned.after c.execute_plan-executed.new.disk c.in_ok-planned.ensures.plan c.in_ok-planned.ensures.leads s labels segs told at on c.execute_plan-executed.ensures.any_moment)

pub returns-then-is_err-clause-now : goal.returns-then-is_err-clause-now
returns-then-is_err-clause-now g c =
    let laws = g.met.D.Disk g.world.𝓛 g.world.𝓜 g.world.𝓡 ((λ s x. x), (λ x. x), (λ x. x), λ x. x) in
    subst (λ (old : CommitterView _). old.closed ≡ None → LeavesThree g.D.Disk old (left c.self.inside.config c.in_ok-planned.planned.after c.execute_plan-executed.new.disk) c.args.view.now (map arc_value c.args.segments.now)) c.self.view_is
    (λ unclosed s labels segs told at on. ends g.D.Disk laws.own c.self.inside.config c.self.inside.state c.self.inside.disk c.args.view.now (map arc_value c.args.segments.now) c.in_ok-planned.planned.plan c.in_ok-planned.planned.after c.execute_plan-executed.new.disk c.in_ok-planned.ensures.plan c.in_ok-planned.ensures.leads s labels segs told at on c.execute_plan-executed.ensures.now)

pub returns-clause-any_moment : goal.returns-clause-any_moment
returns-clause-any_moment g c =
    let laws = g.met.D.Disk g.world.𝓛 g.world.𝓜 g.world.𝓡 ((λ s x. x), (λ x. x), (λ x. x), λ x. x) in
    subst (λ (old : CommitterView _). old.closed ≡ None → PassesThree g.D.Disk old (left c.self.inside.config c.in_ok-planned.planned.after c.execute_plan-executed.new.disk) c.args.view.now (map arc_value c.args.segments.now)) c.self.view_is
    (λ unclosed s labels segs told at on. passes g.D.Disk laws.own c.self.inside.config c.self.inside.state c.self.inside.disk c.args.view.now (map arc_value c.args.segments.now) c.in_ok-planned.planned.plan c.in_ok-planned.planned.after c.execute_plan-executed.new.disk c.in_ok-planned.ensures.plan c.in_ok-planned.ensures.leads s labels segs told at on c.execute_plan-executed.ensures.any_moment)

pub returns-clause-now : goal.returns-clause-now
returns-clause-now g c =
    let laws = g.met.D.Disk g.world.𝓛 g.world.𝓜 g.world.𝓡 ((λ s x. x), (λ x. x), (λ x. x), λ x. x) in
    subst (λ (old : CommitterView _). old.closed ≡ None → LeavesThree g.D.Disk old (left c.self.inside.config c.in_ok-planned.planned.after c.execute_plan-executed.new.disk) c.args.view.now (map arc_value c.args.segments.now)) c.self.view_is
    (λ unclosed s labels segs told at on. ends g.D.Disk laws.own c.self.inside.config c.self.inside.state c.self.inside.disk c.args.view.now (map arc_value c.args.segments.now) c.in_ok-planned.planned.plan c.in_ok-planned.planned.after c.execute_plan-executed.new.disk c.in_ok-planned.ensures.plan c.in_ok-planned.ensures.leads s labels segs told at on c.execute_plan-executed.ensures.now)

pub returns-clause-acknowledged : goal.returns-clause-acknowledged
returns-clause-acknowledged g c =
    let laws = g.met.D.Disk g.world.𝓛 g.world.𝓜 g.world.𝓡 ((λ s x. x), (λ x. x), (λ x. x), λ x. x) in
    let fine : is_err c.execute_plan-executed.result ≡ false = search rules in
    subst (λ (old : CommitterView _). Acknowledges g.D.Disk old (left c.self.inside.config c.in_ok-planned.planned.after c.execute_plan-executed.new.disk) c.args.view.now (map arc_value c.args.segments.now)) c.self.view_is
    (λ s labels segs told at on. acknowledged g.D.Disk laws.own c.self.inside.config c.self.inside.state c.self.inside.disk c.args.view.now (map arc_value c.args.segments.now) c.in_ok-planned.planned.plan c.in_ok-planned.planned.after c.execute_plan-executed.new.disk c.in_ok-planned.ensures.plan c.in_ok-planned.ensures.leads s labels segs told at on (on_ok c.execute_plan-executed.result _ c.execute_plan-executed.ensures.done fine))

pub returns-clause-settled : goal.returns-clause-settled
returns-clause-settled g c =
    let laws = g.met.D.Disk g.world.𝓛 g.world.𝓜 g.world.𝓡 ((λ s x. x), (λ x. x), (λ x. x), λ x. x) in
    let fine : is_err c.execute_plan-executed.result ≡ false = search rules in
    subst (λ (old : CommitterView _). Settles g.D.Disk old (left c.self.inside.config c.in_ok-planned.planned.after c.execute_plan-executed.new.disk) c.args.view.now (map arc_value c.args.segments.now)) c.self.view_is
    (λ s u labels segs told then at on. settles g.D.Disk laws.own c.self.inside.config c.self.inside.state c.self.inside.disk c.args.view.now (map arc_value c.args.segments.now) c.in_ok-planned.planned.plan c.in_ok-planned.planned.after c.execute_plan-executed.new.disk c.in_ok-planned.ensures.plan c.in_ok-planned.ensures.leads s labels segs told at on (on_ok c.execute_plan-executed.result _ c.execute_plan-executed.ensures.done fine) u then)

pub returns-clause-told : goal.returns-clause-told
returns-clause-told g c =
    let laws = g.met.D.Disk g.world.𝓛 g.world.𝓜 g.world.𝓡 ((λ s x. x), (λ x. x), (λ x. x), λ x. x) in
    let fine : is_err c.execute_plan-executed.result ≡ false = search rules in
    subst (λ (old : CommitterView _). TellsCommit g.D.Disk old (left c.self.inside.config c.in_ok-planned.planned.after c.execute_plan-executed.new.disk) c.args.view.now (map arc_value c.args.segments.now)) c.self.view_is
    (tells g.D.Disk laws.own c.self.inside.config c.self.inside.state c.self.inside.disk c.args.view.now (map arc_value c.args.segments.now) c.in_ok-planned.planned.plan c.in_ok-planned.planned.after c.execute_plan-executed.new.disk c.in_ok-planned.ensures.plan c.in_ok-planned.ensures.leads (on_ok c.execute_plan-executed.result _ c.execute_plan-executed.ensures.told fine))

pub returns-clause-tells : goal.returns-clause-tells
returns-clause-tells g c =
    let fine : is_err c.execute_plan-executed.result ≡ false = search rules in
    subst (λ (old : CommitterView _). (s : Told) → g.D.Disk.told old.disk ≡ Some s → (u : Told) × (g.D.Disk.told c.execute_plan-executed.new.disk ≡ Some u)) c.self.view_is
    (λ s told. (carried_told c.in_ok-planned.planned.plan s, on_ok c.execute_plan-executed.result _ c.execute_plan-executed.ensures.told fine s told))

pub returns-then-is_err-clause-tells : goal.returns-then-is_err-clause-tells
returns-then-is_err-clause-tells g c =
    let laws = g.met.D.Disk g.world.𝓛 g.world.𝓜 g.world.𝓡 ((λ s x. x), (λ x. x), (λ x. x), λ x. x) in
    let fault : is_err c.execute_plan-executed.result ≡ true = search rules in
    subst (λ (old : CommitterView _). (s : Told) → g.D.Disk.told old.disk ≡ Some s → (u : Told) × (g.D.Disk.told c.execute_plan-executed.new.disk ≡ Some u)) c.self.view_is
    (tells_still g.D.Disk laws.own c.self.inside.config c.self.inside.state c.self.inside.disk c.args.view.now (map arc_value c.args.segments.now) c.in_ok-planned.planned.plan c.in_ok-planned.planned.after c.execute_plan-executed.new.disk c.in_ok-planned.ensures.plan c.in_ok-planned.ensures.leads (on_fault c.execute_plan-executed.result _ c.execute_plan-executed.ensures.cut_short fault))

pub returns-in_err-planned-clause-tells : goal.returns-in_err-planned-clause-tells
returns-in_err-planned-clause-tells g c =
    λ s told. (s, told)

pub returns-clause-cleaned : goal.returns-clause-cleaned
returns-clause-cleaned g c =
    let laws = g.met.D.Disk g.world.𝓛 g.world.𝓜 g.world.𝓡 ((λ s x. x), (λ x. x), (λ x. x), λ x. x) in
    let fine : is_err c.execute_plan-executed.result ≡ false = search rules in
    subst (λ (old : CommitterView _). OfBoth g.D.Disk old.disk c.execute_plan-executed.new.disk (λ s u. AreAmong s.files old.state.listed → AreAmong u.files c.in_ok-planned.planned.after.listed)) c.self.view_is
    (cleaned g.D.Disk laws.own c.self.inside.config c.self.inside.state c.self.inside.disk c.args.view.now (map arc_value c.args.segments.now) c.in_ok-planned.planned.plan c.in_ok-planned.planned.after c.execute_plan-executed.new.disk c.in_ok-planned.ensures.plan c.in_ok-planned.ensures.leads (on_ok c.execute_plan-executed.result _ c.execute_plan-executed.ensures.told fine))

pub returns-clause-listed : goal.returns-clause-listed
returns-clause-listed g c =
    let laws = g.met.D.Disk g.world.𝓛 g.world.𝓜 g.world.𝓡 ((λ s x. x), (λ x. x), (λ x. x), λ x. x) in
    let fine : is_err c.execute_plan-executed.result ≡ false = search rules in
    subst (λ (old : CommitterView _). StaysListed g.D.Disk old (left c.self.inside.config c.in_ok-planned.planned.after c.execute_plan-executed.new.disk)) c.self.view_is
    (stays_listed g.D.Disk laws.own c.self.inside.config c.self.inside.state c.self.inside.disk c.args.view.now (map arc_value c.args.segments.now) c.in_ok-planned.planned.plan c.in_ok-planned.planned.after c.execute_plan-executed.new.disk c.in_ok-planned.ensures.plan c.in_ok-planned.ensures.leads (on_ok c.execute_plan-executed.result _ c.execute_plan-executed.ensures.told fine))

pub returns-clause-named : goal.returns-clause-named
returns-clause-named g c =
    let laws = g.met.D.Disk g.world.𝓛 g.world.𝓜 g.world.𝓡 ((λ s x. x), (λ x. x), (λ x. x), λ x. x) in
    let fine : is_err c.execute_plan-executed.result ≡ false = search rules in
    subst (λ (old : CommitterView _). OfBoth g.D.Disk old.disk c.execute_plan-executed.new.disk (λ s u. HasNamed s.files old.state → HasNamed u.files c.in_ok-planned.planned.after)) c.self.view_is
    (named_still g.D.Disk laws.own c.self.inside.config c.self.inside.state c.self.inside.disk c.args.view.now (map arc_value c.args.segments.now) c.in_ok-planned.planned.plan c.in_ok-planned.planned.after c.execute_plan-executed.new.disk c.in_ok-planned.ensures.plan c.in_ok-planned.ensures.leads (on_ok c.execute_plan-executed.result _ c.execute_plan-executed.ensures.told fine))

pub returns-then-is_err-clause-cut_short : goal.returns-then-is_err-clause-cut_short
returns-then-is_err-clause-cut_short g c =
    let laws = g.met.D.Disk g.world.𝓛 g.world.𝓜 g.world.𝓡 ((λ s x. x), (λ x. x), (λ x. x), λ x. x) in
    let fault : is_err c.execute_plan-executed.result ≡ true = search rules in
    λ count e. subst (λ (old : CommitterView _). CutsShort g.D.Disk old (left c.self.inside.config c.in_ok-planned.planned.after c.execute_plan-executed.new.disk) c.args.view.now (map arc_value c.args.segments.now)) c.self.view_is
    (cut_short g.D.Disk laws.own c.self.inside.config c.self.inside.state c.self.inside.disk c.args.view.now (map arc_value c.args.segments.now) c.in_ok-planned.planned.plan c.in_ok-planned.planned.after c.execute_plan-executed.new.disk c.in_ok-planned.ensures.plan c.in_ok-planned.ensures.leads (on_fault c.execute_plan-executed.result _ c.execute_plan-executed.ensures.cut_short fault))

pub returns-then-is_err-clause-failed : goal.returns-then-is_err-clause-failed
returns-then-is_err-clause-failed g c =
    let fault : is_err c.execute_plan-executed.result ≡ true = search rules in
    λ count e. subst (λ (old : CommitterView _). FailsDevice g.D.Disk old (left c.self.inside.config c.in_ok-planned.planned.after c.execute_plan-executed.new.disk)) c.self.view_is
    (λ s told listed below. on_fault c.execute_plan-executed.result _ (c.execute_plan-executed.ensures.failed s told
    (plan_fits c.self.inside.config c.self.inside.state c.args.view.now (map arc_value c.args.segments.now) c.in_ok-planned.planned.plan c.in_ok-planned.planned.after c.in_ok-planned.ensures.plan s.files listed below)) fault)

pub returns-then-is_err-clause-refused : goal.returns-then-is_err-clause-refused
returns-then-is_err-clause-refused g c =
    λ other. absurd (other c.fault_count-count.result refl)

pub returns-clause-fresh : goal.returns-clause-fresh
returns-clause-fresh g c =
    let laws = g.met.D.Disk g.world.𝓛 g.world.𝓜 g.world.𝓡 ((λ s x. x), (λ x. x), (λ x. x), λ x. x) in
    let fine : is_err c.execute_plan-executed.result ≡ false = search rules in
    subst (λ (old : CommitterView _). OfBoth g.D.Disk old.disk c.execute_plan-executed.new.disk (λ s u. Below old.state.next s.files → Below c.in_ok-planned.planned.after.next u.files)) c.self.view_is
    (fresh g.D.Disk laws.own c.self.inside.config c.self.inside.state c.self.inside.disk c.args.view.now (map arc_value c.args.segments.now) c.in_ok-planned.planned.plan c.in_ok-planned.planned.after c.execute_plan-executed.new.disk c.in_ok-planned.ensures.plan c.in_ok-planned.ensures.leads (on_ok c.execute_plan-executed.result _ c.execute_plan-executed.ensures.names fine))
