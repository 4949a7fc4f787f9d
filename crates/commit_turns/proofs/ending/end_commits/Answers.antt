use Rattle.std.proofs.Common.{◌≡◌, ◌∙◌, ℕ, ◌≤◌, ◌∷◌, [], sym, ap, subst, arith, All, Some}
use Rattle.chronicle.specs.History.{entries}
use Rattle.chronicle.proofs.Entries.{entries-prefix}
use Rattle.facet_disk.specs.Calls.{Rose}
use Rattle.facet_model.proofs.ConfigTexts.{config_told}
use Rattle.taxo_cache.specs.Seen.{labels_of}
use Rattle.commit_turns.specs.DiskStates.{state_of}
use Rattle.commit_turns.specs.Ending.{Lasts, FailsWith}
use Rattle.commit_turns.specs.Points.{count_after, last_of}
use Rattle.pair_manager.specs.declared.point.CommitPoint.{CommitPoint}
use Rattle.commit_turns.proofs.Carried.{stands_more}
use Rattle.commit_turns.proofs.Ended.{count_is, counts, rose, fails_with, lasts}
use Rattle.commit_turns.proofs.ending.end_commits.Goals as goal
use Rattle.taxo_adding.proofs.Growing.{seen_goes_on}

pub returns-clause-counts : goal.returns-clause-counts
returns-clause-counts g c =
    let d = g.D.Disk in
    let n = g.N.Start in
    let v = c.end-committer.result in
    let points = entries c.end-committer.new.token.seen in
    subst (λ x. All (λ (p : CommitPoint). (count : ℕ) → p.failed ≡ Some count → count ≤ d.faults x) points) (sym c.into_disk.ensures)
    (counts d n.told n.settled n.quiet v.start.value v.begun.value.state v.committer v.last (labels_of v.labels.seen) (entries v.operations.seen) points c.end-committer.ensures.value.0.marks c.end-committer.ensures.value.0.stands)

pub returns-clause-rose : goal.returns-clause-rose
returns-clause-rose g c first moment faults failures numbers =
    let d = g.D.Disk in
    let n = g.N.Start in
    let v = c.end-committer.result in
    let points = entries c.end-committer.new.token.seen in
    let frame = c.end-committer.ensures.value.1 ∙ ap (λ t. t.frame) c.end-committer.ensures.ended in
    let are : v.begun.value.state.next ∷ d.moment v.start.value ∷ d.faults v.start.value ∷ d.failures v.start.value ∷ [] ≡ first ∷ moment ∷ faults ∷ failures ∷ [] = ap (λ f. f.numbers) frame ∙ numbers in
    let same : d.faults v.start.value ≡ faults = cc are in
    subst (λ x. All (λ (p : CommitPoint). (count : ℕ) → p.failed ≡ Some count → Rose x count) points) same
    (rose d n.told n.settled n.quiet v.start.value v.begun.value.state v.committer v.last (labels_of v.labels.seen) (entries v.operations.seen) points c.end-committer.ensures.value.0.marks c.end-committer.ensures.value.0.stands)

pub returns-clause-later : goal.returns-clause-later
returns-clause-later g c first moment faults failures numbers =
    let d = g.D.Disk in
    let v = c.end-committer.result in
    let frame = c.end-committer.ensures.value.1 ∙ ap (λ t. t.frame) c.end-committer.ensures.ended in
    let are : v.begun.value.state.next ∷ d.moment v.start.value ∷ d.faults v.start.value ∷ d.failures v.start.value ∷ [] ≡ first ∷ moment ∷ faults ∷ failures ∷ [] = ap (λ f. f.numbers) frame ∙ numbers in
    let same : d.faults v.start.value ≡ faults = cc are in
    subst (λ x. faults ≤ d.faults x) (sym c.into_disk.ensures) (omega (arith, same, c.end-committer.ensures.value.0.stands.counted))

pub returns-clause-exact : goal.returns-clause-exact
returns-clause-exact g c first moment faults failures numbers =
    let d = g.D.Disk in
    let n = g.N.Start in
    let v = c.end-committer.result in
    let points = entries c.end-committer.new.token.seen in
    let frame = c.end-committer.ensures.value.1 ∙ ap (λ t. t.frame) c.end-committer.ensures.ended in
    let are : v.begun.value.state.next ∷ d.moment v.start.value ∷ d.faults v.start.value ∷ d.failures v.start.value ∷ [] ≡ first ∷ moment ∷ faults ∷ failures ∷ [] = ap (λ f. f.numbers) frame ∙ numbers in
    let same : d.faults v.start.value ≡ faults = cc are in
    ap d.faults c.into_disk.ensures
    ∙ count_is d n.told n.settled n.quiet v.start.value v.begun.value.state v.committer v.last (labels_of v.labels.seen) (entries v.operations.seen) points c.end-committer.ensures.value.0.marks c.end-committer.ensures.value.0.stands
    ∙ ap (λ (x : ℕ). count_after x (last_of points).failed) same

pub returns-clause-tells : goal.returns-clause-tells
returns-clause-tells g c is =
    let d = g.D.Disk in
    let tells = c.end-committer.ensures.value.0.stands.tells is in
    (tells.0, ap d.told c.into_disk.ensures ∙ tells.1)

pub returns-clause-failed : goal.returns-clause-failed
returns-clause-failed g c first moment faults failures is numbers =
    let d = g.D.Disk in
    let n = g.N.Start in
    let v = c.end-committer.result in
    let points = entries c.end-committer.new.token.seen in
    let frame = c.end-committer.ensures.value.1 ∙ ap (λ t. t.frame) c.end-committer.ensures.ended in
    let are : v.begun.value.state.next ∷ d.moment v.start.value ∷ d.faults v.start.value ∷ d.failures v.start.value ∷ [] ≡ first ∷ moment ∷ faults ∷ failures ∷ [] = ap (λ f. f.numbers) frame ∙ numbers in
    let same : d.failures v.start.value ≡ failures = cc are in
    let fails = fails_with d n.told n.settled n.quiet v.start.value v.begun.value.state v.committer v.last (labels_of v.labels.seen) (entries v.operations.seen) points c.end-committer.ensures.value.0.marks c.end-committer.ensures.value.0.stands is in
    subst (λ (T : Type 0). T) (λ i. FailsWith d (same i) (last_of points).failed (sym c.into_disk.ensures i)) fails

pub returns-clause-quiet : goal.returns-clause-quiet
returns-clause-quiet g c few =
    let d = g.D.Disk in
    subst (λ x. g.N.Start.quiet (state_of d x)) (sym c.into_disk.ensures) (c.end-committer.ensures.value.0.stands.untouched few)

pub returns-clause-lasts : goal.returns-clause-lasts
returns-clause-lasts g c config first moment faults failures is texts numbers =
    let d = g.D.Disk in
    let n = g.N.Start in
    let v = c.end-committer.result in
    let labels = labels_of c.meet.new.into.seen in
    let history = entries c.meet-2.new.into.seen in
    let points = entries c.end-committer.new.token.seen in
    let st = stands_more d n.told n.settled n.quiet v.start.value v.begun.value.state v.committer v.last (labels_of v.labels.seen) labels (entries v.operations.seen) history points c.end-committer.ensures.value.0.marks (seen_goes_on _ _ c.meet.ensures.told) (entries-prefix _ _ c.meet-2.ensures.told) c.end-committer.ensures.value.0.stands in
    let frame = c.end-committer.ensures.value.1 ∙ ap (λ t. t.frame) c.end-committer.ensures.ended in
    let config_is : v.committer.config ≡ config = config_told v.committer.config config (ap (λ f. f.texts) frame ∙ sym texts) in
    let are : v.begun.value.state.next ∷ d.moment v.start.value ∷ d.faults v.start.value ∷ d.failures v.start.value ∷ [] ≡ first ∷ moment ∷ faults ∷ failures ∷ [] = ap (λ f. f.numbers) frame ∙ numbers in
    let moment_is : d.moment v.start.value ≡ moment = cc are in
    let own = (g.met.D.Disk g.world.𝓛 g.world.𝓜 g.world.𝓡 ((λ s x. x), (λ x. x), (λ x. x), λ x. x)).own in
    let at = lasts d n.told n.settled n.quiet v.start.value v.begun.value.state v.committer v.last labels history points c.end-committer.ensures.value.0.marks st is (λ s tells. own v.committer.disk s tells) in
    subst (λ (T : Type 0). T) (λ i. Lasts d (config_is i) (moment_is i) labels history points (sym c.into_disk.ensures i)) at
