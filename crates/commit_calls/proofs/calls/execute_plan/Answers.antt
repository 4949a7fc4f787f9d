use Rattle.std.proofs.Common.{◌≡◌, ◌∙◌, ◌+◌, ◌*◌, ap, length, map, take, inl, inr, sym, subst, List, Some, ℕ}
use Rattle.facet_disk.specs.declared.name.Dir.TheVariants.{Taxonomy, Index}
use Rattle.facet_disk.specs.declared.name.FileName.{FileName}
use Rattle.facet_disk.specs.Images.{Image, Told}
use Rattle.commit_calls.specs.declared.plan.Write.{Write}
use Rattle.commit_calls.specs.Held.{Below, CommitsBelow}
use Rattle.commit_calls.specs.Moments.{IsOneOfThree}
use Rattle.commit_calls.specs.Outcomes.{whole_told, files_told, published_told, cleared_told, carried_told}
use Rattle.commit_calls.specs.Plans.{Rises}
use Rattle.commit_calls.proofs.Early.{below_on, part_high, on_err}
use Rattle.commit_calls.proofs.Images.{leaves_three, is_after}
use Rattle.commit_calls.proofs.Reaching.{while_writing, after_writing, while_half, after_half, while_whole, after_whole, while_clearing, after_clearing}
use Rattle.commit_calls.proofs.Runs.{leaves_now}
use Rattle.commit_calls.proofs.Tellings.{carried_below}
use Rattle.facet_disk.specs.Calls.{Rose}
use Rattle.commit_calls.specs.Plans.{AreThere}
use Rattle.commit_calls.proofs.Names.{index_taxonomy}
use Rattle.commit_calls.proofs.Fitting.{part_ready, still_ready, strays_there}
use Rattle.commit_calls.specs.DeviceCalls.{StopsAt, files_calls, remove}
use Rattle.commit_calls.proofs.Stopping.{stops_in_files, stops_in_taxonomy, stops_in_index, stops_in_strays}
use Rattle.commit_calls.proofs.calls.execute_plan.Goals as goal
use Rattle.std.proofs.lemmas.Option.{same_Some}

pub returns-in_err-write_files-clause-any_moment : goal.returns-in_err-write_files-clause-any_moment
returns-in_err-write_files-clause-any_moment g c = λ s t i t' i' is leads at.
    let laws = g.met.D.Disk g.world.𝓛 g.world.𝓜 g.world.𝓡 ((λ s x. x), (λ x. x), (λ x. x), λ x. x) in
    let fresh : (image : Image) → g.D.Disk.may_leave c.args.disk.now image → CommitsBelow c.args.plan.now.from image = λ image left. (at image left).commits in
    leaves_three g.D.Disk laws.only_now c.args.plan.now c.requires.plan t i t' i' leads c.args.disk.now c.write_files.new.disk at
    (while_writing c.args.plan.now c.requires.plan g.D.Disk laws.own c.args.disk.now s fresh c.deref.result.now c.deref.ensures.value c.write_files.new.disk c.write_files.ensures.passes)

pub returns-in_err-write_files-clause-now : goal.returns-in_err-write_files-clause-now
returns-in_err-write_files-clause-now g c = λ s t i t' i' is leads at.
    let laws = g.met.D.Disk g.world.𝓛 g.world.𝓜 g.world.𝓡 ((λ s x. x), (λ x. x), (λ x. x), λ x. x) in
    leaves_now g.D.Disk laws.counts_now (IsOneOfThree c.args.plan.now.to t i t' i') c.args.disk.now c.write_files.new.disk (returns-in_err-write_files-clause-any_moment g c s t i t' i' is leads at)

pub returns-in_err-publish-clause-any_moment : goal.returns-in_err-publish-clause-any_moment
returns-in_err-publish-clause-any_moment g c = λ s t i t' i' is leads at.
    let laws = g.met.D.Disk g.world.𝓛 g.world.𝓜 g.world.𝓡 ((λ s x. x), (λ x. x), (λ x. x), λ x. x) in
    let fresh : (image : Image) → g.D.Disk.may_leave c.args.disk.now image → CommitsBelow c.args.plan.now.from image = λ image left. (at image left).commits in
    let first = after_writing c.args.plan.now c.requires.plan g.D.Disk laws.own c.args.disk.now s fresh c.deref.result.now c.deref.ensures.value c.write_files.new.disk is c.write_files.ensures.passes c.in_ok-write_files.ensures.durable c.in_ok-write_files.ensures.told in
    leaves_three g.D.Disk laws.only_now c.args.plan.now c.requires.plan t i t' i' leads c.args.disk.now c.publish.new.disk at
    (while_half c.args.plan.now c.requires.plan g.D.Disk laws.own c.args.disk.now s fresh c.write_files.new.disk c.publish.new.disk first c.publish.ensures.passes)

pub returns-in_err-publish-clause-now : goal.returns-in_err-publish-clause-now
returns-in_err-publish-clause-now g c = λ s t i t' i' is leads at.
    let laws = g.met.D.Disk g.world.𝓛 g.world.𝓜 g.world.𝓡 ((λ s x. x), (λ x. x), (λ x. x), λ x. x) in
    leaves_now g.D.Disk laws.counts_now (IsOneOfThree c.args.plan.now.to t i t' i') c.args.disk.now c.publish.new.disk (returns-in_err-publish-clause-any_moment g c s t i t' i' is leads at)

pub returns-in_err-publish-2-clause-any_moment : goal.returns-in_err-publish-2-clause-any_moment
returns-in_err-publish-2-clause-any_moment g c = λ s t i t' i' is leads at.
    let laws = g.met.D.Disk g.world.𝓛 g.world.𝓜 g.world.𝓡 ((λ s x. x), (λ x. x), (λ x. x), λ x. x) in
    let fresh : (image : Image) → g.D.Disk.may_leave c.args.disk.now image → CommitsBelow c.args.plan.now.from image = λ image left. (at image left).commits in
    let first = after_writing c.args.plan.now c.requires.plan g.D.Disk laws.own c.args.disk.now s fresh c.deref.result.now c.deref.ensures.value c.write_files.new.disk is c.write_files.ensures.passes c.in_ok-write_files.ensures.durable c.in_ok-write_files.ensures.told in
    let second = after_half c.args.plan.now c.requires.plan g.D.Disk laws.own c.args.disk.now s fresh c.write_files.new.disk c.publish.new.disk first c.publish.ensures.passes c.in_ok-publish.ensures.done c.in_ok-publish.ensures.told in
    leaves_three g.D.Disk laws.only_now c.args.plan.now c.requires.plan t i t' i' leads c.args.disk.now c.publish-2.new.disk at
    (while_whole c.args.plan.now c.requires.plan g.D.Disk laws.own c.args.disk.now s fresh c.publish.new.disk c.publish-2.new.disk second c.publish-2.ensures.passes)

pub returns-in_err-publish-2-clause-now : goal.returns-in_err-publish-2-clause-now
returns-in_err-publish-2-clause-now g c = λ s t i t' i' is leads at.
    let laws = g.met.D.Disk g.world.𝓛 g.world.𝓜 g.world.𝓡 ((λ s x. x), (λ x. x), (λ x. x), λ x. x) in
    leaves_now g.D.Disk laws.counts_now (IsOneOfThree c.args.plan.now.to t i t' i') c.args.disk.now c.publish-2.new.disk (returns-in_err-publish-2-clause-any_moment g c s t i t' i' is leads at)

pub returns-in_err-clear-clause-any_moment : goal.returns-in_err-clear-clause-any_moment
returns-in_err-clear-clause-any_moment g c = λ s t i t' i' is leads at.
    let laws = g.met.D.Disk g.world.𝓛 g.world.𝓜 g.world.𝓡 ((λ s x. x), (λ x. x), (λ x. x), λ x. x) in
    let fresh : (image : Image) → g.D.Disk.may_leave c.args.disk.now image → CommitsBelow c.args.plan.now.from image = λ image left. (at image left).commits in
    let first = after_writing c.args.plan.now c.requires.plan g.D.Disk laws.own c.args.disk.now s fresh c.deref.result.now c.deref.ensures.value c.write_files.new.disk is c.write_files.ensures.passes c.in_ok-write_files.ensures.durable c.in_ok-write_files.ensures.told in
    let second = after_half c.args.plan.now c.requires.plan g.D.Disk laws.own c.args.disk.now s fresh c.write_files.new.disk c.publish.new.disk first c.publish.ensures.passes c.in_ok-publish.ensures.done c.in_ok-publish.ensures.told in
    let third = after_whole c.args.plan.now c.requires.plan g.D.Disk laws.own c.args.disk.now s fresh c.publish.new.disk c.publish-2.new.disk second c.publish-2.ensures.passes c.in_ok-publish-2.ensures.done c.in_ok-publish-2.ensures.told in
    leaves_three g.D.Disk laws.only_now c.args.plan.now c.requires.plan t i t' i' leads c.args.disk.now c.clear.new.disk at
    (while_clearing c.args.plan.now c.requires.plan g.D.Disk laws.own c.args.disk.now s fresh c.deref-2.result.now c.deref-2.ensures.value c.publish-2.new.disk c.clear.new.disk third c.clear.ensures.passes)

pub returns-in_err-clear-clause-now : goal.returns-in_err-clear-clause-now
returns-in_err-clear-clause-now g c = λ s t i t' i' is leads at.
    let laws = g.met.D.Disk g.world.𝓛 g.world.𝓜 g.world.𝓡 ((λ s x. x), (λ x. x), (λ x. x), λ x. x) in
    leaves_now g.D.Disk laws.counts_now (IsOneOfThree c.args.plan.now.to t i t' i') c.args.disk.now c.clear.new.disk (returns-in_err-clear-clause-any_moment g c s t i t' i' is leads at)

pub returns-clause-any_moment : goal.returns-clause-any_moment
returns-clause-any_moment g c = λ s t i t' i' is leads at.
    let laws = g.met.D.Disk g.world.𝓛 g.world.𝓜 g.world.𝓡 ((λ s x. x), (λ x. x), (λ x. x), λ x. x) in
    let fresh : (image : Image) → g.D.Disk.may_leave c.args.disk.now image → CommitsBelow c.args.plan.now.from image = λ image left. (at image left).commits in
    let first = after_writing c.args.plan.now c.requires.plan g.D.Disk laws.own c.args.disk.now s fresh c.deref.result.now c.deref.ensures.value c.write_files.new.disk is c.write_files.ensures.passes c.in_ok-write_files.ensures.durable c.in_ok-write_files.ensures.told in
    let second = after_half c.args.plan.now c.requires.plan g.D.Disk laws.own c.args.disk.now s fresh c.write_files.new.disk c.publish.new.disk first c.publish.ensures.passes c.in_ok-publish.ensures.done c.in_ok-publish.ensures.told in
    let third = after_whole c.args.plan.now c.requires.plan g.D.Disk laws.own c.args.disk.now s fresh c.publish.new.disk c.publish-2.new.disk second c.publish-2.ensures.passes c.in_ok-publish-2.ensures.done c.in_ok-publish-2.ensures.told in
    leaves_three g.D.Disk laws.only_now c.args.plan.now c.requires.plan t i t' i' leads c.args.disk.now c.clear.new.disk at
    (while_clearing c.args.plan.now c.requires.plan g.D.Disk laws.own c.args.disk.now s fresh c.deref-2.result.now c.deref-2.ensures.value c.publish-2.new.disk c.clear.new.disk third c.clear.ensures.passes)

pub returns-clause-now : goal.returns-clause-now
returns-clause-now g c = λ s t i t' i' is leads at.
    let laws = g.met.D.Disk g.world.𝓛 g.world.𝓜 g.world.𝓡 ((λ s x. x), (λ x. x), (λ x. x), λ x. x) in
    leaves_now g.D.Disk laws.counts_now (IsOneOfThree c.args.plan.now.to t i t' i') c.args.disk.now c.clear.new.disk (returns-clause-any_moment g c s t i t' i' is leads at)

pub returns-clause-done : goal.returns-clause-done
returns-clause-done g c = λ s t i t' i' is leads at.
    let laws = g.met.D.Disk g.world.𝓛 g.world.𝓜 g.world.𝓡 ((λ s x. x), (λ x. x), (λ x. x), λ x. x) in
    let fresh : (image : Image) → g.D.Disk.may_leave c.args.disk.now image → CommitsBelow c.args.plan.now.from image = λ image left. (at image left).commits in
    let first = after_writing c.args.plan.now c.requires.plan g.D.Disk laws.own c.args.disk.now s fresh c.deref.result.now c.deref.ensures.value c.write_files.new.disk is c.write_files.ensures.passes c.in_ok-write_files.ensures.durable c.in_ok-write_files.ensures.told in
    let second = after_half c.args.plan.now c.requires.plan g.D.Disk laws.own c.args.disk.now s fresh c.write_files.new.disk c.publish.new.disk first c.publish.ensures.passes c.in_ok-publish.ensures.done c.in_ok-publish.ensures.told in
    let third = after_whole c.args.plan.now c.requires.plan g.D.Disk laws.own c.args.disk.now s fresh c.publish.new.disk c.publish-2.new.disk second c.publish-2.ensures.passes c.in_ok-publish-2.ensures.done c.in_ok-publish-2.ensures.told in
    is_after g.D.Disk laws.only_now c.args.plan.now c.requires.plan t i t' i' leads c.args.disk.now c.clear.new.disk at
    (after_clearing c.args.plan.now c.requires.plan g.D.Disk laws.own c.args.disk.now s fresh c.deref-2.result.now c.deref-2.ensures.value c.publish-2.new.disk c.clear.new.disk third c.clear.ensures.passes)

pub returns-clause-names : goal.returns-clause-names
returns-clause-names g c = λ s u is after below.
    let made = files_told c.args.plan.now.writes.items s in
    let told : g.D.Disk.told c.write_files.new.disk ≡ Some made = subst (λ (ws : List Write). g.D.Disk.told c.write_files.new.disk ≡ Some (files_told ws s)) c.deref.ensures.value (c.in_ok-write_files.ensures.told s is) in
    let next = published_told Taxonomy c.args.plan.now.taxonomy made in
    let both = published_told Index c.args.plan.now.index next in
    let told_both = c.in_ok-publish-2.ensures.told next (c.in_ok-publish.ensures.told made told) in
    let told_last : g.D.Disk.told c.clear.new.disk ≡ Some (carried_told c.args.plan.now s) =
    subst (λ (names : List FileName). g.D.Disk.told c.clear.new.disk ≡ Some (cleared_told names both)) c.deref-2.ensures.value (c.in_ok-clear.ensures.told both told_both) in
    let same : carried_told c.args.plan.now s ≡ u = same_Some _ _ (sym told_last ∙ after) in
    subst (λ (v : Told). Below c.args.plan.now.to v.files) same (carried_below c.args.plan.now c.requires.plan s below)

pub returns-in_err-publish-clause-cut_short : goal.returns-in_err-publish-clause-cut_short
returns-in_err-publish-clause-cut_short g c = on_err c.from_residual-in_err-publish.result (λ s is.
    let p = c.args.plan.now in let rises = c.requires.plan.rises in
    let made = c.write_files.ensures.below s p.from p.to (subst (Rises p.from p.to) (sym c.deref.ensures.value) rises) is in
    inl (below_on p.from s _ _ made (c.publish.ensures.below made.told p.from (part_high p.from p.to p.writes.items rises Taxonomy p.taxonomy c.requires.plan.taxonomy_pending) made.is)))

pub returns-in_err-publish-2-clause-cut_short : goal.returns-in_err-publish-2-clause-cut_short
returns-in_err-publish-2-clause-cut_short g c = on_err c.from_residual-in_err-publish-2.result (λ s is.
    let p = c.args.plan.now in let rises = c.requires.plan.rises in
    let made = c.write_files.ensures.below s p.from p.to (subst (Rises p.from p.to) (sym c.deref.ensures.value) rises) is in
    let half = below_on p.from s _ _ made (c.publish.ensures.below made.told p.from (part_high p.from p.to p.writes.items rises Taxonomy p.taxonomy c.requires.plan.taxonomy_pending) made.is) in
    inl (below_on p.from s _ _ half (c.publish-2.ensures.below half.told p.from (part_high p.from p.to p.writes.items rises Index p.index c.requires.plan.index_pending) half.is)))

pub returns-in_err-publish-clause-failed : goal.returns-in_err-publish-clause-failed
returns-in_err-publish-clause-failed g c = λ s is fits.
    let p = c.args.plan.now in let rises = c.requires.plan.rises in
    let made = files_told p.writes.items s in
    let told : g.D.Disk.told c.write_files.new.disk ≡ Some made = subst (λ (ws : List Write). g.D.Disk.told c.write_files.new.disk ≡ Some (files_told ws s)) c.deref.ensures.value (c.in_ok-write_files.ensures.told s is) in
    on_err c.from_residual-in_err-publish.result (subst (λ (n : ℕ). Rose n (g.D.Disk.failures c.publish.new.disk)) c.in_ok-write_files.ensures.unfailed
    (c.in_err-publish.ensures.failed made told (part_ready p.from p.to p.writes.items rises s fits.fresh Taxonomy p.taxonomy c.requires.plan.taxonomy_pending)).1)

pub returns-in_err-publish-2-clause-failed : goal.returns-in_err-publish-2-clause-failed
returns-in_err-publish-2-clause-failed g c = λ s is fits.
    let p = c.args.plan.now in let rises = c.requires.plan.rises in
    let made = files_told p.writes.items s in
    let told : g.D.Disk.told c.write_files.new.disk ≡ Some made = subst (λ (ws : List Write). g.D.Disk.told c.write_files.new.disk ≡ Some (files_told ws s)) c.deref.ensures.value (c.in_ok-write_files.ensures.told s is) in
    let next = published_told Taxonomy p.taxonomy made in
    on_err c.from_residual-in_err-publish-2.result (subst (λ (n : ℕ). Rose n (g.D.Disk.failures c.publish-2.new.disk)) (c.in_ok-publish.ensures.unfailed ∙ c.in_ok-write_files.ensures.unfailed)
    (c.in_err-publish-2.ensures.failed next (c.in_ok-publish.ensures.told made told)
    (still_ready Index Taxonomy index_taxonomy p.taxonomy p.index made (part_ready p.from p.to p.writes.items rises s fits.fresh Index p.index c.requires.plan.index_pending))).1)

pub returns-in_err-clear-clause-failed : goal.returns-in_err-clear-clause-failed
returns-in_err-clear-clause-failed g c = λ s is fits.
    let p = c.args.plan.now in
    let made = files_told p.writes.items s in
    let told : g.D.Disk.told c.write_files.new.disk ≡ Some made = subst (λ (ws : List Write). g.D.Disk.told c.write_files.new.disk ≡ Some (files_told ws s)) c.deref.ensures.value (c.in_ok-write_files.ensures.told s is) in
    let next = published_told Taxonomy p.taxonomy made in
    let whole = whole_told p s in
    let told_whole : g.D.Disk.told c.publish-2.new.disk ≡ Some whole = c.in_ok-publish-2.ensures.told next (c.in_ok-publish.ensures.told made told) in
    let there = subst (λ (names : List FileName). AreThere names whole.files) (sym c.deref-2.ensures.value) (strays_there p c.requires.plan s fits) in
    on_err c.from_residual-in_err-clear.result (subst (λ (n : ℕ). Rose n (g.D.Disk.failures c.clear.new.disk)) (c.in_ok-publish-2.ensures.unfailed ∙ c.in_ok-publish.ensures.unfailed ∙ c.in_ok-write_files.ensures.unfailed)
    (c.in_err-clear.ensures.failed whole told_whole there).1)

pub returns-in_err-clear-clause-cut_short : goal.returns-in_err-clear-clause-cut_short
returns-in_err-clear-clause-cut_short g c = on_err c.from_residual-in_err-clear.result (λ s is.
    let p = c.args.plan.now in
    let made = files_told p.writes.items s in
    let told : g.D.Disk.told c.write_files.new.disk ≡ Some made = subst (λ (ws : List Write). g.D.Disk.told c.write_files.new.disk ≡ Some (files_told ws s)) c.deref.ensures.value (c.in_ok-write_files.ensures.told s is) in
    let told_whole : g.D.Disk.told c.publish-2.new.disk ≡ Some (whole_told p s) = c.in_ok-publish-2.ensures.told (published_told Taxonomy p.taxonomy made) (c.in_ok-publish.ensures.told made told) in
    inr (subst (λ (names : List FileName). (k : ℕ) × (g.D.Disk.told c.clear.new.disk ≡ Some (cleared_told (take k names) (whole_told p s)))) c.deref-2.ensures.value (c.clear.ensures.partly (whole_told p s) told_whole)))

pub returns-in_err-write_files-clause-stopped : goal.returns-in_err-write_files-clause-stopped
returns-in_err-write_files-clause-stopped g c = on_err _ (stops_in_files g.D.Disk c.args.plan.now c.args.disk.now c.args.disk.now c.args.disk.now c.args.disk.now c.write_files.new.disk
    (subst (λ (ws : List Write). StopsAt g.D.Disk (files_calls ws) c.args.disk.now c.write_files.new.disk) c.deref.ensures.value c.in_err-write_files.ensures.stopped))

pub returns-in_err-publish-clause-stopped : goal.returns-in_err-publish-clause-stopped
returns-in_err-publish-clause-stopped g c =
    let count : g.D.Disk.moment c.write_files.new.disk ≡ g.D.Disk.moment c.args.disk.now + 2 * length c.args.plan.now.writes.items = c.in_ok-write_files.ensures.calls ∙ ap (λ (ws : List Write). g.D.Disk.moment c.args.disk.now + 2 * length ws) c.deref.ensures.value in
    let tells : (s : Told) → g.D.Disk.told c.args.disk.now ≡ Some s → g.D.Disk.told c.write_files.new.disk ≡ Some (files_told c.args.plan.now.writes.items s) = λ s is. subst (λ (ws : List Write). g.D.Disk.told c.write_files.new.disk ≡ Some (files_told ws s)) c.deref.ensures.value (c.in_ok-write_files.ensures.told s is) in
    on_err _ (stops_in_taxonomy g.D.Disk c.args.plan.now c.args.disk.now c.write_files.new.disk c.write_files.new.disk c.write_files.new.disk c.publish.new.disk count tells c.in_err-publish.ensures.stopped)

pub returns-in_err-publish-2-clause-stopped : goal.returns-in_err-publish-2-clause-stopped
returns-in_err-publish-2-clause-stopped g c =
    let count : g.D.Disk.moment c.write_files.new.disk ≡ g.D.Disk.moment c.args.disk.now + 2 * length c.args.plan.now.writes.items = c.in_ok-write_files.ensures.calls ∙ ap (λ (ws : List Write). g.D.Disk.moment c.args.disk.now + 2 * length ws) c.deref.ensures.value in
    let tells : (s : Told) → g.D.Disk.told c.args.disk.now ≡ Some s → g.D.Disk.told c.write_files.new.disk ≡ Some (files_told c.args.plan.now.writes.items s) = λ s is. subst (λ (ws : List Write). g.D.Disk.told c.write_files.new.disk ≡ Some (files_told ws s)) c.deref.ensures.value (c.in_ok-write_files.ensures.told s is) in
    on_err _ (stops_in_index g.D.Disk c.args.plan.now c.args.disk.now c.write_files.new.disk c.publish.new.disk c.publish.new.disk c.publish-2.new.disk count tells
    c.in_ok-publish.ensures.calls c.in_ok-publish.ensures.told c.in_err-publish-2.ensures.stopped)

pub returns-in_err-clear-clause-stopped : goal.returns-in_err-clear-clause-stopped
returns-in_err-clear-clause-stopped g c =
    let count : g.D.Disk.moment c.write_files.new.disk ≡ g.D.Disk.moment c.args.disk.now + 2 * length c.args.plan.now.writes.items = c.in_ok-write_files.ensures.calls ∙ ap (λ (ws : List Write). g.D.Disk.moment c.args.disk.now + 2 * length ws) c.deref.ensures.value in
    let tells : (s : Told) → g.D.Disk.told c.args.disk.now ≡ Some s → g.D.Disk.told c.write_files.new.disk ≡ Some (files_told c.args.plan.now.writes.items s) = λ s is. subst (λ (ws : List Write). g.D.Disk.told c.write_files.new.disk ≡ Some (files_told ws s)) c.deref.ensures.value (c.in_ok-write_files.ensures.told s is) in
    on_err _ (stops_in_strays g.D.Disk c.args.plan.now c.args.disk.now c.write_files.new.disk c.publish.new.disk c.publish-2.new.disk c.clear.new.disk count tells
    c.in_ok-publish.ensures.calls c.in_ok-publish.ensures.told c.in_ok-publish-2.ensures.calls c.in_ok-publish-2.ensures.told
    (subst (λ (names : List FileName). StopsAt g.D.Disk (map remove names) c.publish-2.new.disk c.clear.new.disk) c.deref-2.ensures.value c.in_err-clear.ensures.stopped))
