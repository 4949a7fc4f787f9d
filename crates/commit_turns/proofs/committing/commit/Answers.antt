use Rattle.std.proofs.Common.{◌≡◌, ℕ, ◌∙◌, List, [], ◌∷◌, ◌++◌, length, refl, sym, ap, subst}
use Rattle.std.proofs.Common.{Ok, Err, arith, get_or}
use Rattle.std.proofs.lemmas.List.{length-map}
use Rattle.chronicle.specs.Frame.{Frame}
use Rattle.pair_manager.proofs.Publishing.{still_right}
use Rattle.chronicle.specs.History.{entries, numbered}
use Rattle.chronicle.specs.Shown.{mine}
use Rattle.commit_plan.specs.declared.fault.CommitFault.{CommitFault}
use Rattle.commit_plan.specs.declared.fault.CommitFault.TheVariants.{Disk as OfDisk, Closed, NoMemory, NumbersSpent}
use Rattle.commit_turns.specs.Points.{made, failed_after, entered}
use Rattle.commit_turns.specs.Turns.{StandsFor, StandsOn}
use Rattle.taxo_cache.specs.Seen.{labels_of}
use Rattle.pair_manager.specs.declared.point.CommitPoint.{CommitPoint}
use Rattle.commit_turns.proofs.Entering.{enters_these, enters_none, closed_by}
use Rattle.commit_turns.proofs.Turning.{stands_on, stands_still}
use Rattle.commit_turns.proofs.committing.commit.Goals as goal

pub returns-in-Ok-clause-enters : goal.returns-in-Ok-clause-enters
returns-in-Ok-clause-enters g c =
    let d = g.D.Disk in
    let t = c.take-turn in
    let st = t.ensures.value.0.stands in
    let is : c.commit_in_turn.new.state.last ≡ made c.in-Ok.n (length (labels_of c.commit_in_turn.new.seen_labels.seen)) = c.in-Ok.ensures.ok.1 in
    let e = c.enter.ensures in
    let gave = c.give.ensures in
    enters_these (length (labels_of c.commit_in_turn.new.seen_labels.seen)) c.args.pass.now.commits t.new.token c.give.new.token t.result.committer.closed (Ok c.in-Ok.n) (d.faults t.result.committer.disk) (length (labels_of t.result.labels.seen)) (length (entries t.result.operations.seen)) t.result.last t.ensures.more st.points st.closed
    c.in-Ok.ensures.closed (gave.idle.0.0 ∙ e.turn.0.0) (made c.in-Ok.n (length (labels_of c.commit_in_turn.new.seen_labels.seen)) ∷ []) refl
    (gave.seen.0 ∙ e.added ∙ ap (λ (p : CommitPoint). t.new.token.seen ++ numbered t.new.token.number (p ∷ [])) is)
    (gave.seen.1 ∙ e.mine ∙ ap (λ (p : CommitPoint). mine t.new.token ++ numbered t.new.token.number (p ∷ [])) is)

pub returns-in-Err-Disk-clause-enters : goal.returns-in-Err-Disk-clause-enters
returns-in-Err-Disk-clause-enters g c =
    let d = g.D.Disk in
    let t = c.take-turn in
    let st = t.ensures.value.0.stands in
    let is : c.commit_in_turn.new.state.last ≡ failed_after t.result.last c.in-Err-Disk.count = (c.in-Err-Disk.ensures.disk c.in-Err-Disk.count c.in-Err-Disk.field-0-is).0 in
    let e = c.enter-in-Err-Disk.ensures in
    let gave = c.give-in-Err-Disk.ensures in
    enters_these (length (labels_of c.commit_in_turn.new.seen_labels.seen)) c.args.pass.now.commits t.new.token c.give-in-Err-Disk.new.token t.result.committer.closed (Err (OfDisk c.in-Err-Disk.count)) (d.faults t.result.committer.disk) (length (labels_of t.result.labels.seen)) (length (entries t.result.operations.seen)) t.result.last t.ensures.more st.points st.closed
    (closed_by t.result.committer.closed _ _ c.in-Err-Disk.field-0-is c.in-Err-Disk.ensures.closed) (gave.idle.0.0 ∙ e.turn.0.0) (failed_after t.result.last c.in-Err-Disk.count ∷ []) refl
    (gave.seen.0 ∙ e.added ∙ ap (λ (p : CommitPoint). t.new.token.seen ++ numbered t.new.token.number (p ∷ [])) is)
    (gave.seen.1 ∙ e.mine ∙ ap (λ (p : CommitPoint). mine t.new.token ++ numbered t.new.token.number (p ∷ [])) is)

pub returns-in-Err-Closed-clause-enters : goal.returns-in-Err-Closed-clause-enters
returns-in-Err-Closed-clause-enters g c =
    let d = g.D.Disk in
    let t = c.take-turn in
    let st = t.ensures.value.0.stands in
    let gave = c.give-in-Err-Closed.ensures in
    enters_none (length (labels_of c.commit_in_turn.new.seen_labels.seen)) c.args.pass.now.commits t.new.token c.give-in-Err-Closed.new.token t.result.committer.closed (Err (Closed c.in-Err-Closed.count)) (d.faults t.result.committer.disk) (length (labels_of t.result.labels.seen)) (length (entries t.result.operations.seen)) t.result.last t.ensures.more st.points st.closed
    (closed_by t.result.committer.closed _ _ c.in-Err-Closed.field-0-is c.in-Err-Closed.ensures.closed) gave.idle.0.0 refl gave.seen.0 gave.seen.1

pub returns-in-Err-NoMemory-clause-enters : goal.returns-in-Err-NoMemory-clause-enters
returns-in-Err-NoMemory-clause-enters g c =
    let d = g.D.Disk in
    let t = c.take-turn in
    let st = t.ensures.value.0.stands in
    let gave = c.give-in-Err-NoMemory.ensures in
    enters_none (length (labels_of c.commit_in_turn.new.seen_labels.seen)) c.args.pass.now.commits t.new.token c.give-in-Err-NoMemory.new.token t.result.committer.closed (Err NoMemory) (d.faults t.result.committer.disk) (length (labels_of t.result.labels.seen)) (length (entries t.result.operations.seen)) t.result.last t.ensures.more st.points st.closed
    (closed_by t.result.committer.closed _ _ c.in-Err-NoMemory.field-0-is c.in-Err-NoMemory.ensures.closed) gave.idle.0.0 refl gave.seen.0 gave.seen.1

pub returns-in-Err-NumbersSpent-clause-enters : goal.returns-in-Err-NumbersSpent-clause-enters
returns-in-Err-NumbersSpent-clause-enters g c =
    let d = g.D.Disk in
    let t = c.take-turn in
    let st = t.ensures.value.0.stands in
    let gave = c.give-in-Err-NumbersSpent.ensures in
    enters_none (length (labels_of c.commit_in_turn.new.seen_labels.seen)) c.args.pass.now.commits t.new.token c.give-in-Err-NumbersSpent.new.token t.result.committer.closed (Err (NumbersSpent c.in-Err-NumbersSpent.number)) (d.faults t.result.committer.disk) (length (labels_of t.result.labels.seen)) (length (entries t.result.operations.seen)) t.result.last t.ensures.more st.points st.closed
    (closed_by t.result.committer.closed _ _ c.in-Err-NumbersSpent.field-0-is c.in-Err-NumbersSpent.ensures.closed) gave.idle.0.0 refl gave.seen.0 gave.seen.1

pub invariant_of-pass-clause-right : goal.invariant_of-pass-clause-right
invariant_of-pass-clause-right g c =
    let now = c.commit_in_turn.new in
    let pass = c.args.pass.now in
    still_right pass.labels.seen now.seen_labels.seen pass.operations.seen now.seen_operations.seen c.in-Ok.ensures.labels.1.0 c.in-Ok.ensures.operations.1.0 (entries pass.pairs.seen) pass.right

pub invariant_of-pass-in-Err-Disk-clause-right : goal.invariant_of-pass-in-Err-Disk-clause-right
invariant_of-pass-in-Err-Disk-clause-right g c =
    let now = c.commit_in_turn.new in
    let pass = c.args.pass.now in
    still_right pass.labels.seen now.seen_labels.seen pass.operations.seen now.seen_operations.seen c.in-Err-Disk.ensures.labels.1.0 c.in-Err-Disk.ensures.operations.1.0 (entries pass.pairs.seen) pass.right

pub invariant_of-pass-in-Err-Closed-clause-right : goal.invariant_of-pass-in-Err-Closed-clause-right
invariant_of-pass-in-Err-Closed-clause-right g c =
    let now = c.commit_in_turn.new in
    let pass = c.args.pass.now in
    still_right pass.labels.seen now.seen_labels.seen pass.operations.seen now.seen_operations.seen c.in-Err-Closed.ensures.labels.1.0 c.in-Err-Closed.ensures.operations.1.0 (entries pass.pairs.seen) pass.right

pub invariant_of-pass-in-Err-NoMemory-clause-right : goal.invariant_of-pass-in-Err-NoMemory-clause-right
invariant_of-pass-in-Err-NoMemory-clause-right g c =
    let now = c.commit_in_turn.new in
    let pass = c.args.pass.now in
    still_right pass.labels.seen now.seen_labels.seen pass.operations.seen now.seen_operations.seen c.in-Err-NoMemory.ensures.labels.1.0 c.in-Err-NoMemory.ensures.operations.1.0 (entries pass.pairs.seen) pass.right

pub invariant_of-pass-in-Err-NumbersSpent-clause-right : goal.invariant_of-pass-in-Err-NumbersSpent-clause-right
invariant_of-pass-in-Err-NumbersSpent-clause-right g c =
    let now = c.commit_in_turn.new in
    let pass = c.args.pass.now in
    still_right pass.labels.seen now.seen_labels.seen pass.operations.seen now.seen_operations.seen c.in-Err-NumbersSpent.ensures.labels.1.0 c.in-Err-NumbersSpent.ensures.operations.1.0 (entries pass.pairs.seen) pass.right

pub returns-in-Err-NumbersSpent-clause-spent : goal.returns-in-Err-NumbersSpent-clause-spent
returns-in-Err-NumbersSpent-clause-spent g c number is first moment faults failures numbers =
    let t = c.take-turn in
    let st = t.ensures.value.0.stands in
    let said = c.in-Err-NumbersSpent.ensures.spent number (c.in-Err-NumbersSpent.field-0-is ∙ is) in
    let begun : t.result.begun.value.state.next ≡ first = ap (λ (l : List ℕ). get_or l 0 0) (ap (λ (f : Frame). f.numbers) (t.ensures.value.1 ∙ t.ensures.turn.0.4) ∙ numbers) in
    let many : length (entries t.new.token.seen) ≡ length c.give-in-Err-NumbersSpent.new.token.seen = length-map t.new.token.seen (λ (x : ℕ × CommitPoint). x.1) ∙ ap length (sym c.give-in-Err-NumbersSpent.ensures.seen.0) in
    omega (arith, said.1, st.numbers, begun, many)

pub returns-in-Err-NumbersSpent-clause-limit : goal.returns-in-Err-NumbersSpent-clause-limit
returns-in-Err-NumbersSpent-clause-limit g c number is = (c.in-Err-NumbersSpent.ensures.spent number (c.in-Err-NumbersSpent.field-0-is ∙ is)).0

pub give-requires-clause-value : goal.give-requires-clause-value
give-requires-clause-value g c =
    let t = c.take-turn in
    let new = c.commit_in_turn.new.state in
    let many = length (labels_of c.commit_in_turn.new.seen_labels.seen) in
    let is : new.last ≡ made c.in-Ok.n many = c.in-Ok.ensures.ok.1 in
    let e = c.enter.ensures in
    let points = entries t.new.token.seen in
    let these : points ++ made c.in-Ok.n many ∷ [] ≡ entries c.enter.new.token.seen = ap (λ (p : CommitPoint). points ++ p ∷ []) (sym is) ∙ sym e.entries in
    (subst (λ (l : List CommitPoint). StandsFor new l) these (stands_on t.result new points (made c.in-Ok.n many ∷ []) c.in-Ok.ensures.stands t.ensures.value.0), c.in-Ok.ensures.frame ∙ t.ensures.value.1 ∙ sym e.turn.0.4)

pub give-requires-in-Err-Disk-clause-value : goal.give-requires-in-Err-Disk-clause-value
give-requires-in-Err-Disk-clause-value g c =
    let t = c.take-turn in
    let new = c.commit_in_turn.new.state in
    let many = length (labels_of c.commit_in_turn.new.seen_labels.seen) in
    let count = c.in-Err-Disk.count in
    let is : new.last ≡ failed_after t.result.last count = (c.in-Err-Disk.ensures.disk count c.in-Err-Disk.field-0-is).0 in
    let on = subst (λ (f : CommitFault). StandsOn t.result new (entered t.result.last many (Err f))) c.in-Err-Disk.field-0-is c.in-Err-Disk.ensures.stands in
    let e = c.enter-in-Err-Disk.ensures in
    let points = entries t.new.token.seen in
    let these : points ++ failed_after t.result.last count ∷ [] ≡ entries c.enter-in-Err-Disk.new.token.seen = ap (λ (p : CommitPoint). points ++ p ∷ []) (sym is) ∙ sym e.entries in
    (subst (λ (l : List CommitPoint). StandsFor new l) these (stands_on t.result new points (failed_after t.result.last count ∷ []) on t.ensures.value.0), c.in-Err-Disk.ensures.frame ∙ t.ensures.value.1 ∙ sym e.turn.0.4)

pub give-requires-in-Err-Closed-clause-value : goal.give-requires-in-Err-Closed-clause-value
give-requires-in-Err-Closed-clause-value g c =
    let t = c.take-turn in
    let new = c.commit_in_turn.new.state in
    let many = length (labels_of c.commit_in_turn.new.seen_labels.seen) in
    let on = subst (λ (f : CommitFault). StandsOn t.result new (entered t.result.last many (Err f))) c.in-Err-Closed.field-0-is c.in-Err-Closed.ensures.stands in
    (stands_still t.result new (entries t.new.token.seen) on t.ensures.value.0, c.in-Err-Closed.ensures.frame ∙ t.ensures.value.1)

pub give-requires-in-Err-NoMemory-clause-value : goal.give-requires-in-Err-NoMemory-clause-value
give-requires-in-Err-NoMemory-clause-value g c =
    let t = c.take-turn in
    let new = c.commit_in_turn.new.state in
    let many = length (labels_of c.commit_in_turn.new.seen_labels.seen) in
    let on = subst (λ (f : CommitFault). StandsOn t.result new (entered t.result.last many (Err f))) c.in-Err-NoMemory.field-0-is c.in-Err-NoMemory.ensures.stands in
    (stands_still t.result new (entries t.new.token.seen) on t.ensures.value.0, c.in-Err-NoMemory.ensures.frame ∙ t.ensures.value.1)

pub give-requires-in-Err-NumbersSpent-clause-value : goal.give-requires-in-Err-NumbersSpent-clause-value
give-requires-in-Err-NumbersSpent-clause-value g c =
    let t = c.take-turn in
    let new = c.commit_in_turn.new.state in
    let many = length (labels_of c.commit_in_turn.new.seen_labels.seen) in
    let on = subst (λ (f : CommitFault). StandsOn t.result new (entered t.result.last many (Err f))) c.in-Err-NumbersSpent.field-0-is c.in-Err-NumbersSpent.ensures.stands in
    (stands_still t.result new (entries t.new.token.seen) on t.ensures.value.0, c.in-Err-NumbersSpent.ensures.frame ∙ t.ensures.value.1)
