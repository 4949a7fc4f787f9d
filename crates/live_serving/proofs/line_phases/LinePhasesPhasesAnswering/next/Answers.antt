use Rattle.std.proofs.Common.{◌≡◌, List, refl, sym, subst, map, option_map, Option, ℕ}
use Rattle.std.specs.Prelude.{flat_map}
use Rattle.live_lines.specs.FaultLines.{line_fault_line}
use Rattle.live_lines.specs.Views.{item_view, line_fault_view}
use Rattle.live_lines.specs.declared.group.GivenItem.{GivenItem}
use Rattle.live_lines.specs.declared.line.LineFault.{LineFault}
use Rattle.live_serving.specs.Answering.{Puts}
use Rattle.live_serving.specs.Moments.{FailsToPut, TakesNext}
use Rattle.live_serving.proofs.Next.{at_puts, faults_fail}
use Rattle.live_serving.proofs.line_phases.LinePhasesPhasesAnswering.next.Goals as goal

pub returns-in-Ok-clause-gave : goal.returns-in-Ok-clause-gave
returns-in-Ok-clause-gave g c = λ b items replies l.
    let io = g.X.Duplex in
    let item = item_view c.in-Ok-Some.item in
    let takes = subst (λ (o : Option GivenItem). TakesNext io c.args.self.now c.args.out.now.io c.next_item.new.self c.next_item.new.io (option_map item_view o)) c.in-Ok-Some.field-0-is c.in-Ok-Some.ensures.ok in
    let puts = subst (λ (fs : List LineFault). Puts io c.next_item.new.io c.put_faults.new.io (flat_map line_fault_line (map line_fault_view fs))) c.deref.ensures.value c.in-Ok.ensures.ok in
    (item, refl, record { as_many = l.as_many; is = at_puts io b c.next_item.new.self c.next_item.new.io c.put_faults.new.io _ replies _ _ (takes b items replies l) puts })

pub returns-in-Ok-Some-clause-failed : goal.returns-in-Ok-Some-clause-failed
returns-in-Ok-Some-clause-failed g c = λ b items replies l.
    let io = g.X.Duplex in
    let item = item_view c.in-Ok-Some.item in
    let takes = subst (λ (o : Option GivenItem). TakesNext io c.args.self.now c.args.out.now.io c.next_item.new.self c.next_item.new.io (option_map item_view o)) c.in-Ok-Some.field-0-is c.in-Ok-Some.ensures.ok in
    let fails = subst (λ (fs : List LineFault). FailsToPut io c.next_item.new.io c.put_faults.new.io (flat_map line_fault_line (map line_fault_view fs)) c.in-Err-put_faults.fault) c.deref.ensures.value c.in-Err-put_faults.ensures.failed in
    faults_fail io b c.next_item.new.self c.next_item.new.io c.put_faults.new.io items item replies c.in-Err-put_faults.fault (takes b items replies l) fails
