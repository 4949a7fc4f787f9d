use Rattle.std.proofs.Common.{arith}
use Rattle.live_lines.specs.Views.{reading_of}
use Rattle.live_lines.proofs.Kept.{goes_on, is_long_step, long_line}
use Rattle.live_lines.proofs.grouping.Grouping.too_long.Goals as goal

pub invariant_of-self : goal.invariant_of-self
invariant_of-self c =
    let r = reading_of (record { next = c.self.inside.next; group = c.self.inside.open_group }) in
    goes_on r 67108865 (long_line r.next) c.step_group.new.group (λ o e. absurd cc) c.self.invariant c.step_group.result c.step_group.ensures.ok c.step_group.ensures.err

pub returns-clause-ok : goal.returns-clause-ok
returns-clause-ok c =
    let r = reading_of (record { next = c.self.inside.next; group = c.self.inside.open_group }) in
    rw (← c.self.view_is) (is_long_step r 67108865 c.step_group.new.group c.step_group.result (omega arith) c.step_group.ensures.ok)
