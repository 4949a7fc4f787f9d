use Rattle.std.proofs.Common.{length, ap, arith}
use Rattle.std.specs.Arc.{arc_value}
use Rattle.shared_list.specs.Pieces.{items_in}
use Rattle.shared_list.proofs.Pieces.{size}
use Rattle.shared_list.proofs.shared.Shared.len.Goals as goal

pub overflow_mul-result : goal.overflow_mul-result
overflow_mul-result g c = omega (arith, size (λ p. items_in (arc_value p)) c.self.inside.full.items c.self.inside.last.items c.self.invariant, c.self.invariant.few, c.len.ensures, c.self.inside.full.ok.0)

pub overflow_add-result : goal.overflow_add-result
overflow_add-result g c = omega (arith, size (λ p. items_in (arc_value p)) c.self.inside.full.items c.self.inside.last.items c.self.invariant, c.self.invariant.few, c.len.ensures, c.self.inside.full.ok.0, c.len-2.ensures, c.self.inside.last.ok.0)

pub returns : goal.returns
returns g c = omega (arith, size (λ p. items_in (arc_value p)) c.self.inside.full.items c.self.inside.last.items c.self.invariant, c.len.ensures, c.self.inside.full.ok.0, c.len-2.ensures, c.self.inside.last.ok.0, ap length c.self.view_is)
