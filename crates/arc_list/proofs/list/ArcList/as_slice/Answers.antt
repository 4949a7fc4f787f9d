use Rattle.std.proofs.Common.{rules, ◌<◌, arith, length, map, ap}
use Rattle.std.specs.Arc.{arc_value}
use Rattle.arc_list.specs.Pieces.{values_in}
use Rattle.arc_list.proofs.Pieces.{many}
use Rattle.arc_list.proofs.list.ArcList.as_slice.Goals as goal

pub returns-else-is_empty-clause-none : goal.returns-else-is_empty-clause-none
returns-else-is_empty-clause-none g c =
    let full = c.self.inside.full in
    let some : 0 < length full.items = search (rules, c.if-is_empty.false, c.is_empty.ensures, full.ok) in
    omega (arith, many (λ p. values_in arc_value (arc_value p)) full.items (map arc_value c.self.inside.last.items) c.self.inside.count c.self.invariant some, ap length c.self.view_is)
