use Rattle.plan_places.proofs.Marked.{child_room, one_more}
use Rattle.plan_places.proofs.node.mark_each.Goals as goal

pub mark_one-requires : goal.mark_one-requires
mark_one-requires c = child_room c.args.children.items c.loop-child.children.items c.pop.new.self.items c.in-Some.child c.loop-child.bits c.args.bits.now c.loop-child.invariant c.in-Some.ensures.items

pub loop-child-preserved : goal.loop-child-preserved
loop-child-preserved c =
    one_more c.args.children.items c.loop-child.children.items c.pop.new.self.items c.in-Some.child c.loop-child.bits c.args.bits.now c.loop-child.invariant c.in-Some.ensures.items c.mark_one.new.bits c.mark_one.ensures
