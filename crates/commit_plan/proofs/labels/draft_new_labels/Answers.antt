use Rattle.commit_file.specs.Commits.{AreInOrder}
use Rattle.commit_plan.proofs.Ordering.{order_with}
use Rattle.commit_plan.proofs.labels.draft_new_labels.Goals as goal
use Rattle.store_opening.proofs.Loops.{order_low}

pub write_labels-requires-clause-some : goal.write_labels-requires-clause-some
write_labels-requires-clause-some c = order_low c.state.inside.labels 1 c.state.inside.label_parts.items c.state.invariant.order

pub write_taxonomy_commit-requires-clause-order : goal.write_taxonomy_commit-requires-clause-order
write_taxonomy_commit-requires-clause-order c =
    let order : AreInOrder c.args.state.now.labels 1 c.args.state.now.label_parts = rw (← c.state.view_is) c.state.invariant.order in
    rw (c.size.ensures.size, c.deref-2.ensures.value, c.in_ok-parts.ensures.parts) (order_with c.args.state.now c.args.view.now c.next.result c.requires.longer order)

pub returns-clause-order : goal.returns-clause-order
returns-clause-order c =
    let order : AreInOrder c.args.state.now.labels 1 c.args.state.now.label_parts = rw (← c.state.view_is) c.state.invariant.order in
    rw c.in_ok-parts.ensures.parts (order_with c.args.state.now c.args.view.now c.next.result c.requires.longer order)
