use Rattle.seg_drill.proofs.node.push_paths.Goals as goal

pub returns : goal.returns
returns c = record { node = c.in_ok-node.node; items = c.in_ok-push.ensures.items; left = c.in_ok-node.ensures }
