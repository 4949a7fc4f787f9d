use Rattle.live_serving.proofs.first_line.look.Goals as goal

pub returns-else-count-eq0 : goal.returns-else-count-eq0
returns-else-count-eq0 c = c.look_at_line.ensures c.args.count
