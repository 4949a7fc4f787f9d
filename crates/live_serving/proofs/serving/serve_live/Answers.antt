use Rattle.live_serving.proofs.Opening.{within}
use Rattle.live_serving.proofs.serving.serve_live.Goals as goal

pub serve_first-requires-clause-within : goal.serve_first-requires-clause-within
serve_first-requires-clause-within g c κs inside = within g.X.Duplex c.args.io c.read_first.new.io c.read_first.new.reader c.in-Ok.first c.in-Ok.ensures.ok

pub returns-in-Ok : goal.returns-in-Ok
returns-in-Ok g c = c.serve_first.ensures c.args.io c.in-Ok.ensures.ok

pub returns-in-Err : goal.returns-in-Err
returns-in-Err g c = c.leave_at_first.ensures c.args.only_reads c.args.io c.read_first.new.reader c.in-Err.ensures.failed
