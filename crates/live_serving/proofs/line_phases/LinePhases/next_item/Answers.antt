use Rattle.live_serving.proofs.Next.{stop_next}
use Rattle.live_serving.proofs.line_phases.LinePhases.next_item.Goals as goal

pub returns-clause-failed : goal.returns-clause-failed
returns-clause-failed g c = stop_next g.X.Duplex c.args.self.now c.args.io.now c.reading.self c.reading.io c.reading.invariant
