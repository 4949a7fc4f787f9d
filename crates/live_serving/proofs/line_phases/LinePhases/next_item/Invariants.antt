use Rattle.live_serving.specs.Moments.{StaysLive}
use Rattle.live_serving.proofs.line_phases.LinePhases.next_item.Given as goal

abbrev pub invariant-reading : goal.invariant-reading
invariant-reading g l = StaysLive g.X.Duplex l.fn.self l.fn.io l.self l.io
