use Rattle.live_serving.specs.FirstLine.{GoesOnReading}
use Rattle.live_serving.proofs.first_line.read_first.Given as goal

abbrev pub invariant-reading : goal.invariant-reading
invariant-reading g l = GoesOnReading g.X.Duplex l.fn.io l.io l.reader
