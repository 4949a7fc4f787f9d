use Rattle.std.proofs.Common.{◌≡◌, length}
use Rattle.facet_io.proofs.Pieces.{IsPartWritten}
use Rattle.facet_io.proofs.sink.write_all.Given as goal

abbrev pub invariant-loop-rest : goal.invariant-loop-rest
invariant-loop-rest g l = record {
  part : IsPartWritten (g.K.Sink.written l.fn.sink) (g.K.Sink.written l.sink) l.fn.bytes l.rest;
  still : g.K.Sink.faults l.sink ≡ g.K.Sink.faults l.fn.sink;
}

abbrev pub decreases-loop-rest : goal.decreases-loop-rest
decreases-loop-rest g l = length l.rest
