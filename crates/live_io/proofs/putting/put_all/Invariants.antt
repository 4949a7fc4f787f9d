use Rattle.std.proofs.Common.{◌≡◌, length}
use Rattle.live_io.proofs.Puts.{IsPartPut}
use Rattle.live_io.proofs.putting.put_all.Given as goal

abbrev pub invariant-loop-rest : goal.invariant-loop-rest
invariant-loop-rest g l = record {
  part : IsPartPut (g.X.Duplex.written l.fn.io) (g.X.Duplex.written l.io) (g.X.Duplex.events l.fn.io) (g.X.Duplex.events l.io) l.fn.bytes l.rest;
  still : g.X.Duplex.write_faults l.io ≡ g.X.Duplex.write_faults l.fn.io;
  same_left : g.X.Duplex.left l.io ≡ g.X.Duplex.left l.fn.io;
  same_faults : g.X.Duplex.read_faults l.io ≡ g.X.Duplex.read_faults l.fn.io;
}

abbrev pub decreases-loop-rest : goal.decreases-loop-rest
decreases-loop-rest g l = length l.rest
