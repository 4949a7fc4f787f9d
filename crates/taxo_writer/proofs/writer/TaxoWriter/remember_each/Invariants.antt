use Rattle.std.proofs.Common.{◌≡◌}
use Rattle.taxo_writer.proofs.writer.TaxoWriter.remember_each.Given as goal

abbrev pub invariant-loop-at : goal.invariant-loop-at
invariant-loop-at g l = l.token ≡ l.fn.token
