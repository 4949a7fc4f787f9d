use Rattle.std.proofs.Common.{rules, arith}
use Rattle.facet_io.proofs.Pieces.{taken_more}
use Rattle.facet_io.proofs.source.read_to_end.Goals as goal

pub returns-then-is_err-clause-taken : goal.returns-then-is_err-clause-taken
returns-then-is_err-clause-taken g c = taken_more _ _ _ _ _ _ _ c.reading.invariant.taken c.in-Ok.ensures.bytes.0 (grind (arith, rules))
