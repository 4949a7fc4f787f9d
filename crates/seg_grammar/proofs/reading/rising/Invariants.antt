use Rattle.std.proofs.Common.{◌-◌}
use Rattle.facet_codec.proofs.Lists.{IsPart}
use Rattle.seg_grammar.specs.Reading.{rising_at}
use Rattle.seg_grammar.proofs.reading.rising.Given as goal

abbrev pub invariant-loop : goal.invariant-loop
invariant-loop l = IsPart (rising_at (l.n - l.counter) l.low l.high l.cursor) (rising_at l.n 0 l.high l.fn.cursor)
