use Rattle.std.proofs.Common.{◌-◌}
use Rattle.facet_codec.specs.Lists.{list_at}
use Rattle.facet_codec.proofs.Lists.{IsPart}
use Rattle.seg_grammar.specs.Reading.{number_at}
use Rattle.seg_grammar.proofs.reading.numbers.Given as goal

abbrev pub invariant-loop : goal.invariant-loop
invariant-loop l = IsPart (list_at number_at (l.n - l.counter) l.cursor) (list_at number_at l.n l.fn.cursor)
