use Rattle.std.proofs.Common.{◌-◌}
use Rattle.facet_codec.specs.Lists.{list_at}
use Rattle.seg_grammar.specs.Reading.{record_at}
use Rattle.seg_grammar.proofs.Marks.{AreMarked}
use Rattle.seg_grammar.proofs.index.records.Given as goal

abbrev pub invariant-loop : goal.invariant-loop
invariant-loop l = AreMarked l.fn.cursor l.cursor l.records.items l.counted.items (list_at record_at (l.n - l.counter) l.cursor) (list_at record_at l.n l.fn.cursor)
