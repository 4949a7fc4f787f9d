use Rattle.std.proofs.Common.{◌≡◌, ◌++◌, map}
use Rattle.seg_terms.specs.Noting.{table_of}
use Rattle.seg_terms.specs.Places.{term_view}
use Rattle.seg_terms.proofs.table.TermTable.into_sorted.Given as goal

abbrev pub invariant-loop-term : goal.invariant-loop-term
invariant-loop-term l = map term_view l.sorted.items ++ table_of l.term-iterator ≡ table_of l.initial.term-iterator
