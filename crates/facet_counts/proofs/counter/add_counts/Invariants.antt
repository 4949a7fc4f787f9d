use Rattle.facet_counts.proofs.Together.{AreSummed}
use Rattle.facet_counts.proofs.counter.add_counts.Given as goal

abbrev pub invariant-loop-ord : goal.invariant-loop-ord
invariant-loop-ord l = AreSummed l.ord l.counts l.fn.counts l.others
