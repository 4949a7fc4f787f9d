use Rattle.seg_postings.specs.Rising.{from_place}
use Rattle.counted_column.proofs.Raising.{AreRaised, sparse_in}
use Rattle.counted_column.proofs.counting.count_sparse.Given as goal

abbrev pub invariant-loop-place : goal.invariant-loop-place
invariant-loop-place l = AreRaised (sparse_in l.starts l.ords (from_place l.place l.places.places)) (sparse_in l.starts l.ords l.places.places) l.counts l.fn.counts
