use Rattle.std.proofs.Common.{◌≡◌, ◌<◌, ℕ, length}
use Rattle.std.specs.Prelude.{slice_index_or}
use Rattle.seg_file.specs.Search.{term_of}
use Rattle.seg_decoding.proofs.walk.Walk.check_end.Given as goal

abbrev pub invariant-loop-term : goal.invariant-loop-term
invariant-loop-term l = (at : ℕ) → at < l.term → slice_index_or l.self.next.items at 0 ≡ length (term_of l.segment.terms at).1
