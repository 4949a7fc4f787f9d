use Rattle.std.proofs.Common.{take, map}
use Rattle.seg_terms.specs.Places.{term_view}
use Rattle.seg_writing.specs.Written.{AreTermsPut}
use Rattle.seg_writing.proofs.terms.put_terms.Given as goal

abbrev pub invariant-loop-term : goal.invariant-loop-term
invariant-loop-term l = AreTermsPut l.fn.out.items l.out.items l.marks.items (map term_view (take l.term-index l.terms))
