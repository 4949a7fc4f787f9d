use Rattle.std.proofs.Common.{length}
use Rattle.facet_words.proofs.QuickMembers.{IsRead}
use Rattle.facet_words.proofs.quick.line.members_next.Given as goal

abbrev pub invariant-loop-key : goal.invariant-loop-key
invariant-loop-key l = IsRead l.fn.reader l.reader l.found

abbrev pub decreases-loop-key : goal.decreases-loop-key
decreases-loop-key l = length l.reader
