use Rattle.std.proofs.Common.{take, map}
use Rattle.seg_terms.specs.Entries.{stored_of}
use Rattle.seg_writing.specs.Written.{AreRecordsPut}
use Rattle.seg_writing.proofs.records.put_records.Given as goal

abbrev pub invariant-loop-entry : goal.invariant-loop-entry
invariant-loop-entry l = AreRecordsPut l.fn.out.items l.out.items l.marks.items l.counted.items (map stored_of (take l.entry-index l.entries))
