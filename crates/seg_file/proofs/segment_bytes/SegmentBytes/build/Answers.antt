use Rattle.seg_file.proofs.Opened.{decoded_segment, indexed}
use Rattle.seg_file.proofs.segment_bytes.SegmentBytes.build.Goals as goal

pub invariant_of-result : goal.invariant_of-result
invariant_of-result c = indexed c.in_ok-written.written.bytes.items c.in_ok-written.written.index _ c.in_ok-written.ensures.segment c.in_ok-written.ensures.index

pub returns : goal.returns
returns c = decoded_segment c.in_ok-written.written.bytes.items _ c.in_ok-written.ensures.segment
