use Rattle.seg_grammar.specs.Lookups.{record_of}
use Rattle.seg_file.proofs.segment_bytes.SegmentBytes.counted.Goals as goal

pub list_front-requires : goal.list_front-requires
list_front-requires c = ((record_of c.args.self.now c.args.doc).counted, c.counted_list-cursor.ensures.tail, c.counted_list-cursor.ensures.begins)

pub returns : goal.returns
returns c = c.list_front.ensures (record_of c.args.self.now c.args.doc).counted c.counted_list-cursor.ensures.tail c.counted_list-cursor.ensures.begins
