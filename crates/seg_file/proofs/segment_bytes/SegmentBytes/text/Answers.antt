use Rattle.seg_grammar.specs.Lookups.{record_of}
use Rattle.seg_file.proofs.Parts.{behind_id, behind_text, id_begins, text_begins}
use Rattle.seg_file.proofs.segment_bytes.SegmentBytes.text.Goals as goal

pub text_front-requires : goal.text_front-requires
text_front-requires c =
    let r = record_of c.args.self.now c.args.doc in
    let b = c.record-cursor.ensures in
    (r.id, behind_id r b.tail, id_begins c.record-cursor.result.rest r b)

pub text_front-requires-2 : goal.text_front-requires-2
text_front-requires-2 c =
    let r = record_of c.args.self.now c.args.doc in
    let b = c.record-cursor.ensures in
    let one = c.text_front.ensures r.id (behind_id r b.tail) (id_begins c.record-cursor.result.rest r b) in
    (r.text, behind_text r b.tail, text_begins c.record-cursor.result.rest c.text_front.new.cursor.rest r b one.1)

pub returns : goal.returns
returns c =
    let r = record_of c.args.self.now c.args.doc in
    let b = c.record-cursor.ensures in
    let one = c.text_front.ensures r.id (behind_id r b.tail) (id_begins c.record-cursor.result.rest r b) in
    (c.text_front-2.ensures r.text (behind_text r b.tail) (text_begins c.record-cursor.result.rest c.text_front.new.cursor.rest r b one.1)).0
