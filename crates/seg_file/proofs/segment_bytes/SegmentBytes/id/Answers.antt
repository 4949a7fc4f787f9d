use Rattle.seg_grammar.specs.Lookups.{record_of}
use Rattle.seg_file.proofs.Parts.{behind_id, id_begins}
use Rattle.seg_file.proofs.segment_bytes.SegmentBytes.id.Goals as goal

pub text_front-requires : goal.text_front-requires
text_front-requires c =
    let r = record_of c.args.self.now c.args.doc in
    let b = c.record-cursor.ensures in
    (r.id, behind_id r b.tail, id_begins c.record-cursor.result.rest r b)

pub returns-clause-id : goal.returns-clause-id
returns-clause-id c =
    let r = record_of c.args.self.now c.args.doc in
    let b = c.record-cursor.ensures in
    (c.text_front.ensures r.id (behind_id r b.tail) (id_begins c.record-cursor.result.rest r b)).0
