use Rattle.std.proofs.Common.{◌++◌, length}
use Rattle.seg_grammar.specs.Spelling.{places_bytes}
use Rattle.seg_file.specs.Search.{term_of}
use Rattle.seg_file.proofs.Parts.{term_begins, places_begin}
use Rattle.seg_file.proofs.segment_bytes.SegmentBytes.places.Goals as goal

pub text_front-requires : goal.text_front-requires
text_front-requires c =
    let t = term_of c.args.self.now.terms c.args.at in
    let b = c.term-cursor.ensures in
    (t.0, places_bytes t.1 ++ b.tail, term_begins (length c.args.self.now.records) c.term-cursor.result.rest t b)

pub places_front-requires : goal.places_front-requires
places_front-requires c =
    let t = term_of c.args.self.now.terms c.args.at in
    let b = c.term-cursor.ensures in
    let one = c.text_front.ensures t.0 (places_bytes t.1 ++ b.tail) (term_begins (length c.args.self.now.records) c.term-cursor.result.rest t b) in
    (t.1, b.tail, places_begin (length c.args.self.now.records) c.term-cursor.result.rest c.text_front.new.cursor.rest t b one.1)

pub returns : goal.returns
returns c =
    let t = term_of c.args.self.now.terms c.args.at in
    let b = c.term-cursor.ensures in
    let one = c.text_front.ensures t.0 (places_bytes t.1 ++ b.tail) (term_begins (length c.args.self.now.records) c.term-cursor.result.rest t b) in
    c.places_front.ensures t.1 b.tail (places_begin (length c.args.self.now.records) c.term-cursor.result.rest c.text_front.new.cursor.rest t b one.1)
