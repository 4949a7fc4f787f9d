use Rattle.std.proofs.Common.{sym, arith}
use Rattle.seg_file.specs.Search.{text_of}
use Rattle.seg_file.proofs.Search.{none_at_end, none_there, found_there, differs, agrees}
use Rattle.seg_file.proofs.segment_bytes.SegmentBytes.postings.Goals as goal

pub returns-then-at-terms : goal.returns-then-at-terms
returns-then-at-terms c = sym (none_at_end (text_of c.args.key.now) c.args.self.now.terms c.first_from-at.result c.first_from-at.ensures.first (omega arith))

pub returns-then-is_ne : goal.returns-then-is_ne
returns-then-is_ne c = sym (none_there (text_of c.args.key.now) c.args.self.now.terms c.first_from-at.result c.first_from-at.ensures.rise c.first_from-at.ensures.first (omega arith) (rw (← c.term_text.ensures) (differs c.term_text.result.now (text_of c.args.key.now) c.order.result c.order.ensures c.if-is_ne.ensures)))

pub returns : goal.returns
returns c = rw c.places.ensures (sym (found_there (text_of c.args.key.now) c.args.self.now.terms c.first_from-at.result c.first_from-at.ensures.first (omega arith) (rw (← c.term_text.ensures) (agrees c.term_text.result.now (text_of c.args.key.now) c.order.result c.order.ensures c.if-is_ne.ensures))))
