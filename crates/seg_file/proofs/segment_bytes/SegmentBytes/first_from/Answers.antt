use Rattle.std.proofs.Common.{sym, arith}
use Rattle.seg_file.specs.Search.{text_of}
use Rattle.seg_file.proofs.Search.{first_low, first_high}
use Rattle.seg_file.proofs.segment_bytes.SegmentBytes.first_from.Goals as goal

pub loop-low-preserved-then-is_lt : goal.loop-low-preserved-then-is_lt
loop-low-preserved-then-is_lt c = record {
  between = first_low (text_of c.args.key.now) c.args.self.now.terms c.loop-low.low c.loop-low.high _ c.terms-high.ensures.rise c.loop-low.invariant.between (omega arith) (rw (← c.term_text.ensures, ← c.order.ensures) (sym c.if-is_lt.ensures));
  order = omega arith;
  within = omega arith;
}

pub loop-low-preserved : goal.loop-low-preserved
loop-low-preserved c = record {
  between = first_high (text_of c.args.key.now) c.args.self.now.terms c.loop-low.low c.loop-low.high _ c.terms-high.ensures.rise c.loop-low.invariant.between (omega arith) (rw (← c.term_text.ensures, ← c.order.ensures) (sym c.if-is_lt.ensures));
  order = omega arith;
  within = omega arith;
}
