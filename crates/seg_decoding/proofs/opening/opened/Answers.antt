use Rattle.std.proofs.Common.{refl}
use Rattle.seg_grammar.proofs.Again.{segment_again}
use Rattle.seg_decoding.specs.Opening.{opened}
use Rattle.seg_decoding.proofs.opening.opened.Goals as goal

pub returns-clause-read : goal.returns-clause-read
unfolding opened
returns-clause-read c = rw (segment_again c.args.bytes.items c.in_ok-segment.segment c.in_ok-segment.ensures.found, ← c.deref.ensures.value, c.in_ok-check_head.ensures) refl
