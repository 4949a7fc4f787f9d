use Rattle.std.proofs.Common.{refl}
use Rattle.seg_grammar.specs.Reading.{term_at}
use Rattle.seg_grammar.proofs.reading.term.Goals as goal

pub returns : goal.returns
unfolding term_at
returns c = ((c.in_ok-key.key.now, c.in_ok-places.ensures.0), rw (c.in_ok-key.ensures, c.in_ok-places.ensures.1) refl, refl)
