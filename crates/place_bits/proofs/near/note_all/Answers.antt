use Rattle.std.proofs.Common.{◌∙◌, List, ◌&&◌, refl, ltb, ap, arith}
use Rattle.std.proofs.lemmas.List.{take_all}
use Rattle.seg_postings.specs.Rising.{is_in}
use Rattle.place_bits.specs.Misses.{IsMissed, fails}
use Rattle.place_bits.specs.Words.{Marked}
use Rattle.place_bits.proofs.Misses.{all_changed, noted_more, noted_start, words_here}
use Rattle.place_bits.proofs.near.note_all.Goals as goal

pub loop-k-init : goal.loop-k-init
loop-k-init c = noted_start _ _ _ _ c.requires.ones c.requires.twos

pub note-requires : goal.note-requires
note-requires c = record {
  dim = words_here (IsMissed c.args.base.now.places) c.args.base.now.words c.loop-k.k c.loop-k.dims c.args.dims.now _ c.index-dims-k.result c.requires.dims c.loop-k.invariant.missed (omega (arith, c.loop-k.invariant.missed.len)) refl;
  ones = c.loop-k.invariant.ones_words;
  twos = c.loop-k.invariant.twos_words;
}

pub loop-k-preserved : goal.loop-k-preserved
loop-k-preserved c = noted_more _ _ _ _ _ _ _ _ _ _ c.index-dims-k.result c.loop-k.invariant (omega (arith, c.loop-k.invariant.missed.len)) refl c.note.ensures.missed
    c.note.ensures.ones_words c.note.ensures.ones c.note.ensures.twos_words c.note.ensures.twos

pub returns-clause-missed : goal.returns-clause-missed
returns-clause-missed c = all_changed _ _ _ _ c.loop-k.invariant.missed (omega (arith, c.loop-k.invariant.missed.len))

pub returns-clause-ones : goal.returns-clause-ones
returns-clause-ones c = λ n. c.loop-k.invariant.one_fails n ∙ ap (λ (ds : List Marked). is_in n c.args.base.now.places && ltb 0 (fails ds n)) (take_all c.loop-k.k c.args.dims.now (omega (arith, c.loop-k.invariant.missed.len)))

pub returns-clause-twos : goal.returns-clause-twos
returns-clause-twos c = λ n. c.loop-k.invariant.two_fail n ∙ ap (λ (ds : List Marked). is_in n c.args.base.now.places && ltb 1 (fails ds n)) (take_all c.loop-k.k c.args.dims.now (omega (arith, c.loop-k.invariant.missed.len)))
