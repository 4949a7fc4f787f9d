use Rattle.std.proofs.Common.{◌∙◌, length, ap, arith}
use Rattle.seg_decoding.proofs.RecordSizes.{record_size}
use Rattle.seg_grammar.specs.Lookups.{record_of}
use Rattle.facet_codec.specs.Spelling.{vint}
use Rattle.seg_decoding.proofs.sizes.next_record.Goals as goal

pub overflow_add-result-2 : goal.overflow_add-result-2
overflow_add-result-2 c = omega (arith, c.leaves_place.ensures.near, c.requires.at, c.requires.fits.leaves.few, c.len-leaves.ensures, ap length c.leaves.ensures, c.count_size.ensures.few)

pub overflow_add-result-3 : goal.overflow_add-result-3
overflow_add-result-3 c = omega (arith, c.leaves_place.ensures.near, c.requires.at, c.requires.fits.leaves.few, c.len-leaves.ensures, ap length c.leaves.ensures, c.count_size.ensures.few, c.requires.fits.counted.few, c.len-counted.ensures, ap length c.counted.ensures)

pub returns-clause-place : goal.returns-clause-place
returns-clause-place c =
    let r = record_of c.args.segment.now c.args.doc in
    let counted = c.len-counted.ensures ∙ ap length c.counted.ensures in
    omega (arith, record_size c.args.at r, c.leaves_place.ensures.place, c.len-leaves.ensures, ap length c.leaves.ensures, c.count_size.ensures.size, ap (λ n. length (vint n)) counted, counted)

pub returns-clause-near : goal.returns-clause-near
returns-clause-near c = omega (arith, c.leaves_place.ensures.near, c.requires.fits.leaves.few, c.len-leaves.ensures, ap length c.leaves.ensures, c.count_size.ensures.few, c.requires.fits.counted.few, c.len-counted.ensures, ap length c.counted.ensures)
