use Rattle.std.proofs.Common.{length, ap, arith}
use Rattle.seg_decoding.proofs.sizes.leaves_place.Goals as goal

pub overflow_add-before : goal.overflow_add-before
overflow_add-before c = omega (arith, c.requires.fits.id.text.length, ap length c.id-id.ensures.id, c.count_size.ensures.few)

pub overflow_add-before-2 : goal.overflow_add-before-2
overflow_add-before-2 c = omega (arith, c.requires.fits.id.text.length, ap length c.id-id.ensures.id, c.count_size.ensures.few, c.count_size-2.ensures.few)

pub overflow_add-before-3 : goal.overflow_add-before-3
overflow_add-before-3 c = omega (arith, c.requires.fits.id.text.length, ap length c.id-id.ensures.id, c.count_size.ensures.few, c.count_size-2.ensures.few, c.requires.fits.text.length, ap length c.text-text.ensures)

pub overflow_add-result : goal.overflow_add-result
overflow_add-result c = omega (arith, c.requires.fits.id.text.length, ap length c.id-id.ensures.id, c.count_size.ensures.few, c.count_size-2.ensures.few, c.requires.fits.text.length, ap length c.text-text.ensures, c.requires.at)

pub overflow_add-result-2 : goal.overflow_add-result-2
overflow_add-result-2 c = omega (arith, c.requires.fits.id.text.length, ap length c.id-id.ensures.id, c.count_size.ensures.few, c.count_size-2.ensures.few, c.count_size-3.ensures.few, c.requires.fits.text.length, ap length c.text-text.ensures, c.requires.at)

pub returns-clause-near : goal.returns-clause-near
returns-clause-near c = omega (arith, c.requires.fits.id.text.length, ap length c.id-id.ensures.id, c.count_size.ensures.few, c.count_size-2.ensures.few, c.count_size-3.ensures.few, c.requires.fits.text.length, ap length c.text-text.ensures)
