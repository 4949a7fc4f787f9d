use Rattle.std.proofs.Common.{arith, ◌^◌}
use Rattle.seg_writing.proofs.Facts.{all_below}
use Rattle.seg_writing.proofs.records.put_numbers.Goals as goal

pub returns-clause-fit : goal.returns-clause-fit
returns-clause-fit c = all_below (2 ^ 32) c.args.numbers.now (λ i lt. omega (arith, c.type_inv.numbers i))
