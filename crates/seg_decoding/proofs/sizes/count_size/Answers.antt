use Rattle.std.proofs.Common.{sym, arith}
use Rattle.seg_decoding.proofs.RecordSizes.{one_group, two_groups, three_groups}
use Rattle.seg_decoding.proofs.sizes.count_size.Goals as goal

pub returns-then-n-lt128-clause-size : goal.returns-then-n-lt128-clause-size
returns-then-n-lt128-clause-size c = sym (one_group c.args.n (omega (arith, c.if-n-lt128.true)))

pub returns-then-n-lt16384-clause-size : goal.returns-then-n-lt16384-clause-size
returns-then-n-lt16384-clause-size c = sym (two_groups c.args.n (omega (arith, c.if-n-lt128.false)) (omega (arith, c.if-n-lt16384.true)))

pub returns-else-n-lt16384-clause-size : goal.returns-else-n-lt16384-clause-size
returns-else-n-lt16384-clause-size c = sym (three_groups c.args.n (omega (arith, c.if-n-lt16384.false)) (omega (arith, c.requires)))
