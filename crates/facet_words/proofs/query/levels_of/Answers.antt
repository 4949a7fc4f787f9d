use Rattle.std.proofs.Common.{sym, arith}
use Rattle.facet_words.proofs.WordLengths.{two_levels}
use Rattle.facet_words.proofs.query.levels_of.Goals as goal

pub returns-else-len-eq0 : goal.returns-else-len-eq0
returns-else-len-eq0 c = sym (two_levels c.args.words.now (omega (arith, c.len.ensures, c.if-len-eq0.false)))
