use Rattle.std.proofs.Common.{rules}
use Rattle.facet_words.proofs.QuickLines.{whole_read}
use Rattle.facet_words.proofs.quick.member.whole_of.Goals as goal

pub returns : goal.returns
returns c = whole_read c.args.text.now _ (search rules) (search rules)
