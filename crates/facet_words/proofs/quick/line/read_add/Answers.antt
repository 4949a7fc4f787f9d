use Rattle.std.proofs.Common.{rules}
use Rattle.facet_words.proofs.QuickLines.{lines_read}
use Rattle.facet_words.proofs.quick.line.read_add.Goals as goal

pub returns : goal.returns
returns c = lines_read c.args.line c.args.bytes.now c.next.new.self c.in-Some.found c.order_with.result (search rules) (search rules) (search rules) (search rules)
