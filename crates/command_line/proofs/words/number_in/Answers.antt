use Rattle.command_line.proofs.Numbers.{inside, no_number}
use Rattle.command_line.proofs.words.number_in.Goals as goal

pub returns-then-n-high-clause-is : goal.returns-then-n-high-clause-is
returns-then-n-high-clause-is c = inside c.args.low c.args.high c.in-Ok.n c.args.text.now c.in-Ok.ensures.value.0 c.if-low-n.true c.if-n-high.true

pub returns-in-Err-clause-is : goal.returns-in-Err-clause-is
returns-in-Err-clause-is c = no_number c.args.low c.args.high c.args.text.now c.in-Err.field-0 c.in-Err.ensures.value.0
