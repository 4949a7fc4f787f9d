use Rattle.std.proofs.Common.{rules, ◌∷◌, []}
use Rattle.chronicle.proofs.chronicle.Chronicle.enter_lent.Goals as goal

pub returns-clause-more : goal.returns-clause-more
returns-clause-more g c = ((c.args.token.now.number, c.args.entry.now) ∷ [], search rules)
