use Rattle.std.proofs.Common.{◌∙◌, sym}
use Rattle.number_facets.proofs.Decimals.{decimal_law}
use Rattle.number_facets.proofs.number.read_number.Goals as goal

pub returns-clause-decimal : goal.returns-clause-decimal
returns-clause-decimal c = λ v. let law = decimal_law c.args.text.now v in (λ is. law.0 (sym c.number_in.ensures ∙ is), λ k. c.number_in.ensures ∙ law.1 k)
