use Rattle.std.proofs.Common.{◌++◌, ap, sym, ◌∙◌, string_bytes}
use Rattle.facet_names.proofs.TermTexts.{escaped_as_is}
use Rattle.facet_names.proofs.term.push_escaped.Goals as goal

pub returns-clause-ok : goal.returns-clause-ok
returns-clause-ok c = c.in_ok-push_str.ensures.bytes ∙ ap (λ t. string_bytes c.args.text.now ++ t) (sym (escaped_as_is c.args.part.now (sym c.has_special.ensures ∙ c.if-has_special.false)))
