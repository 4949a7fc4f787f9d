use Rattle.std.proofs.Common.{◌∙◌}
use Rattle.facet_words.proofs.Members.{keys_found}
use Rattle.facet_words.proofs.shape.keys_among.Goals as goal

pub returns : goal.returns
returns c = c.all_listed.ensures ∙ keys_found c.args.names.now c.in-Some.members.now.entries _ c.in-Some.ensures
