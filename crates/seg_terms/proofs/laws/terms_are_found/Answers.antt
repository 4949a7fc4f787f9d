use Rattle.std.proofs.Common.{◌∙◌}
use Rattle.facet_model.specs.Terms.{terms_of}
use Rattle.seg_terms.proofs.TermLists.{found_is_find, found_in_terms}
use Rattle.seg_terms.proofs.laws.terms_are_found.Goals as goal

pub returns : goal.returns
returns c docs term = found_is_find (terms_of docs) term ∙ found_in_terms docs term
