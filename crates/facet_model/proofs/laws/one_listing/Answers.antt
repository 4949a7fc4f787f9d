use Rattle.facet_model.proofs.Unique.{listing_determined}
use Rattle.facet_model.proofs.laws.one_listing.Goals as goal

pub returns : goal.returns
returns c = listing_determined
