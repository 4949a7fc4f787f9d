use Rattle.value_facets.proofs.HitLeaves.{has_terms}
use Rattle.sideways.specs.Searches.{records_of}
use Rattle.value_facets.proofs.ranging.RangeCounter.new.Goals as goal

pub parts_of-requires : goal.parts_of-requires
parts_of-requires c = has_terms c.args.view.now c.requires.docs.0 (records_of c.args.segments.now) c.requires.docs.1 c.requires.docs.2
