use Rattle.std.proofs.Common.{◌≡◌, drop}
use Rattle.facet_engine.specs.HeldPairs.{pair_under}
use Rattle.facet_engine.specs.Leases.{pairs_in}
use Rattle.facet_engine.proofs.held.HeldPairs.find.Given as goal

abbrev pub invariant-loop-held : goal.invariant-loop-held
invariant-loop-held l = pair_under (pairs_in (drop l.held-index l.held-items)) l.name ≡ pair_under (pairs_in l.held-items) l.name
