use Rattle.std.proofs.Common.{◌≡◌}
use Rattle.facet_phases.specs.Lanes.{AreNumbered, Each, IsDealt}
use Rattle.facet_phases.proofs.dealing.deal_each.Given as goal

abbrev pub invariant-loop-order : goal.invariant-loop-order
invariant-loop-order g l = record {
  sessions : Each (λ old new. new.session ≡ old.session) l.fn.lanes l.lanes;
  dealt : Each (IsDealt l.yielded) l.fn.lanes l.lanes;
  numbered : AreNumbered 1 l.lanes;
}
