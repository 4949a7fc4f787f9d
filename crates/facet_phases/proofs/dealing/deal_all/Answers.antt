use Rattle.std.proofs.Common.{refl}
use Rattle.facet_phases.proofs.Dealt.{dealt_all}
use Rattle.facet_phases.proofs.dealing.deal_all.Goals as goal

pub returns : goal.returns
returns g c = dealt_all c.args.lane.now _ c.args.orders.items c.requires.own c.requires.idle refl refl refl
