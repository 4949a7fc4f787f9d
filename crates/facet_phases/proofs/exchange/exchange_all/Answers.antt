use Rattle.std.proofs.Common.{All, List, sym, subst}
use Rattle.facet_output.specs.Seen.{Seen, Sees}
use Rattle.facet_engine.specs.Steps.{seen_of}
use Rattle.facet_phases.specs.declared.lane.Lane.{Lane}
use Rattle.facet_phases.proofs.exchange.exchange_all.Goals as goal

pub spread_all-requires-clause-knows : goal.spread_all-requires-clause-knows
spread_all-requires-clause-knows g c κs within =
    subst (λ (s : Seen). All (λ (l : Lane g.row.C.Denot). Sees (seen_of l.session.pass) s) c.gather_all.new.lanes) (sym c.notes-notes.ensures.seen)
    (subst (λ (ls : List (Lane g.row.C.Denot)). All (λ (l : Lane g.row.C.Denot). Sees (seen_of l.session.pass) (seen_of c.gather_all.new.first)) ls) (sym c.gather_all.ensures.lanes) c.gather_all.ensures.knows)
