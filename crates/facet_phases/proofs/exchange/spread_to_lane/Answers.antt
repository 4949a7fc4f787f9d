use Rattle.std.proofs.Common.{rules, ◌≡◌, ℕ, refl, subst}
use Rattle.std.specs.Prelude.{All}
use Rattle.chronicle.specs.History.{own_of}
use Rattle.facet_model.specs.Histories.{Operation}
use Rattle.facet_output.specs.Seen.{Seen, IsTold}
use Rattle.facet_engine.specs.Notes.{noted}
use Rattle.facet_engine.specs.Steps.{seen_of}
use Rattle.facet_phases.proofs.exchange.spread_to_lane.Goals as goal

pub returns-clause-told : goal.returns-clause-told
returns-clause-told g c =
    let old = c.args.lane.now.session in
    let shown : Seen = noted c.args.notes.now in
    let is : seen_of c.spread.new.to.pass ≡ shown = c.spread.ensures.told.all c.requires.knows in
    record {
      same = search rules;
      held = search rules;
      seen = is;
      told = subst (λ (s : Seen). IsTold old.number (seen_of old.pass) s) is c.spread.ensures.told.told;
      orders = refl;
      replies = refl;
    }

pub returns-clause-named : goal.returns-clause-named
returns-clause-named g c =
    let session = c.spread.new.to in
    let seen = c.spread.ensures.operations c.requires.knows in
    subst (All (λ (e : ℕ × Operation). e.1.session ≡ session.number)) (λ i. own_of (session.pass.operations_rest.0 i) (session.numbers.1 i) (seen i)) session.own
