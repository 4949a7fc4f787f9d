use Rattle.std.proofs.Common.{◌≡◌, ◌∙◌, ◌≤◌, List, map, ap, sym, subst}
use Rattle.std.specs.Prelude.{All}
use Rattle.std.specs.Global.{Vec}
use Rattle.std.proofs.lemmas.Simd.{map-map}
use Rattle.facet_phases.specs.Listing.{phases_of}
use Rattle.facet_phases.specs.Taking.{at}
use Rattle.facet_words.specs.CommandViews.{order_view, script_view}
use Rattle.facet_words.specs.declared.command.Order.{Order}
use Rattle.facet_serving.proofs.Begun.{lines_in_order, sessions_few, sessions_within}
use Rattle.facet_serving.proofs.Generic.{carried_listed, from_ok}
use Rattle.facet_serving.proofs.serving.run_listed.Goals as goal

pub greatest_session-sessions-requires : goal.greatest_session-sessions-requires
greatest_session-sessions-requires g c =
    subst (λ (l : List (Vec Order)). All (λ (phase : Vec Order). All (λ (o : Order). o.session ≤ 64) phase.items) l) (sym c.deref.ensures.value) (sessions_few c.args.script.phases.items c.requires.order)

pub new-listed-requires-clause-sessions : goal.new-listed-requires-clause-sessions
new-listed-requires-clause-sessions g c =
    sessions_within c.args.script.phases.items c.requires.order c.greatest_session-sessions.result
    (subst (λ (l : List (Vec Order)). All (λ (phase : Vec Order). All (λ (o : Order). o.session ≤ c.greatest_session-sessions.result) phase.items) l) c.deref.ensures.value c.greatest_session-sessions.ensures.all)

pub new-listed-requires-clause-rise : goal.new-listed-requires-clause-rise
new-listed-requires-clause-rise g c = lines_in_order c.args.script.phases.items c.requires.order

pub returns-clause-carried : goal.returns-clause-carried
returns-clause-carried g c =
    let laws = g.met.O.Output in
    let before = at c.new-listed.result c.args.out.now in
    let now = at c.run_on_store.new.phases c.run_on_store.new.out in
    let is : phases_of c.new-listed.result ≡ (script_view c.args.script).phases =
    ap phases_of c.new-listed.ensures ∙ map-map (λ (orders : List Order). map order_view orders) (λ (phase : Vec Order). phase.items) c.args.script.phases.items in
    from_ok c.run_on_store.result c.run_on_store.ensures.carried
    (λ x carried. carried_listed g.O.Output g.D.Disk (script_view c.args.script) c.args.store.start.value before now x.opened x.ran carried is
    (λ a b orders given. given) (λ a b over. over) (λ a b fault none. none) laws.flushes_none laws.flushes_then)
