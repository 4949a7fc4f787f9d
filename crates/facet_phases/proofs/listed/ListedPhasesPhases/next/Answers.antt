use Rattle.std.proofs.Common.{◌≤◌, map, subst}
use Rattle.std.specs.Prelude.{All, IfSome, IsTrue}
use Rattle.std.specs.Global.{Vec}
use Rattle.std.specs.Vec.Iter.{into_iter_items}
use Rattle.facet_words.specs.CommandViews.{order_view}
use Rattle.facet_words.specs.ScriptOrder.{lines_rise}
use Rattle.facet_words.specs.declared.command.Order.{Order}
use Rattle.facet_phases.specs.Listing.{Listing}
use Rattle.facet_phases.proofs.Listing.{first_of, rest_of}
use Rattle.facet_phases.proofs.listed.ListedPhasesPhases.next.Goals as goal

pub invariant_of-self : goal.invariant_of-self
invariant_of-self g c =
    let old = into_iter_items c.self.inside.left in
    let new = into_iter_items c.next.new.self in
    let is = c.next.ensures.items in (
      rest_of (λ (phase : Vec Order). All (λ (o : Order). (1 ≤ o.session) × (o.session ≤ c.self.inside.sessions)) phase.items) old new c.next.result is c.self.invariant.0,
      rest_of (λ (phase : Vec Order). IsTrue (lines_rise (map order_view phase.items))) old new c.next.result is c.self.invariant.1,
    )

pub returns-clause-sessions : goal.returns-clause-sessions
returns-clause-sessions g c =
    let old = into_iter_items c.self.inside.left in
    let new = into_iter_items c.next.new.self in
    subst (λ (l : Listing). IfSome c.next.result (λ (orders : Vec Order). All (λ (o : Order). (1 ≤ o.session) × (o.session ≤ l.sessions)) orders.items)) c.self.view_is
    (first_of (λ (phase : Vec Order). All (λ (o : Order). (1 ≤ o.session) × (o.session ≤ c.self.inside.sessions)) phase.items) old new c.next.result c.next.ensures.items c.self.invariant.0)

pub returns-clause-rise : goal.returns-clause-rise
returns-clause-rise g c =
    let old = into_iter_items c.self.inside.left in
    let new = into_iter_items c.next.new.self in
    first_of (λ (phase : Vec Order). IsTrue (lines_rise (map order_view phase.items))) old new c.next.result c.next.ensures.items c.self.invariant.1
