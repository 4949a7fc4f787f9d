use Rattle.std.proofs.Common.{rules, ◌∙◌, ◌≤◌, Option, length, map, refl, inl, subst, arith}
use Rattle.std.specs.Prelude.{All, IfSome, IsTrue}
use Rattle.std.specs.Global.{Vec}
use Rattle.std.proofs.lemmas.List.Elements.{All-map, All-weaker}
use Rattle.facet_words.specs.Commands as commands
use Rattle.facet_words.specs.CommandViews.{order_view}
use Rattle.facet_words.specs.ScriptOrder.{lines_rise}
use Rattle.facet_words.specs.declared.command.Order.{Order}
use Rattle.facet_phases.specs.Taking.{Gives, at}
use Rattle.facet_phases.proofs.Belonging.{pass_then}
use Rattle.facet_phases.proofs.Closing.{behind_none, behind_more, phases_stop}
use Rattle.facet_phases.proofs.phase.run_phases.Goals as goal
use Rattle.facet_engine.proofs.SeenPairs.{same_pass}

pub loop-init : goal.loop-init
loop-init g c = record {
  ready = c.requires.ready;
  same = same_pass c.args.first.now;
  many = refl;
  idle = c.requires.idle;
  sessions = refl;
  behind = behind_none g.P.Phases g.O.Output c.args.system.now (at c.args.phases.now c.args.out.now) c.args.first.now c.args.lanes.now;
}

pub run_phase-requires-clause-sessions : goal.run_phase-requires-clause-sessions
run_phase-requires-clause-sessions g c κs is =
    let i = c.loop.invariant in
    let within : All (λ (o : Order). (1 ≤ o.session) × (o.session ≤ g.P.Phases.sessions c.loop.phases)) c.in-Ok-Some.orders.items =
    subst (λ (next : Option (Vec Order)). IfSome next (λ orders. All (λ (o : Order). (1 ≤ o.session) × (o.session ≤ g.P.Phases.sessions c.loop.phases)) orders.items)) c.in-Ok-Some.field-0-is c.in-Ok-Some.ensures.sessions in
    let most : g.P.Phases.sessions c.loop.phases ≤ length c.loop.lanes = (let m = i.many in let s = i.sessions in let r = c.requires.sessions in omega arith) in
    All-weaker (λ (o : Order). (1 ≤ o.session) × (o.session ≤ g.P.Phases.sessions c.loop.phases)) (λ (o : Order). (1 ≤ o.session) × (o.session ≤ length c.loop.lanes)) (λ o w. (w.0, (let a = w.1 in omega (arith, most)))) c.in-Ok-Some.orders.items within

pub loop-preserved : goal.loop-preserved
loop-preserved g c =
    let i = c.loop.invariant in
    let gave : Gives g.P.Phases (at c.loop.phases c.loop.out) (at c.next-in-loop.new.self c.next-in-loop.new.out) (map order_view c.in-Ok-Some.orders.items) =
    subst (λ (next : Option (Vec Order)). IfSome next (λ orders. g.P.Phases.gives c.loop.phases c.loop.out c.next-in-loop.new.self c.next-in-loop.new.out (map order_view orders.items))) c.in-Ok-Some.field-0-is c.in-Ok-Some.ensures.gave in
    record {
      ready = c.run_phase.ensures.ready;
      same = pass_then c.args.first.now c.loop.first c.run_phase.new.first i.same c.run_phase.ensures.same;
      many = c.run_phase.ensures.many ∙ i.many;
      idle = search rules;
      sessions = c.next-in-loop.ensures.same ∙ i.sessions;
      behind = behind_more g.P.Phases g.O.Output c.args.system.now (at c.args.phases.now c.args.out.now) (at c.loop.phases c.loop.out) (at c.next-in-loop.new.self c.next-in-loop.new.out) c.run_phase.new.out (map order_view c.in-Ok-Some.orders.items)
          c.args.first.now c.loop.first c.run_phase.new.first c.args.lanes.now c.loop.lanes c.run_phase.new.lanes gave i.behind (search rules);
    }

pub returns-in-Err-run_phase-clause-same : goal.returns-in-Err-run_phase-clause-same
returns-in-Err-run_phase-clause-same g c = pass_then c.args.first.now c.loop.first c.run_phase.new.first c.loop.invariant.same c.run_phase.ensures.same

pub returns-in-Err-run_phase-clause-ended : goal.returns-in-Err-run_phase-clause-ended
returns-in-Err-run_phase-clause-ended g c =
    let i = c.loop.invariant in
    let gave : Gives g.P.Phases (at c.loop.phases c.loop.out) (at c.next-in-loop.new.self c.next-in-loop.new.out) (map order_view c.in-Ok-Some.orders.items) =
    subst (λ (next : Option (Vec Order)). IfSome next (λ orders. g.P.Phases.gives c.loop.phases c.loop.out c.next-in-loop.new.self c.next-in-loop.new.out (map order_view orders.items))) c.in-Ok-Some.field-0-is c.in-Ok-Some.ensures.gave in
    let within : All (λ (o : Order). (1 ≤ o.session) × (o.session ≤ g.P.Phases.sessions c.loop.phases)) c.in-Ok-Some.orders.items =
    subst (λ (next : Option (Vec Order)). IfSome next (λ orders. All (λ (o : Order). (1 ≤ o.session) × (o.session ≤ g.P.Phases.sessions c.loop.phases)) orders.items)) c.in-Ok-Some.field-0-is c.in-Ok-Some.ensures.sessions in
    let rise : IsTrue (lines_rise (map order_view c.in-Ok-Some.orders.items)) =
    subst (λ (next : Option (Vec Order)). IfSome next (λ orders. IsTrue (lines_rise (map order_view orders.items)))) c.in-Ok-Some.field-0-is c.in-Ok-Some.ensures.rise in
    let most : g.P.Phases.sessions c.loop.phases ≤ 64 = (let m = i.many in let s = i.sessions in let r = c.requires.sessions in let few = c.requires.ready.many in omega arith) in
    phases_stop g.P.Phases g.O.Output c.args.system.now (at c.args.phases.now c.args.out.now) (at c.loop.phases c.loop.out) (at c.next-in-loop.new.self c.next-in-loop.new.out) c.run_phase.new.out (map order_view c.in-Ok-Some.orders.items)
    c.args.first.now c.loop.first c.run_phase.new.first c.args.lanes.now c.loop.lanes c.run_phase.new.lanes gave i.behind
    c.in-Err-run_phase.fault c.run_phase.ensures.same.commits.4
    (All-map (λ (o : commands.Order). (1 ≤ o.session) × (o.session ≤ 64)) order_view c.in-Ok-Some.orders.items
    (All-weaker (λ (o : Order). (1 ≤ o.session) × (o.session ≤ g.P.Phases.sessions c.loop.phases)) (λ (o : Order). (1 ≤ o.session) × (o.session ≤ 64)) (λ o w. (w.0, (let a = w.1 in omega (arith, most)))) c.in-Ok-Some.orders.items within))
    rise c.in-Err-run_phase.ensures.ended

pub returns-in-Ok-None-clause-ended : goal.returns-in-Ok-None-clause-ended
returns-in-Ok-None-clause-ended g c course under = record {
  now = at c.loop.phases c.loop.out;
  behind = c.loop.invariant.behind course under;
  ended = c.in-Ok-None.ensures.ended c.in-Ok-None.field-0-is;
}

pub returns-in-Err-clause-ended : goal.returns-in-Err-clause-ended
returns-in-Err-clause-ended g c course under = inl (record {
  now = at c.loop.phases c.loop.out;
  behind = c.loop.invariant.behind course under;
  failed = c.in-Err.ensures.failed;
})
