use Rattle.std.proofs.Common.{◌≤◌, List, Vec, Global, take, arith, subst, sym}
use Rattle.std.specs.Prelude.{All}
use Rattle.std.proofs.lemmas.List.{take_all}
use Rattle.std.proofs.lemmas.List.Elements.{All-get_or, All-more, All-weaker}
use Rattle.facet_words.specs.declared.command.Order.{Order}
use Rattle.facet_serving.proofs.session_numbers.greatest_session.Goals as goal

pub loop-orders-preserved : goal.loop-orders-preserved
loop-orders-preserved c =
    let phases = c.args.phases.now in
    let at = c.loop-orders.orders-index in
    let item : Vec Order Global = c.orders-item.result in
    let greatest = c.greatest_in-greatest.result in
    let e = c.greatest_in-greatest.ensures in
    record {
      most = e.most;
      no_more = λ n all. e.no_more n (c.loop-orders.invariant.no_more n all)
          (subst (λ (orders : List Order). All (λ (o : Order). o.session ≤ n) orders) (sym c.deref.ensures.value)
          (subst (λ (phase : Vec Order Global). All (λ (o : Order). o.session ≤ n) phase.items) (sym c.orders-item.is)
          (All-get_or (λ (phase : Vec Order Global). All (λ (o : Order). o.session ≤ n) phase.items) phases at item c.loop-orders-test.true all)));
      all = All-more (λ (phase : Vec Order Global). All (λ (o : Order). o.session ≤ greatest) phase.items) phases at item c.loop-orders-test.true
          (All-weaker (λ (phase : Vec Order Global). All (λ (o : Order). o.session ≤ c.loop-orders.greatest) phase.items) (λ (phase : Vec Order Global). All (λ (o : Order). o.session ≤ greatest) phase.items)
          (λ (phase : Vec Order Global) all. All-weaker (λ (o : Order). o.session ≤ c.loop-orders.greatest) (λ (o : Order). o.session ≤ greatest) (λ o le. omega (arith, le, e.least)) phase.items all) (take at phases) c.loop-orders.invariant.all)
          (subst (λ (phase : Vec Order Global). All (λ (o : Order). o.session ≤ greatest) phase.items) c.orders-item.is
          (subst (λ (orders : List Order). All (λ (o : Order). o.session ≤ greatest) orders) c.deref.ensures.value e.all));
    }

pub returns-clause-all : goal.returns-clause-all
returns-clause-all c =
    let phases = c.args.phases.now in
    subst (λ (l : List (Vec Order Global)). All (λ (phase : Vec Order Global). All (λ (o : Order). o.session ≤ c.loop-orders.greatest) phase.items) l)
    (take_all c.loop-orders.orders-index phases (let t = c.loop-orders-test.false in omega (arith, t))) c.loop-orders.invariant.all
