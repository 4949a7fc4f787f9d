use Rattle.std.proofs.Common.{◌≤◌, ℕ, List, take, arith, subst, sym, rules}
use Rattle.std.specs.Prelude.{All}
use Rattle.std.proofs.lemmas.List.{take_all}
use Rattle.std.proofs.lemmas.List.Elements.{All-get_or, All-more, All-weaker}
use Rattle.facet_words.specs.declared.command.Order.{Order}
use Rattle.facet_serving.proofs.session_numbers.greatest_in.Goals as goal

pub loop-order-preserved : goal.loop-order-preserved
loop-order-preserved c =
    let orders = c.args.orders.now in
    let at = c.loop-order.order-index in
    let item : Order = c.order-item.result in
    let greatest = c.max-greatest.result in
    let more : c.loop-order.greatest ≤ greatest = search (rules, arith) in
    let here : item.session ≤ greatest = search (rules, arith) in
    let either : (n : ℕ) → c.loop-order.greatest ≤ n → item.session ≤ n → greatest ≤ n = λ n old new. search (rules, arith) in
    record {
      least = search (rules, arith);
      most = search (rules, arith);
      no_more = λ n from all. either n (c.loop-order.invariant.no_more n from all)
          (subst (λ (o : Order). o.session ≤ n) (sym c.order-item.is) (All-get_or (λ (o : Order). o.session ≤ n) orders at item c.loop-order-test.true all));
      all = All-more (λ (o : Order). o.session ≤ greatest) orders at item c.loop-order-test.true
          (All-weaker (λ (o : Order). o.session ≤ c.loop-order.greatest) (λ (o : Order). o.session ≤ greatest) (λ o le. omega (arith, le, more)) (take at orders) c.loop-order.invariant.all)
          (subst (λ (o : Order). o.session ≤ greatest) c.order-item.is here);
    }

pub returns-clause-all : goal.returns-clause-all
returns-clause-all c =
    let orders = c.args.orders.now in
    let at = c.loop-order.order-index in
    subst (λ (l : List Order). All (λ (o : Order). o.session ≤ c.loop-order.greatest) l) (take_all at orders (let t = c.loop-order-test.false in omega (arith, t))) c.loop-order.invariant.all
