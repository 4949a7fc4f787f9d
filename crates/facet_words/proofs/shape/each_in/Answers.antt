use Rattle.std.proofs.Common.{◌≡◌, ◌∙◌, Some, get_or, option_map, ap, sym}
use Rattle.serde_json.specs.View.{view}
use Rattle.facet_words.proofs.Traversals.{one_longer, read_more, read_all}
use Rattle.facet_words.proofs.shape.each_in.Goals as goal

pub loop-value-preserved : goal.loop-value-preserved
loop-value-preserved g c =
    let list = c.args.list.now in
    let i = c.loop-value.value-index in
    let at : g.T.Shaped.shape (view (get_or list i c.value-item.result)) ≡ Some (g.T.Shaped.plain c.in-Some.item) =
    ap (λ v. g.T.Shaped.shape (view v)) (sym c.value-item.is) ∙ sym c.in_ok-item.ensures ∙ ap (option_map g.T.Shaped.plain) c.in-Some.is in
    record {
      part = read_more g.T.Shaped.plain (λ v. g.T.Shaped.shape (view v)) list i c.value-item.result c.loop-value.out.items c.push.new.self.items c.in-Some.item c.loop-value.invariant.part c.loop-value-test.true at c.in_ok-push.ensures.items;
      count = one_longer c.loop-value.out.items c.push.new.self.items c.in-Some.item i c.in_ok-push.ensures.items c.loop-value.invariant.count;
    }

pub returns-clause-each : goal.returns-clause-each
returns-clause-each g c = read_all g.T.Shaped.plain (λ v. g.T.Shaped.shape (view v)) c.args.list.now c.loop-value.value-index c.loop-value.out.items c.loop-value.invariant.part c.loop-value-test.false
