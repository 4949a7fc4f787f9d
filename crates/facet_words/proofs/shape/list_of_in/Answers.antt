use Rattle.std.proofs.Common.{◌≡◌, List, Option, map, subst, option_map}
use Rattle.std.specs.Prelude.{IfOk}
use Rattle.serde_json.specs.View.{view}
use Rattle.serde_json.specs.declared.value.Value.{Value}
use Rattle.facet_words.specs.Shapes.{all_some}
use Rattle.facet_words.proofs.Traversals.{any_list_read}
use Rattle.facet_words.proofs.shape.list_of_in.Goals as goal

pub returns : goal.returns
returns g c =
    let list = c.in-Some.list.now in
    let read = any_list_read g.T.Shaped.shape list.items (view c.args.value.now) c.in-Some.ensures in
    subst (λ (all : Option (List g.T.Shaped.Plain)). IfOk c.each_in.result (λ o. option_map (λ v. map g.T.Shaped.plain v.items) o ≡ all)) read
    (subst (λ (vs : List Value). IfOk c.each_in.result (λ o. option_map (λ v. map g.T.Shaped.plain v.items) o ≡ all_some (map (λ v. g.T.Shaped.shape (view v)) vs))) c.deref.ensures.value c.each_in.ensures.each)
