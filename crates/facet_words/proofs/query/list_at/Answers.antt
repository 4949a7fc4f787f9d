use Rattle.std.proofs.Common.{[], List, Option, Some, map, ap, ◌∙◌}
use Rattle.std.specs.Option.{option_map_or}
use Rattle.serde_json.specs.Data.{Data}
use Rattle.serde_json.specs.View.{view}
use Rattle.serde_json.specs.declared.value.Value.{Value}
use Rattle.facet_words.specs.Shapes.{all_some, list_of}
use Rattle.facet_words.proofs.Traversals.{any_list_read}
use Rattle.facet_words.proofs.query.list_at.Goals as goal

pub returns-in_ok-list-in-Some : goal.returns-in_ok-list-in-Some
returns-in_ok-list-in-Some c shape =
    ap (λ (vs : List Value). all_some (map (λ v. shape (view v)) vs)) c.as_slice.ensures.value
    ∙ any_list_read shape c.in_ok-list-in-Some.list.now.items (view c.in-Some.found.now) c.in_ok-list-in-Some.ensures
    ∙ ap (λ (o : Option Data). option_map_or (list_of shape) o (Some [])) c.in-Some.ensures
