use Rattle.std.proofs.Common.{◌≡◌, take, map}
use Rattle.serde_json.specs.View.{view}
use Rattle.facet_replies.proofs.values.list_value.Given as goal

abbrev pub invariant-loop-item : goal.invariant-loop-item
invariant-loop-item g l = map view l.list.items ≡ map g.T.ToValue.json (map g.T.ToValue.plain (take l.item-index l.items))
