use Rattle.std.proofs.Common.{◌≡◌, take, map}
use Rattle.serde_json.specs.View.{view}
use Rattle.facet_replies.specs.LastLine.{label_data}
use Rattle.facet_replies.proofs.last_line.labels_value.Given as goal

abbrev pub invariant-loop-path : goal.invariant-loop-path
invariant-loop-path l = map view l.list.items ≡ map (label_data l.labels) (take l.path-index l.added)
