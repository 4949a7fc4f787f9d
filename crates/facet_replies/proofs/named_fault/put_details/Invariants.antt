use Rattle.std.proofs.Common.{◌≡◌, map, drop}
use Rattle.serde_json.specs.View.{members_view}
use Rattle.facet_replies.specs.NamedFaults.{detail_field}
use Rattle.facet_replies.specs.ReplyLines.{with_fields}
use Rattle.facet_replies.proofs.named_fault.put_details.Given as goal

abbrev pub invariant-loop-key : goal.invariant-loop-key
invariant-loop-key l = with_fields (members_view l.fields.entries) (map detail_field (drop l.key-index l.details)) ≡ with_fields (members_view l.fn.fields.entries) (map detail_field l.details)
