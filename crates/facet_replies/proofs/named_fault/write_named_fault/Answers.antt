use Rattle.std.proofs.Common.{ap, ◌∙◌}
use Rattle.serde_json.specs.Written.{has_float}
use Rattle.facet_replies.proofs.Floats.{named_plain}
use Rattle.facet_replies.proofs.named_fault.write_named_fault.Goals as goal

pub to_line-requires : goal.to_line-requires
to_line-requires c = ap has_float c.in_ok-value.ensures ∙ named_plain c.args.name.now c.args.details.now
