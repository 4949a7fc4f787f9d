use Rattle.std.proofs.Common.{ap, ◌∙◌}
use Rattle.serde_json.specs.Written.{has_float}
use Rattle.facet_replies.proofs.Floats.{last_plain}
use Rattle.facet_replies.proofs.last_line.write_last_line.Goals as goal

pub to_line-requires : goal.to_line-requires
to_line-requires c = ap has_float c.in_ok-value.ensures ∙ last_plain c.args.documents c.args.opened c.args.labels.now c.args.sessions.now
