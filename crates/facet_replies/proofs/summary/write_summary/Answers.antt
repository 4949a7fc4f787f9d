use Rattle.std.proofs.Common.{ap, ◌∙◌}
use Rattle.serde_json.specs.Written.{has_float}
use Rattle.facet_replies.specs.SummaryViews.{summary_view}
use Rattle.facet_replies.proofs.Floats.{summary_plain}
use Rattle.facet_replies.proofs.summary.write_summary.Goals as goal

pub to_line-requires : goal.to_line-requires
to_line-requires c = ap has_float c.in_ok-value.ensures ∙ summary_plain (summary_view c.args.summary.now)
