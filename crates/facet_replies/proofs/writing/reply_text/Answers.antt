use Rattle.std.proofs.Common.{ap, ◌∙◌}
use Rattle.serde_json.specs.Written.{has_float}
use Rattle.facet_replies.specs.ReplyViews.{reply_view}
use Rattle.facet_replies.proofs.Floats.{reply_plain}
use Rattle.facet_replies.proofs.writing.reply_text.Goals as goal

pub to_line-requires : goal.to_line-requires
to_line-requires c = ap has_float c.in_ok-value.ensures ∙ reply_plain c.args.session c.args.line (reply_view c.args.reply.now)
