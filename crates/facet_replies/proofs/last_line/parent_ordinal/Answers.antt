use Rattle.std.proofs.Common.{◌∙◌, sym}
use Rattle.facet_replies.proofs.Roots.{below_root}
use Rattle.facet_replies.proofs.last_line.parent_ordinal.Goals as goal

pub returns-in-None : goal.returns-in-None
returns-in-None c = below_root c.args.labels.now c.args.path.now c.requires.root (sym c.in_ok-parent.ensures ∙ c.in-None.is)
