use Rattle.std.proofs.Common.{◌∙◌, ◌++◌, ℕ, List, sym, ap}
use Rattle.std.specs.Prelude.{option_map}
use Rattle.facet_replies.specs.Summaries.{summary_line}
use Rattle.facet_replies.specs.SummaryViews.{summary_view}
use Rattle.facet_serving.proofs.generating.summary_line.Goals as goal

pub returns : goal.returns
returns c replies is = (
  summary_view c.in-Some.summary,
  sym (c.summary.ensures replies is) ∙ ap (option_map summary_view) c.in-Some.is,
  c.in_ok-write_summary.ensures.ok ∙ ap (λ (l : List ℕ). l ++ summary_line (summary_view c.in-Some.summary)) c.new-line.ensures.items,
)
