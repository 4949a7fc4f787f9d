use Rattle.std.proofs.Common.{map, refl, true, ℕ, List}
use Rattle.std.proofs.lemmas.Bool.{true≢false}
use Rattle.facet_model.specs.ResultViews.{result_view}
use Rattle.sideways.specs.Questions.{docs_of}
use Rattle.sideways.specs.Searches.{question}
use Rattle.sideways.proofs.answer.SidewaysAnswer.all_dims.Goals as goal

pub returns : goal.returns
returns c = λ docs has.
    (map result_view c.order_dims.new.results.items, c.order_dims.ensures (λ (dim : List ℕ). true) c.args.self.now.config (docs_of (question c.args.self.now) docs) c.args.n (λ dim h. absurd (true≢false h)) (c.in_ok-results.ensures docs has), refl)
