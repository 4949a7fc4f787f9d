use Rattle.std.proofs.Common.{◌≡◌, subst, sym}
use Rattle.std.specs.Prelude.{option_map}
use Rattle.std.proofs.lemmas.Result.{IfOk-weaker}
use Rattle.facet_counts.specs.Tallies.{AreCounts}
use Rattle.facet_model.specs.Documents.{dim_of}
use Rattle.facet_model.specs.ResultViews.{result_view}
use Rattle.facet_model.specs.Results.{IsTop}
use Rattle.query_eval.proofs.Paths.{dim_is}
use Rattle.sideways.specs.Questions.{counted_of, docs_of}
use Rattle.sideways.specs.Searches.{question}
use Rattle.sideways.proofs.Ready.{counted_zip}
use Rattle.sideways.proofs.answer.SidewaysAnswer.top_of.Goals as goal

pub returns : goal.returns
returns c = IfOk-weaker c.top.result _ _ (λ r top. λ docs has.
    let q = question c.args.self.now in
    let path = c.args.path.now in
    let k = c.counts.result.now in
    let dim : c.dim.result.now ≡ dim_of path = sym (dim_is path c.dim.result.now c.dim.ensures) in
    let are : AreCounts k (counted_of q (docs_of q docs (dim_of path))) = subst (λ d. AreCounts k (counted_of q (docs_of q docs d))) dim (c.counts.ensures.counts docs has) in
    subst (λ config. IsTop config (docs_of q docs (dim_of path)) path c.args.n (option_map result_view r)) c.counts.ensures.config
    (top (docs_of q docs (dim_of path)) (counted_of q (docs_of q docs (dim_of path))) are (counted_zip q k c.counts.ensures.labels c.counts.ensures.config c.counts.ensures.list docs has (dim_of path)))) c.top.ensures
