use Rattle.std.proofs.Common.{◌≡◌, ◌∙◌, subst, sym}
use Rattle.std.proofs.lemmas.Int.{to_z-of_z}
use mir.Syntax.{w64}
use Rattle.facet_counts.specs.Tallies.{AreCounts}
use Rattle.facet_model.specs.Documents.{dim_of}
use Rattle.facet_model.specs.Results.{value_answer}
use Rattle.query_eval.proofs.Paths.{dim_is}
use Rattle.sideways.specs.Questions.{counted_of, docs_of}
use Rattle.sideways.specs.Searches.{question}
use Rattle.sideways.proofs.Ready.{counted_zip}
use Rattle.sideways.proofs.answer.SidewaysAnswer.value_of.Goals as goal

pub returns : goal.returns
returns c = λ docs has.
    let q = question c.args.self.now in
    let path = c.args.path.now in
    let k = c.counts.result.now in
    let dim : c.dim.result.now ≡ dim_of path = sym (dim_is path c.dim.result.now c.dim.ensures) in
    let are : AreCounts k (counted_of q (docs_of q docs (dim_of path))) = subst (λ d. AreCounts k (counted_of q (docs_of q docs d))) dim (c.counts.ensures.counts docs has) in
    let value = to_z-of_z w64 c.specific-value.result (record { sfits = c.specific-value.type_inv })
    ∙ c.specific-value.ensures (docs_of q docs (dim_of path)) docs (counted_of q (docs_of q docs (dim_of path))) are (counted_zip q k c.counts.ensures.labels c.counts.ensures.config c.counts.ensures.list docs has (dim_of path)) (c.in_ok-exists.ensures docs has) in
    λ i. value_answer (c.in_ok-path.ensures i) (value i)
