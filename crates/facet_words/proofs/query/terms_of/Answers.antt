use Rattle.std.proofs.Common.{◌≡◌, sym, ap, ◌∙◌, arith}
use Rattle.facet_model.specs.declared.query.Query.{Query-F, fold-roll-Query}
use Rattle.facet_model.specs.declared.query.Query.TheVariants.{Term, rolls-Term}
use Rattle.facet_model.specs.Queries.{QueryTree, term}
use Rattle.facet_model.specs.QueryViews.{query_step, query_view}
use Rattle.facet_words.proofs.WordLengths.{terms_more}
use Rattle.facet_words.proofs.query.terms_of.Goals as goal

pub loop-place-preserved : goal.loop-place-preserved
loop-place-preserved c =
    let is : query_view (Term c.in-Some.word) ≡ term c.in-Some.word = ap query_view (sym (rolls-Term c.in-Some.word)) ∙ fold-roll-Query QueryTree query_step (Query-F.Term c.in-Some.word) in
    terms_more c.args.words.now c.loop-place.place c.at.result.now c.in-Some.word c.loop-place.terms.items c.push.new.self.items (Term c.in-Some.word)
    (omega (arith, c.loop-place-test.true)) c.at.ensures (sym c.in-Some.is ∙ c.in_ok-word.ensures.ok) c.loop-place.invariant is c.in_ok-push-in-Some.ensures.items
