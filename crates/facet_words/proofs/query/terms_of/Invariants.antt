use Rattle.std.proofs.Common.{◌≡◌, map, take}
use Rattle.facet_model.specs.Queries.{term}
use Rattle.facet_model.specs.QueryViews.{query_view}
use Rattle.facet_words.proofs.query.terms_of.Given as goal

abbrev pub invariant-loop-place : goal.invariant-loop-place
invariant-loop-place l = map query_view l.terms.items ≡ map term (take l.place l.words)
