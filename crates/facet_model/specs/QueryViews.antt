-- The plain data of queries.
use Rattle.facet_model.specs.declared.query.Query.{Query, fold-Query}
use Rattle.facet_model.specs.declared.query.Query.TheOpen.{Query-F}
use Rattle.facet_model.specs.Queries.{QueryTree, all, term, bool, queries}

-- one level, with each query inside given as its tree
abbrev pub query_step : Query-F QueryTree → QueryTree
query_step Query-F.All = all
query_step (Query-F.Term word) = term word
query_step (Query-F.Bool must should must_not) = bool (queries must.items) (queries should.items)
    (queries must_not.items)

abbrev pub query_view : Query → QueryTree
query_view = fold-Query QueryTree query_step
