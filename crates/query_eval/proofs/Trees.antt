-- The tree of a query, one level at a time.
use Rattle.std.proofs.Common.{◌≡◌, map, sym, ap, ◌∙◌}
use Rattle.std.specs.declared.vec.Vec.{Vec}
use Rattle.std.specs.declared.alloc.Global.{Global}
use Rattle.facet_model.specs.Queries.{QueryTree, all, bool, queries}
use Rattle.facet_model.specs.QueryViews.{query_step, query_view}
use Rattle.facet_model.specs.declared.query.Query.{Query, Query-F, fold-roll-Query}
use Rattle.facet_model.specs.declared.query.Query.TheVariants.{All, Bool, rolls-All, rolls-Bool}

pub tree-All : query_view All ≡ all
tree-All = ap query_view (sym rolls-All) ∙ fold-roll-Query QueryTree query_step Query-F.All

pub tree-Bool : (must should must_not : Vec Query Global) → query_view (Bool must should must_not) ≡ bool (queries (map query_view must.items)) (queries (map query_view should.items)) (queries (map query_view must_not.items))
tree-Bool must should must_not = ap query_view (sym (rolls-Bool must should must_not)) ∙ fold-roll-Query QueryTree query_step (Query-F.Bool must should must_not)
