use Rattle.std.proofs.Common.{◌≡◌, ◌∙◌, ◌<◌, length, ap, sym, subst, arith}
use Rattle.std.proofs.lemmas.Bool.{eqb-true}
use Rattle.std.proofs.lemmas.Result.{IfOk-weaker}
use Rattle.std.specs.List.{range_with_len}
use Rattle.facet_model.specs.CountedPaths.{places}
use Rattle.facet_model.specs.Queries.{matches}
use Rattle.facet_model.specs.QueryViews.{query_view}
use Rattle.query_eval.specs.Segments.{AreTests}
use Rattle.query_eval.proofs.Marks.{all_from_place}
use Rattle.query_eval.proofs.Trees.{tree-All, tree-Bool}
use Rattle.query_eval.proofs.Words.{tests_of, any_places, all_places, some_left, every_place}
use Rattle.query_eval.proofs.query.+query_nodes.Goals as goal

pub query_node-all_without-requires : goal.query_node-all_without-requires
query_node-all_without-requires t c =
    let full : 0 < c.in-Bool.must.len = some_left c.in-Bool.must.len c.if-is_empty.ensures in
    let some : 0 < length c.in-Bool.must.items = omega arith in
    subst (λ n. 0 < n) (sym (c.in_ok-all-in-Bool.ensures.number ∙ ap length c.deref-else-is_empty.ensures.value)) some

pub query_node-returns-in-All : goal.query_node-returns-in-All
query_node-returns-in-All t c = λ docs are.
    c.below.ensures ∙ ap (range_with_len 0) (c.docs.ensures.number ∙ are.records) ∙ all_from_place 0 docs ∙ every_place docs ∙ ap (λ q. places (matches q) docs) (sym tree-All) ∙ ap (λ q. places (matches (query_view q)) docs) (sym c.in-All.is)

pub query_node-returns-in_ok-any-in-Bool : goal.query_node-returns-in_ok-any-in-Bool
query_node-returns-in_ok-any-in-Bool t c = IfOk-weaker c.any_without.result _ _ (λ node is. λ docs are.
    let any : AreTests docs (tests_of c.in-Bool.should.items) c.in_ok-any-in-Bool.any.items = subst (λ qs. AreTests docs (tests_of qs) c.in_ok-any-in-Bool.any.items) c.deref-then-is_empty.ensures.value (c.in_ok-any-in-Bool.ensures.tests docs are) in
    let out : AreTests docs (tests_of c.in-Bool.must_not.items) c.in_ok-excluded-in-Bool.excluded.items = subst (λ qs. AreTests docs (tests_of qs) c.in_ok-excluded-in-Bool.excluded.items) c.deref.ensures.value (c.in_ok-excluded-in-Bool.ensures.tests docs are) in
    let empty : c.in-Bool.must.len ≡ 0 = eqb-true c.in-Bool.must.len 0 (sym c.if-is_empty.ensures) in
    let none : length c.in-Bool.must.items ≡ 0 = omega arith in
    is docs (tests_of c.in-Bool.should.items) (tests_of c.in-Bool.must_not.items) any out
    ∙ any_places c.in-Bool.must.items c.in-Bool.should.items c.in-Bool.must_not.items docs none ∙ ap (λ q. places (matches q) docs) (sym (tree-Bool c.in-Bool.must c.in-Bool.should c.in-Bool.must_not)) ∙ ap (λ q. places (matches (query_view q)) docs) (sym c.in-Bool.is)) c.any_without.ensures

pub query_node-returns-in_ok-all-in-Bool : goal.query_node-returns-in_ok-all-in-Bool
query_node-returns-in_ok-all-in-Bool t c = IfOk-weaker c.all_without.result _ _ (λ node is. λ docs are.
    let all : AreTests docs (tests_of c.in-Bool.must.items) c.in_ok-all-in-Bool.all.items = subst (λ qs. AreTests docs (tests_of qs) c.in_ok-all-in-Bool.all.items) c.deref-else-is_empty.ensures.value (c.in_ok-all-in-Bool.ensures.tests docs are) in
    let out : AreTests docs (tests_of c.in-Bool.must_not.items) c.in_ok-excluded-in-Bool.excluded.items = subst (λ qs. AreTests docs (tests_of qs) c.in_ok-excluded-in-Bool.excluded.items) c.deref.ensures.value (c.in_ok-excluded-in-Bool.ensures.tests docs are) in
    let full : 0 < c.in-Bool.must.len = some_left c.in-Bool.must.len c.if-is_empty.ensures in
    let some : 0 < length c.in-Bool.must.items = omega arith in
    is docs (tests_of c.in-Bool.must.items) (tests_of c.in-Bool.must_not.items) all out
    ∙ all_places c.in-Bool.must.items c.in-Bool.should.items c.in-Bool.must_not.items docs some ∙ ap (λ q. places (matches q) docs) (sym (tree-Bool c.in-Bool.must c.in-Bool.should c.in-Bool.must_not)) ∙ ap (λ q. places (matches (query_view q)) docs) (sym c.in-Bool.is)) c.all_without.ensures
