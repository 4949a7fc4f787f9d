use Rattle.std.proofs.Common.{◌≡◌, ◌∙◌, Some, ap, length, refl}
use Rattle.facet_model.specs.Hits.{passes}
use Rattle.facet_model.specs.QueryViews.{query_view}
use Rattle.seg_postings.specs.Sets.{without}
use Rattle.seg_drill.specs.Passing.{passes_all}
use Rattle.sideways.specs.Counted.{is_near}
use Rattle.sideways.proofs.Passed.{within_docs}
use Rattle.sideways.proofs.part.Part.near.Goals as goal

pub invariant_of-result : goal.invariant_of-result
invariant_of-result c =
    let docs = c.requires.0 in
    let query = query_view c.args.query.now in
    let long : c.docs.result ≡ length docs = c.docs.ensures.number ∙ c.requires.1.records in
    within_docs c.args.segment.now docs (is_near query c.args.drill.now c.args.dim.now) c.args.segment.now.dead c.new.result c.requires.1.records
    (c.new.ensures.left ∙ c.in_ok-node-2.ensures ∙ ap (λ xs. without xs c.args.segment.now.dead) (c.in_ok-node.ensures docs (passes_all query c.args.drill.now (Some c.args.dim.now)) (λ doc. passes doc c.args.drill.now c.args.dim.now) long (c.in_ok-nodes.ensures docs c.requires.1) (c.in_ok-own.ensures docs c.requires.1)))

pub returns : goal.returns
returns c = record {
  same = refl;
  left = λ docs are.
      let query = query_view c.args.query.now in
      let long : c.docs.result ≡ length docs = c.docs.ensures.number ∙ are.records in
      c.new.ensures.left ∙ c.in_ok-node-2.ensures ∙ ap (λ xs. without xs c.args.segment.now.dead) (c.in_ok-node.ensures docs (passes_all query c.args.drill.now (Some c.args.dim.now)) (λ doc. passes doc c.args.drill.now c.args.dim.now) long (c.in_ok-nodes.ensures docs are) (c.in_ok-own.ensures docs are));
}
