use Rattle.std.proofs.Common.{◌≡◌, ◌∙◌, ◌+◌, ◌/◌, ◌<◌, ap, arith, length, refl, subst, sym}
use Rattle.std.specs.List.{AllByRecursion}
use Rattle.facet_codec.specs.Laws.{IsBelow}
use Rattle.seg_postings.specs.Rising.{IsRising}
use Rattle.query_eval.proofs.Words.{some_left}
use Rattle.facet_model.specs.CountedPaths.{places}
use Rattle.seg_postings.specs.Sets.{without}
use Rattle.sideways.proofs.Passed.{within_docs}
use Rattle.sideways.proofs.part.Part.of_nodes.Goals as goal

pub joined-requires : goal.joined-requires
joined-requires c =
    let full : 0 < c.args.nodes.len = some_left c.args.nodes.len c.if-is_empty.ensures in
    omega arith

pub in_common-requires : goal.in_common-requires
in_common-requires c =
    let docs = c.requires.0 in
    let test = c.requires.1 in
    record {
      within = (docs, test, c.requires.2, c.docs-then-is_empty.ensures.number ∙ c.requires.3.records);
      rise = subst IsRising (sym c.dead.ensures.dead) c.dead.ensures.rise;
      below = subst (λ n. AllByRecursion (IsBelow n) c.dead.result.now) (sym c.docs-then-is_empty.ensures.number) (subst (AllByRecursion (IsBelow (length c.args.segment.now.records))) (sym c.dead.ensures.dead) c.dead.ensures.within);
    }

pub marked-requires : goal.marked-requires
marked-requires c =
    let docs = c.requires.0 in
    let test = c.requires.1 in
    let long : c.docs-then-is_empty.result ≡ length docs = c.docs-then-is_empty.ensures.number ∙ c.requires.3.records in
    record {
      words = c.in_ok-common.ensures.words ∙ ap (λ n. (n + 63) / 64) c.docs-then-is_empty.ensures.number;
      within = within_docs c.args.segment.now docs test c.dead.result.now c.in_ok-common.common.places c.requires.3.records (c.in_ok-common.ensures.places docs test long (c.requires.2));
    }

pub returns-then-is_empty : goal.returns-then-is_empty
returns-then-is_empty c = λ test all. record {
  same = c.marked.ensures.segment;
  left = λ docs are.
      let long : c.docs-then-is_empty.result ≡ length docs = c.docs-then-is_empty.ensures.number ∙ are.records in
      c.marked.ensures.left ∙ c.in_ok-common.ensures.places docs test long (all docs are) ∙ ap (without (places test docs)) c.dead.ensures.dead;
}

pub returns : goal.returns
returns c = λ test all. record {
  same = refl;
  left = λ docs are. c.new.ensures.left ∙ c.in_ok-node-2.ensures ∙ ap (λ xs. without xs c.args.segment.now.dead) (c.in_ok-node.ensures docs test (all docs are));
}

pub invariant_of-result : goal.invariant_of-result
invariant_of-result c =
    let docs = c.requires.0 in
    let test = c.requires.1 in
    within_docs c.args.segment.now docs test c.args.segment.now.dead c.new.result c.requires.3.records (c.new.ensures.left ∙ c.in_ok-node-2.ensures ∙ ap (λ xs. without xs c.args.segment.now.dead) (c.in_ok-node.ensures docs test (c.requires.2)))
