use Rattle.std.proofs.Common.{◌≡◌, ◌∙◌, List, ℕ, length, map, ap, sym, subst, arith}
use Rattle.std.specs.Prelude.{IfOk}
use Rattle.std.specs.List.{AllByRecursion}
use Rattle.std.proofs.lemmas.List.{length-map}
use Rattle.facet_model.specs.Stored.{Stored}
use Rattle.seg_postings.specs.Rising.{IsRising}
use Rattle.seg_file.proofs.Columns.{all_of_them, each_rises}
use Rattle.seg_file.proofs.segment.column_of.Goals as goal

pub of-requires-clause-few : goal.of-requires-clause-few
of-requires-clause-few c =
    let all : c.deref.result.now ≡ map (λ (r : Stored). r.counted) c.args.stored.now.records = c.deref.ensures.value ∙ all_of_them c.args.stored.now c.loop-doc.doc c.loop-doc.lists.items (omega (arith, c.docs-docs.ensures.number)) c.loop-doc.invariant in
    omega (arith, ap length all, length-map c.args.stored.now.records (λ (r : Stored). r.counted), c.docs-docs.ensures.is.few)

pub of-requires-clause-rising : goal.of-requires-clause-rising
of-requires-clause-rising c =
    let all : c.deref.result.now ≡ map (λ (r : Stored). r.counted) c.args.stored.now.records = c.deref.ensures.value ∙ all_of_them c.args.stored.now c.loop-doc.doc c.loop-doc.lists.items (omega (arith, c.docs-docs.ensures.number)) c.loop-doc.invariant in
    subst (AllByRecursion IsRising) (sym all) (each_rises c.args.stored.now.records c.docs-docs.ensures.is.records)

pub returns : goal.returns
returns c =
    let all : c.deref.result.now ≡ map (λ (r : Stored). r.counted) c.args.stored.now.records = c.deref.ensures.value ∙ all_of_them c.args.stored.now c.loop-doc.doc c.loop-doc.lists.items (omega (arith, c.docs-docs.ensures.number)) c.loop-doc.invariant in
    subst (λ (ls : List (List ℕ)). IfOk c.of.result (λ x. x ≡ ls)) all c.of.ensures
