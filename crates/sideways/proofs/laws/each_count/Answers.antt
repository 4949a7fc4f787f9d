use Rattle.std.proofs.Common.{◌≡◌, ◌∙◌, ◌||◌, [], ℕ, List, Some, get_or, ap, sym, subst, arith}
use Rattle.std.specs.List.{AllByRecursion, list_any}
use Rattle.std.specs.Str.{bytes_eq}
use Rattle.facet_model.specs.Documents.{dim_of}
use Rattle.sideways.specs.Kept.{AreCountsOf}
use Rattle.sideways.specs.Searches.{question_of}
use Rattle.sideways.specs.declared.pass.LiftedCounts.{LiftedCounts}
use Rattle.sideways.proofs.Gathered.{any_push, covers_more, covers_same}
use Rattle.seg_drill.proofs.Narrowed.{dim_at}
use Rattle.sideways.proofs.laws.each_count.Goals as goal
use Rattle.sideways.proofs.laws.each_count.Goals.{then-is_first+in_ok-counts+in_ok-push, else-is_first}
use Rattle.facet_codec.proofs.Lists.{each_push}

pub loop-at-preserved : goal.loop-at-preserved
loop-at-preserved c =
    let q = question_of c.args.view.now c.args.config.now c.args.segments.now c.args.ask.now in
    let drill : List (List (List ℕ)) = c.paths-drill.result.now in
    let i : ℕ = c.loop-at.at in
    elim c.if-is_first.branch [
      | then-is_first+in_ok-counts+in_ok-push w ↦
          let dim : dim_of (get_or drill i []) ≡ w.dim-dim.result.now = dim_at drill i c.index-drill-at.result w.dim-dim.result.now (omega arith) c.index-drill-at.is w.dim-dim.ensures in
          let items = ap (λ v. v.items) w.counted-is ∙ w.in_ok-push.ensures.items in
          record {
            each = subst (AllByRecursion (λ (k : LiftedCounts). AreCountsOf q (Some k.dim.now) k.counts)) (sym items) (each_push (λ (k : LiftedCounts). AreCountsOf q (Some k.dim.now) k.counts) c.loop-at.counted.items _ c.loop-at.invariant.each w.in_ok-counts.ensures);
            covers = λ d. ap (list_any (λ (k : LiftedCounts). bytes_eq k.dim.now d)) items ∙ any_push (λ (k : LiftedCounts). bytes_eq k.dim.now d) c.loop-at.counted.items _ ∙ ap (λ b. b || bytes_eq w.dim-dim.result.now d) (c.loop-at.invariant.covers d) ∙ covers_more drill i d w.dim-dim.result.now (omega arith) dim;
          }
      | else-is_first w ↦
          record {
            each = subst (AllByRecursion (λ (k : LiftedCounts). AreCountsOf q (Some k.dim.now) k.counts)) (sym (ap (λ v. v.items) w.counted-is)) c.loop-at.invariant.each;
            covers = λ d. ap (λ v. list_any (λ (k : LiftedCounts). bytes_eq k.dim.now d) v.items) w.counted-is ∙ c.loop-at.invariant.covers d ∙ covers_same drill i d (omega arith) (sym c.is_first.ensures ∙ w.if-is_first.false);
          }
    ]
