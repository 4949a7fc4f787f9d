use Rattle.std.proofs.Common.{◌≡◌, ◌∙◌, ◌||◌, [], ℕ, List, true, get_or, map, ap, sym, subst, arith}
use Rattle.std.specs.List.{AllByRecursion, list_any}
use Rattle.std.specs.Str.{bytes_eq}
use Rattle.facet_model.specs.Documents.{dim_of}
use Rattle.sideways.specs.Counted.{ArePartsOf, is_drilled, is_near}
use Rattle.sideways.specs.Kept.{AreDistinct, IsLiftedOf, dim_in}
use Rattle.sideways.specs.Searches.{question_of}
use Rattle.sideways.specs.declared.pass.LiftedPass.{LiftedPass}
use Rattle.sideways.proofs.Gathered.{any_push, covers_more, covers_same, distinct_push, drilled_at, not_again}
use Rattle.seg_drill.proofs.Narrowed.{dim_at}
use Rattle.sideways.proofs.plan.lifted_passes.Goals as goal
use Rattle.sideways.proofs.plan.lifted_passes.Goals.{then-is_first+in_ok-pass+in_ok-push, else-is_first}
use Rattle.facet_codec.proofs.Lists.{each_push}

pub loop-at-preserved : goal.loop-at-preserved
loop-at-preserved c =
    let q = question_of c.args.view.now c.args.config.now c.args.segments.now c.args.ask.now in
    let drill : List (List (List ℕ)) = c.paths-drill.result.now in
    let i : ℕ = c.loop-at.at in
    elim c.if-is_first.branch [
      | then-is_first+in_ok-pass+in_ok-push w ↦
          let dim : dim_of (get_or drill i []) ≡ w.dim-dim.result.now = dim_at drill i c.index-drill-at.result w.dim-dim.result.now (omega arith) c.index-drill-at.is w.dim-dim.ensures in
          let items = ap (λ v. v.items) w.lifted-is ∙ w.in_ok-push.ensures.items in
          let first : is_drilled q.drill w.dim-dim.result.now ≡ true = ap (λ (p : List (List (List ℕ))). is_drilled p w.dim-dim.result.now) (sym c.paths-drill.ensures.paths) ∙ drilled_at drill i w.dim-dim.result.now (omega arith) dim in
          record {
            each = subst (AllByRecursion (λ (p : LiftedPass). IsLiftedOf q [] p)) (sym items) (each_push (λ (p : LiftedPass). IsLiftedOf q [] p) c.loop-at.lifted.items _ c.loop-at.invariant.each (record {
              drilled = first;
              pass = record {
                parts = subst (ArePartsOf (is_near q.query q.drill w.dim-dim.result.now) []) (sym w.in_ok-pass.ensures.none) tt;
                fresh = w.in_ok-pass.ensures.fresh;
                labels = w.in_ok-pass.ensures.labels;
                config = w.in_ok-pass.ensures.config;
              };
            }));
            covers = λ d. ap (list_any (λ (p : LiftedPass). bytes_eq p.dim.now d)) items ∙ any_push (λ (p : LiftedPass). bytes_eq p.dim.now d) c.loop-at.lifted.items _ ∙ ap (λ b. b || bytes_eq w.dim-dim.result.now d) (c.loop-at.invariant.covers d) ∙ covers_more drill i d w.dim-dim.result.now (omega arith) dim;
            distinct = subst (λ (ls : List LiftedPass). AreDistinct (map dim_in ls)) (sym items) (distinct_push c.loop-at.lifted.items _ c.loop-at.invariant.distinct
                (c.loop-at.invariant.covers w.dim-dim.result.now ∙ not_again drill i w.dim-dim.result.now dim (sym c.is_first.ensures ∙ w.if-is_first.true)));
          }
      | else-is_first w ↦
          record {
            each = subst (AllByRecursion (λ (p : LiftedPass). IsLiftedOf q [] p)) (sym (ap (λ v. v.items) w.lifted-is)) c.loop-at.invariant.each;
            covers = λ d. ap (λ v. list_any (λ (p : LiftedPass). bytes_eq p.dim.now d) v.items) w.lifted-is ∙ c.loop-at.invariant.covers d ∙ covers_same drill i d (omega arith) (sym c.is_first.ensures ∙ w.if-is_first.false);
            distinct = subst (λ (ls : List LiftedPass). AreDistinct (map dim_in ls)) (sym (ap (λ v. v.items) w.lifted-is)) c.loop-at.invariant.distinct;
          }
    ]
