use Rattle.std.proofs.Common.{◌≡◌, List, sym, subst, arith}
use Rattle.std.specs.List.{AllZip}
use Rattle.std.specs.Vec.{with_items}
use Rattle.std.proofs.lemmas.List.{with_items_is}
use Rattle.facet_model.specs.QueryViews.{query_view}
use Rattle.sideways.specs.Kept.{HasNear}
use Rattle.sideways.specs.declared.pass.LiftedPass.{LiftedPass}
use Rattle.sideways.proofs.Sets.{all_changed}
use Rattle.sideways.proofs.near.add_walks.Goals as goal

pub returns : goal.returns
returns c =
    let R : LiftedPass → LiftedPass → Type 0 = HasNear (query_view c.args.query.now) c.args.drill.now c.args.segment.now in
    let old : List LiftedPass = c.args.lifted.now.items in
    let now : List LiftedPass = c.loop-one.one-items in
    let items : (with_items c.args.lifted.now now).items ≡ now = with_items_is c.args.lifted.now now (omega (arith, c.loop-one.invariant.len, c.args.lifted.now.ok.0)) in
    subst (AllZip R old) (sym items) (all_changed R c.loop-one.one-index now old c.loop-one.invariant (omega (arith, c.loop-one-test.false, c.loop-one.invariant.len)))
