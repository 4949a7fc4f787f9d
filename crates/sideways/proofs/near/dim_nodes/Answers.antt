use Rattle.std.proofs.Common.{◌+◌, ◌≡◌, List, ℕ, map, take, subst, sym, arith}
use Rattle.std.specs.Prelude.{Bool}
use Rattle.std.proofs.lemmas.List.{take_all}
use Rattle.facet_model.specs.CountedPaths.{places}
use Rattle.facet_model.specs.Documents.{Doc}
use Rattle.facet_model.specs.Hits.{passes}
use Rattle.plan_places.specs.Planned.{Planned}
use Rattle.sideways.specs.Counted.{AreNodesFor}
use Rattle.sideways.specs.declared.pass.LiftedPass.{LiftedPass}
use Rattle.sideways.proofs.Gathered.{zip_more}
use Rattle.sideways.proofs.near.dim_nodes.Goals as goal

pub loop-one-preserved : goal.loop-one-preserved
loop-one-preserved c = λ docs are.
    let drill : List (List (List ℕ)) = c.args.drill.now in
    subst (AreNodesFor docs (map (λ (x : LiftedPass) doc. passes doc drill x.dim.now) (take (c.loop-one.one-index + 1) c.args.lifted.now))) (sym c.in_ok-push_paths.ensures.items)
    (zip_more (λ (test : Doc → Bool) (p : Planned). p.left ≡ places test docs) (λ (x : LiftedPass) doc. passes doc drill x.dim.now) c.args.lifted.now c.loop-one.one-index c.one-item.result c.loop-one.nodes.items c.in_ok-push_paths.ensures.node (omega arith) c.one-item.is
    (c.loop-one.invariant docs are) (c.in_ok-push_paths.ensures.left docs are))

pub returns : goal.returns
returns c = λ docs are.
    subst (λ ls. AreNodesFor docs (map (λ (x : LiftedPass) doc. passes doc c.args.drill.now x.dim.now) ls) c.loop-one.nodes.items) (take_all c.loop-one.one-index c.args.lifted.now (omega arith)) (c.loop-one.invariant docs are)
