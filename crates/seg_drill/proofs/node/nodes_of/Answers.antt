use Rattle.std.proofs.Common.{◌≡◌, ◌∙◌, ◌&&◌, ◌+◌, List, ℕ, take, get_or, ap, sym, subst, arith, [], ◌∷◌, ◌++◌}
use Rattle.std.proofs.lemmas.List.{take_all}
use Rattle.facet_model.specs.CountedPaths.{places}
use Rattle.facet_model.specs.Documents.{dim_of}
use Rattle.facet_model.specs.Hits.{passes}
use Rattle.facet_model.specs.Queries.{matches}
use Rattle.facet_model.specs.QueryViews.{query_view}
use Rattle.seg_drill.specs.Passing.{AreAllOf, passes_all, passes_each}
use Rattle.facet_names.specs.Texts.{text_in}
use Rattle.seg_drill.proofs.Narrowed.{dim_at, narrowed, passed_over, push_all, same_all}
use Rattle.seg_drill.proofs.node.nodes_of.Goals as goal
use Rattle.seg_drill.proofs.node.nodes_of.Goals.{then-is_first+in_ok-push_paths, else-is_first}

pub loop-at-preserved : goal.loop-at-preserved
loop-at-preserved c = λ docs are.
    let q = query_view c.args.query.now in
    let drill : List (List (List ℕ)) = c.paths-paths.result.now in
    let lift = text_in c.args.lifted in
    let i : ℕ = c.loop-at.at in
    elim c.if-is_first.branch [
      | then-is_first+in_ok-push_paths w ↦
          let dim : dim_of (get_or drill i []) ≡ w.dim.result.now = dim_at drill i c.index-paths-at.result w.dim.result.now (omega arith) c.index-paths-at.is w.dim.ensures in
          subst (AreAllOf docs (λ doc. matches q doc && passes_each drill lift (take (i + 1) drill) doc)) (sym (ap (λ v. v.items) w.nodes-is ∙ w.in_ok-push_paths.ensures.items))
          (same_all docs (λ doc. (matches q doc && passes_each drill lift (take i drill) doc) && passes doc drill w.dim.result.now) (λ doc. matches q doc && passes_each drill lift (take (i + 1) drill) doc) (c.loop-at.nodes.items ++ w.in_ok-push_paths.ensures.node ∷ [])
          (λ doc. narrowed drill lift (matches q doc) doc i w.dim.result.now (omega arith) dim (sym c.is_first.ensures ∙ w.if-is_first.true))
          (push_all docs (λ doc. matches q doc && passes_each drill lift (take i drill) doc) (λ doc. passes doc drill w.dim.result.now) c.loop-at.nodes.items w.in_ok-push_paths.ensures.node (c.loop-at.invariant docs are)
          (subst (λ ps. w.in_ok-push_paths.ensures.node.left ≡ places (λ doc. passes doc ps w.dim.result.now) docs) (sym c.paths-paths.ensures.paths) (w.in_ok-push_paths.ensures.left docs are))))
      | else-is_first w ↦
          subst (AreAllOf docs (λ doc. matches q doc && passes_each drill lift (take (i + 1) drill) doc)) (sym (ap (λ v. v.items) w.nodes-is))
          (same_all docs (λ doc. matches q doc && passes_each drill lift (take i drill) doc) (λ doc. matches q doc && passes_each drill lift (take (i + 1) drill) doc) c.loop-at.nodes.items
          (λ doc. passed_over drill lift (matches q doc) doc i (omega arith) (sym c.is_first.ensures ∙ w.if-is_first.false)) (c.loop-at.invariant docs are))
    ]

pub returns : goal.returns
returns c = λ docs are.
    let q = query_view c.args.query.now in
    let lift = text_in c.args.lifted in
    let paths : List (List (List ℕ)) = c.paths-paths.result.now in
    subst (λ ps. AreAllOf docs (passes_all q ps lift) c.loop-at.nodes.items) c.paths-paths.ensures.paths
    (subst (λ ps. AreAllOf docs (λ doc. matches q doc && passes_each paths lift ps doc) c.loop-at.nodes.items) (take_all c.loop-at.at paths (omega arith)) (c.loop-at.invariant docs are))
