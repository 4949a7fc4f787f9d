use Rattle.std.proofs.Common.{◌≡◌, ◌∙◌, ◌+◌, ◌++◌, ◌∷◌, ◌<◌, [], List, ℕ, Some, length, slice_get, take, ap, refl, sym, subst, arith}
use Rattle.std.specs.Prelude.{filter}
use Rattle.std.specs.Str.{bytes_eq}
use Rattle.std.proofs.lemmas.List.{take_all}
use Rattle.std.proofs.lemmas.Option.{slice_get_read, slice_get_within}
use Rattle.facet_model.specs.Documents.{has}
use Rattle.query_eval.specs.Segments.{AreTests}
use Rattle.query_eval.proofs.Chosen.{tests_push}
use Rattle.query_eval.proofs.Paths.{has_tests, has_places, is_of, paths_more, paths_same, passes_places, dim_is}
use Rattle.query_eval.proofs.drill.paths_node.Goals as goal
use Rattle.query_eval.proofs.drill.paths_node.Goals.{then-eq+in_ok-push, else-eq}

pub loop-at-preserved : goal.loop-at-preserved
loop-at-preserved c = λ docs are.
    let paths : List (List (List ℕ)) = c.paths-paths.result.now in
    let i : ℕ = c.loop-at.at in
    let path : List (List ℕ) = c.index-paths-at.result in
    let lt : i < length paths = omega arith in
    let dim = ap (λ d. bytes_eq d c.args.dim.now) (dim_is path c.dim.result.now c.dim.ensures) in
    let some : 0 < length path = slice_get_within path 0 c.dim.result.now c.dim.ensures in
    let there : slice_get c.args.drill.now i ≡ Some path = ap (λ ps. slice_get ps i) (sym c.paths-paths.ensures.paths) ∙ slice_get_read paths (length paths) i path refl lt c.index-paths-at.is in
    let before = c.loop-at.invariant docs are in
    elim c.if-eq.branch [
      | then-eq+in_ok-push w ↦
          subst (AreTests docs (has_tests (filter (is_of c.args.dim.now) (take (i + 1) paths)))) (sym (ap (λ v. v.items) w.nodes-is ∙ w.in_ok-push.ensures.items))
          (subst (λ tests. AreTests docs tests (c.loop-at.nodes.items ++ w.term_node-node.result ∷ [])) (sym (paths_more paths c.args.dim.now i path lt (sym c.index-paths-at.is) (dim ∙ sym w.if-eq.ensures)))
          (tests_push docs (has_tests (filter (is_of c.args.dim.now) (take i paths))) c.loop-at.nodes.items (λ doc. has doc path) w.term_node-node.result before
          (w.term_node-node.ensures docs are ∙ has_places path docs some w.term.result.now (w.term.ensures path there))))
      | else-eq w ↦
          subst (AreTests docs (has_tests (filter (is_of c.args.dim.now) (take (i + 1) paths)))) (sym (ap (λ v. v.items) w.nodes-is))
          (subst (λ tests. AreTests docs tests c.loop-at.nodes.items) (sym (paths_same paths c.args.dim.now i path lt (sym c.index-paths-at.is) (dim ∙ sym w.if-eq.ensures))) before)
    ]

pub returns : goal.returns
returns c = λ docs are.
    let paths : List (List (List ℕ)) = c.paths-paths.result.now in
    let whole : take c.loop-at.at paths ≡ c.args.drill.now = take_all c.loop-at.at paths (omega arith) ∙ c.paths-paths.ensures.paths in
    c.any_node.ensures docs (has_tests (filter (is_of c.args.dim.now) c.args.drill.now)) (subst (λ ps. AreTests docs (has_tests (filter (is_of c.args.dim.now) ps)) c.loop-at.nodes.items) whole (c.loop-at.invariant docs are)) ∙ passes_places c.args.drill.now c.args.dim.now docs
