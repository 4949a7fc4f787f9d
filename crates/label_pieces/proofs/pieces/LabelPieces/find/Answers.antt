use Rattle.std.proofs.Common.{◌+◌, ◌++◌, [], List, ℕ, Some, position, length, map, take, drop, refl, sym, ap, subst, ◌∙◌, arith}
use Rattle.std.specs.Arc.{arc_value}
use Rattle.std.specs.List.{flat_map}
use Rattle.std.proofs.lemmas.List.{length-append, take_all}
use Rattle.facet_names.specs.Paths.{path_eq}
use Rattle.label_pieces.proofs.Places.{AllFail, all_fail, is_first, fail_append, found_behind, none_told, joined_more, joined_parts}
use Rattle.label_pieces.proofs.pieces.LabelPieces.find.Goals as goal

abbrev Labels : Type 0
Labels = List (List (List ℕ))

abbrev all_in : List Labels → Labels
all_in ps = flat_map (λ l. l) ps

pub loop-piece-init : goal.loop-piece-init
loop-piece-init c = record { before = refl; none = λ k lt. absurd (omega (arith, lt)) }

pub overflow_add-result : goal.overflow_add-result
overflow_add-result c =
    let items = c.deref-piece-items.result.now in
    let i = c.loop-piece.piece-index in
    let p = c.piece-item.result in
    let whole = ap (λ ps. all_in (map arc_value ps)) c.deref-piece-items.ensures.value ∙ c.self.view_is in
    let inside = ap (λ ps. all_in (map arc_value ps)) c.deref-piece-items.ensures.value in
    let is = ap (position (path_eq c.args.path.now)) (sym c.deref.ensures) ∙ sym c.find.ensures ∙ c.in-Some.is in
    let parts = joined_parts arc_value items i p c.loop-piece-test.true (sym c.piece-item.is) in
    omega (arith, (is_first (path_eq c.args.path.now) [] (arc_value p) c.in-Some.at is).0, c.loop-piece.invariant.before, ap length parts, length-append (all_in (map arc_value (take i items))) (arc_value p ++ all_in (map arc_value (drop (i + 1) items))), length-append (arc_value p) (all_in (map arc_value (drop (i + 1) items))), ap length inside, c.self.invariant.as_many, c.self.invariant.few)

pub returns-in-Some : goal.returns-in-Some
returns-in-Some c =
    let items = c.deref-piece-items.result.now in
    let i = c.loop-piece.piece-index in
    let p = c.piece-item.result in
    let test = path_eq c.args.path.now in
    let whole = ap (λ ps. all_in (map arc_value ps)) c.deref-piece-items.ensures.value ∙ c.self.view_is in
    let inside = ap (λ ps. all_in (map arc_value ps)) c.deref-piece-items.ensures.value in
    let is = ap (position test) (sym c.deref.ensures) ∙ sym c.find.ensures ∙ c.in-Some.is in
    let found = found_behind test [] (all_in (map arc_value (take i items))) (arc_value p) (all_in (map arc_value (drop (i + 1) items))) c.in-Some.at c.loop-piece.invariant.none is in
    ap (λ n. Some (n + c.in-Some.at)) c.loop-piece.invariant.before ∙ sym found ∙ ap (position test) (sym (joined_parts arc_value items i p c.loop-piece-test.true (sym c.piece-item.is)) ∙ whole)

pub overflow_add-before : goal.overflow_add-before
overflow_add-before c =
    let items = c.deref-piece-items.result.now in
    let i = c.loop-piece.piece-index in
    let p = c.piece-item.result in
    let inside = ap (λ ps. all_in (map arc_value ps)) c.deref-piece-items.ensures.value in
    let parts = joined_parts arc_value items i p c.loop-piece-test.true (sym c.piece-item.is) in
    omega (arith, c.len-before.ensures, ap length c.deref-in-loop-piece.ensures, c.loop-piece.invariant.before, ap length parts, length-append (all_in (map arc_value (take i items))) (arc_value p ++ all_in (map arc_value (drop (i + 1) items))), length-append (arc_value p) (all_in (map arc_value (drop (i + 1) items))), ap length inside, c.self.invariant.as_many, c.self.invariant.few)

pub loop-piece-preserved : goal.loop-piece-preserved
loop-piece-preserved c =
    let items = c.deref-piece-items.result.now in
    let i = c.loop-piece.piece-index in
    let p = c.piece-item.result in
    let test = path_eq c.args.path.now in
    let xs = all_in (map arc_value (take i items)) in
    let more = joined_more arc_value items i p c.loop-piece-test.true (sym c.piece-item.is) in
    let is = ap (position test) (sym c.deref.ensures) ∙ sym c.find.ensures ∙ c.in_default.is in
    record {
      before = omega (arith, c.len-before.ensures, ap length c.deref-in-loop-piece.ensures, c.loop-piece.invariant.before, ap length more, length-append xs (arc_value p));
      none = subst (AllFail test []) (sym more) (fail_append test [] xs (arc_value p) c.loop-piece.invariant.none (all_fail test [] (arc_value p) is));
    }

pub returns : goal.returns
returns c =
    let items = c.deref-piece-items.result.now in
    let test = path_eq c.args.path.now in
    let whole = ap (λ ps. all_in (map arc_value ps)) (take_all c.loop-piece.piece-index items c.loop-piece-test.false ∙ c.deref-piece-items.ensures.value) ∙ c.self.view_is in
    sym (none_told test [] c.args.self.now (subst (AllFail test []) whole c.loop-piece.invariant.none))
