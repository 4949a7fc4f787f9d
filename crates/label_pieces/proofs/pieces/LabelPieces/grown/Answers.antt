use Rattle.std.proofs.Common.{◌≤◌, ◌-◌, ◌∙◌, length, map, take, drop, sym, ap, subst, arith}
use mathlib.Core.List.{IsPrefix}
use Rattle.std.specs.Arc.{arc_value}
use Rattle.std.proofs.lemmas.List.{length-map, length-take-le, length-drop, take-map}
use Rattle.label_pieces.specs.Pieces.{joined}
use Rattle.label_pieces.proofs.Differ.{range_differ}
use Rattle.label_pieces.proofs.Growing.{AreSoFar, piece_more, most_stay, stay_few, not_less, kept_so_far, all_labels, all_pieces}
use Rattle.label_pieces.proofs.pieces.LabelPieces.grown.Goals as goal

pub shared-requires : goal.shared-requires
shared-requires g c =
    let items = c.self.inside.pieces.items in
    let kept = c.in_ok-kept.kept in
    let within : kept ≤ length (map arc_value items) = omega (arith, c.in_ok-kept.ensures.within, ap length c.deref.ensures.value, length-map items arc_value) in
    let front = ap (λ l. length (joined (map arc_value (take kept l)))) c.deref-2.ensures.value ∙ ap (λ l. length (joined l)) (sym (take-map arc_value kept items)) in
    omega (arith, front, stay_few (map arc_value items) c.self.inside.size c.self.invariant kept c.in_ok-kept.ensures.full within, c.self.invariant.few)

pub loop-from-init : goal.loop-from-init
loop-from-init g c =
    let items = c.self.inside.pieces.items in
    let all = c.args.all.now in
    let kept = c.in_ok-kept.kept in
    let within : kept ≤ length (map arc_value items) = omega (arith, c.in_ok-kept.ensures.within, ap length c.deref.ensures.value, length-map items arc_value) in
    let front = ap (λ l. map arc_value (take kept l)) c.deref-2.ensures.value ∙ sym (take-map arc_value kept items) in
    let prefix = subst (λ l. IsPrefix l all) (sym c.self.view_is) c.requires.prefix in
    let so_far = kept_so_far (map arc_value items) c.self.inside.size c.self.invariant kept c.in_ok-kept.ensures.full within all prefix c.in_ok-kept.ensures.whole in
    let size = c.in_ok-pieces.ensures.size ∙ ap (λ l. length (joined l)) front in
    record {
      pieces = subst (λ l. AreSoFar l all c.in_ok-pieces.start) (sym (c.in_ok-pieces.ensures.pieces ∙ front)) (subst (AreSoFar (take kept (map arc_value items)) all) (sym size) so_far);
      steps = omega arith;
    }

pub push_piece-requires-clause-differ : goal.push_piece-requires-clause-differ
push_piece-requires-clause-differ g c = range_differ c.args.all.now c.requires.differ c.loop-from.from c.piece_end-to.result (omega (arith, c.piece_end-to.ensures.some)) c.piece_end-to.ensures.within

pub returns-in_err-push_piece-clause-steps : goal.returns-in_err-push_piece-clause-steps
returns-in_err-push_piece-clause-steps g c =
    let items = c.self.inside.pieces.items in
    let all = c.args.all.now in
    let kept = c.in_ok-kept.kept in
    let from = c.loop-from.from in
    let to = c.piece_end-to.result in
    let within : kept ≤ length (map arc_value items) = omega (arith, c.in_ok-kept.ensures.within, ap length c.deref.ensures.value, length-map items arc_value) in
    let front = ap (λ l. map arc_value (take kept l)) c.deref-2.ensures.value ∙ sym (take-map arc_value kept items) in
    let prefix = subst (λ l. IsPrefix l all) (sym c.self.view_is) c.requires.prefix in
    let size = c.in_ok-pieces.ensures.size ∙ ap (λ l. length (joined l)) front in
    let part = length-take-le (to - from) (drop from all) (omega (arith, length-drop from all, c.piece_end-to.ensures.within, c.piece_end-to.ensures.some)) in
    omega (arith, c.push_piece.ensures.steps, part, c.piece_end-to.ensures.within, c.piece_end-to.ensures.some, c.loop-from.invariant.steps, size, most_stay (map arc_value items) c.self.inside.size c.self.invariant kept c.in_ok-kept.ensures.full within, not_less (map arc_value items) c.self.inside.size c.self.invariant kept c.in_ok-kept.ensures.full within all prefix, c.self.invariant.as_many, ap length c.self.view_is)

pub loop-from-preserved : goal.loop-from-preserved
loop-from-preserved g c =
    let all = c.args.all.now in
    let from = c.loop-from.from in
    let to = c.piece_end-to.result in
    let part = length-take-le (to - from) (drop from all) (omega (arith, length-drop from all, c.piece_end-to.ensures.within, c.piece_end-to.ensures.some)) in
    let more = piece_more (map arc_value c.loop-from.pieces.items) all from to (take (to - from) (drop from all)) c.loop-from.invariant.pieces c.piece_end-to.ensures.some c.piece_end-to.ensures.within c.piece_end-to.ensures.few c.piece_end-to.ensures.end (λ i. take (to - from) (drop from all)) in
    record {
      pieces = subst (λ l. AreSoFar l all to) (sym c.in_ok-push_piece.ensures.pieces) more;
      steps = omega (arith, c.push_piece.ensures.steps, part, c.piece_end-to.ensures.some, c.loop-from.invariant.steps);
    }

pub invariant_of-result : goal.invariant_of-result
invariant_of-result g c = all_pieces (map arc_value c.loop-from.pieces.items) c.args.all.now c.loop-from.from c.loop-from.invariant.pieces c.loop-from-test.false c.requires.few

pub returns-clause-list : goal.returns-clause-list
returns-clause-list g c = all_labels (map arc_value c.loop-from.pieces.items) c.args.all.now c.loop-from.from c.loop-from.invariant.pieces c.loop-from-test.false

pub returns-clause-steps : goal.returns-clause-steps
returns-clause-steps g c =
    let items = c.self.inside.pieces.items in
    let all = c.args.all.now in
    let kept = c.in_ok-kept.kept in
    let within : kept ≤ length (map arc_value items) = omega (arith, c.in_ok-kept.ensures.within, ap length c.deref.ensures.value, length-map items arc_value) in
    let front = ap (λ l. map arc_value (take kept l)) c.deref-2.ensures.value ∙ sym (take-map arc_value kept items) in
    let prefix = subst (λ l. IsPrefix l all) (sym c.self.view_is) c.requires.prefix in
    let size = c.in_ok-pieces.ensures.size ∙ ap (λ l. length (joined l)) front in
    omega (arith, c.loop-from.invariant.steps, c.loop-from.invariant.pieces.within, size, most_stay (map arc_value items) c.self.inside.size c.self.invariant kept c.in_ok-kept.ensures.full within, not_less (map arc_value items) c.self.inside.size c.self.invariant kept c.in_ok-kept.ensures.full within all prefix, c.self.invariant.as_many, ap length c.self.view_is)
