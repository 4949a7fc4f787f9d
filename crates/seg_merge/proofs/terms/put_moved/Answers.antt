use Rattle.std.proofs.Common.{◌≡◌, ◌<◌, ◌+◌, ◌++◌, ◌∷◌, [], ℕ, List, length, get_or, sym, ap, subst, ◌∙◌, arith}
use Rattle.std.proofs.lemmas.Bool.{not-true, not-false}
use Rattle.std.proofs.lemmas.List.Elements.{All-from_recursion}
use Rattle.std.specs.List.{AllByRecursion}
use Rattle.facet_model.specs.Stored.{is_dead}
use Rattle.facet_codec.specs.Laws.{IsBelow}
use Rattle.seg_merge.proofs.Moved.{moved_on, moved_past, rank_below}
use Rattle.seg_merge.proofs.terms.put_moved.Goals.{then-is_live+in_ok-push, else-is_live}
use Rattle.seg_merge.proofs.terms.put_moved.Goals as goal

within : (n : ℕ) (places : List ℕ) (k x : ℕ) → AllByRecursion (IsBelow n) places → k < length places → x ≡ get_or places k 0 → x < n
within n places k x all lt is = subst (λ y. y < n) (sym is) (All-from_recursion (IsBelow n) places all k 0 lt)

pub is_live-requires : goal.is_live-requires
is_live-requires c = within (length c.args.segment.now.records) c.args.places.now c.loop-at.at c.at-place.result c.requires.below (omega (arith, c.loop-at-test.true, c.len-at-end.ensures)) c.at-place.ensures

pub overflow_add-base : goal.overflow_add-base
overflow_add-base c =
    let low = within (length c.args.segment.now.records) c.args.places.now c.loop-at.at c.at-place.result c.requires.below (omega (arith, c.loop-at-test.true, c.len-at-end.ensures)) c.at-place.ensures in
    omega (arith, low, c.requires.base, c.requires.few, c.rank.ensures, rank_below c.args.segment.now.dead c.at-place.result)

pub loop-at-preserved : goal.loop-at-preserved
loop-at-preserved c =
    let places = c.args.places.now in
    let base = c.args.base in
    let dead = c.args.segment.now.dead in
    let k = c.loop-at.at in
    let x = c.at-place.result in
    let lt : k < length places = omega (arith, c.loop-at-test.true, c.len-at-end.ensures) in
    elim c.if-is_live.branch [
      | then-is_live+in_ok-push w ↦
          moved_on base dead places k x lt c.at-place.ensures (not-true (is_dead dead x) (sym c.is_live.ensures ∙ w.if-is_live.true)) c.args.list.now.items c.loop-at.list.items c.if-is_live.list.items c.loop-at.invariant
          ((λ i. (w.list-is i).items) ∙ w.in_ok-push.ensures.items ∙ ap (λ n. c.loop-at.list.items ++ (base + n) ∷ []) w.rank.ensures)
      | else-is_live w ↦
          (λ i. (w.list-is i).items) ∙ moved_past base dead places k x lt c.at-place.ensures (not-false (is_dead dead x) (sym c.is_live.ensures ∙ w.if-is_live.false)) c.args.list.now.items c.loop-at.list.items c.loop-at.invariant
    ]
