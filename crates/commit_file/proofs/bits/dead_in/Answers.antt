use Rattle.std.proofs.Common.{ap, sym, ◌∙◌, ◌++◌, ◌∷◌, []}
use Rattle.commit_file.proofs.LiveBytes.{one_dead_more, none_dead_more}
use Rattle.commit_file.proofs.bits.dead_in.Goals as goal
use Rattle.commit_file.proofs.bits.dead_in.Goals.{then-not-is_set+in_ok-push, else-not-is_set}

pub loop-place-preserved : goal.loop-place-preserved
loop-place-preserved c = elim c.if-not-is_set.branch [
  | then-not-is_set+in_ok-push w ↦
      ap (λ v. v.items) w.dead-is ∙ w.in_ok-push.ensures.items ∙ ap (λ places. places ++ c.loop-place.place ∷ []) c.loop-place.invariant
      ∙ sym (one_dead_more c.args.bits.now c.loop-place.place (sym c.is_set.ensures ∙ w.if-not-is_set.true))
  | else-not-is_set w ↦
      ap (λ v. v.items) w.dead-is ∙ c.loop-place.invariant
      ∙ sym (none_dead_more c.args.bits.now c.loop-place.place (sym c.is_set.ensures ∙ w.if-not-is_set.false))
]
