use Rattle.std.proofs.Common.{◌∙◌, ◌<◌, ◌++◌, ◌∷◌, [], length, ap, sym, subst, append_assoc}
use Rattle.facet_model.specs.Stored.{Records}
use Rattle.sideways.proofs.newest.walked_last.Goals as goal

pub loop-place-preserved : goal.loop-place-preserved
loop-place-preserved c =
    let inv = c.loop-place.invariant in
    let place = c.in-Some.place in
    record {
      before = inv.before ++ place ∷ [];
      split = inv.split ∙ ap (λ xs. inv.before ++ xs) c.in-Some.ensures.next ∙ sym (append_assoc inv.before (place ∷ []) c.take.new.self.left);
      segment = c.in-Some.ensures.segment ∙ inv.segment;
      last = c.in_ok-push_last.ensures.last inv.before inv.last;
      within = c.in_ok-push_last.ensures.within (length c.args.part.now.segment.records) (subst (λ (s : Records). place < length s.records) inv.segment c.in-Some.ensures.within) inv.within;
    }
