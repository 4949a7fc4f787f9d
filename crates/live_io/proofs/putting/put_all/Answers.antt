use Rattle.std.proofs.Common.{◌∙◌}
use Rattle.live_io.proofs.Puts.{part_more, part_failed}
use Rattle.live_io.proofs.putting.put_all.Goals as goal

pub loop-rest-preserved : goal.loop-rest-preserved
loop-rest-preserved g c = record {
  part = rw c.split_at.ensures.back (part_more _ _ _ _ _ _ _ _ _ c.loop-rest.invariant.part c.in-Ok.ensures.bytes c.in-Ok.ensures.notes);
  still = c.in-Ok.ensures.cause.still (λ none. cc none) ∙ c.loop-rest.invariant.still;
  same_left = c.in-Ok.ensures.same_left ∙ c.loop-rest.invariant.same_left;
  same_faults = c.in-Ok.ensures.same_faults ∙ c.loop-rest.invariant.same_faults;
}

pub returns-in-Err-clause-failed : goal.returns-in-Err-clause-failed
returns-in-Err-clause-failed g c = part_failed _ _ _ _ _ _ _ _ c.loop-rest.invariant.part c.in-Err.ensures.bytes c.in-Err.ensures.notes
