use Rattle.std.proofs.Common.{◌∙◌}
use Rattle.facet_io.proofs.Pieces.{part_more, part_failed}
use Rattle.facet_io.proofs.sink.write_all.Goals as goal

pub loop-rest-preserved : goal.loop-rest-preserved
loop-rest-preserved g c = record {
  part = rw c.split_at.ensures.back (part_more _ _ _ _ _ _ c.loop-rest.invariant.part c.in-Ok.ensures.bytes);
  still = c.in-Ok.ensures.cause.still (λ none. cc none) ∙ c.loop-rest.invariant.still;
}

pub returns-in-Err-clause-failed : goal.returns-in-Err-clause-failed
returns-in-Err-clause-failed g c = part_failed _ _ _ _ _ c.loop-rest.invariant.part c.in-Err.ensures.bytes
