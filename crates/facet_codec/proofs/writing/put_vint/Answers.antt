use Rattle.std.proofs.Common.{arith, ◌∙◌}
use Rattle.facet_codec.proofs.Groups.{groups_more}
use Rattle.facet_codec.proofs.writing.put_vint.Goals as goal

pub loop-preserved : goal.loop-preserved
loop-preserved c = record {
  written = rw c.push_reserved-in-loop.ensures.items (groups_more c.loop.out.items c.loop.counter c.loop.left (omega arith) (omega arith) ∙ c.loop.invariant.written);
  room = omega arith;
}
