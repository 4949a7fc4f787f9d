use Rattle.std.proofs.Common.{ap, sym, subst}
use Rattle.seg_drill.specs.Counting.{AreCountable}
use Rattle.sideways.proofs.part.Part.count.Goals as goal

pub count_left-requires-clause-countable : goal.count_left-requires-clause-countable
count_left-requires-clause-countable c = subst (AreCountable c.args.counter.now.config c.args.counter.now.labels) (sym (ap (λ p. p.segment) c.self.view_is)) c.requires.countable
