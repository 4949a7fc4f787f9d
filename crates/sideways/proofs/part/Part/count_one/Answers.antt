use Rattle.std.proofs.Common.{ap, sym, subst}
use Rattle.seg_drill.specs.Counting.{AreCountable}
use Rattle.sideways.proofs.part.Part.count_one.Goals as goal

pub count_record-requires-clause-countable : goal.count_record-requires-clause-countable
count_record-requires-clause-countable c = subst (AreCountable c.args.counter.now.config c.args.counter.now.labels) (sym (ap (λ p. p.segment) c.self.view_is)) c.requires.countable
