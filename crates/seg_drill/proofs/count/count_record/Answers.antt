use Rattle.std.proofs.Common.{sym, subst}
use Rattle.facet_counts.specs.Lists.{IsCounted}
use Rattle.seg_drill.proofs.count.count_record.Goals as goal

pub add_doc-requires-clause-counted : goal.add_doc-requires-clause-counted
add_doc-requires-clause-counted c = subst (IsCounted c.args.counter.now.config c.args.counter.now.labels) (sym c.counted.ensures) (c.requires.countable c.args.place c.requires.within)
