use Rattle.std.proofs.Common.{eqb}
use Rattle.std.proofs.lemmas.List.Filters.{dedup_is}
use Rattle.facet_config.proofs.Expanded.{once_rises}
use Rattle.search_tests.proofs.making.counted.Goals as goal

pub new-requires : goal.new-requires
new-requires c = once_rises c.sort_unstable.new.self.items c.dedup.new.self.items c.sort_unstable.ensures.sorted (dedup_is eqb c.sort_unstable.new.self.items c.dedup.new.self.items c.dedup.ensures.filtered)
