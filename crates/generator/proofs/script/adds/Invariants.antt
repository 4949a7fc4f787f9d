use Rattle.std.proofs.Common.{◌≡◌, map}
use Rattle.std.specs.List.{range_with_len}
use Rattle.facet_words.specs.CommandViews.{order_view}
use Rattle.generator.specs.Generated.{add_order}
use Rattle.generator.proofs.script.adds.Given as goal

abbrev pub invariant-loop-number : goal.invariant-loop-number
invariant-loop-number l = map order_view l.orders.items ≡ map (add_order l.sessions) (range_with_len 0 l.number)
