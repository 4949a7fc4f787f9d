use Rattle.std.proofs.Common.{◌≡◌, ℕ, map, take}
use Rattle.facet_replies.specs.ReplyViews.{range_view}
use Rattle.number_facets.specs.Values.{Range}
use Rattle.pair_search.proofs.Numbered.{named_by}
use Rattle.pair_search.proofs.ranging.named.Given as goal

abbrev pub invariant-loop-at : goal.invariant-loop-at
invariant-loop-at l = (count : Range → ℕ) → l.counts ≡ map count l.ranges → map range_view l.lines.items ≡ take l.at (map (named_by count) l.ranges)
