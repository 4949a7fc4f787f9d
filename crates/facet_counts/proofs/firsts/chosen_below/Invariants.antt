use Rattle.std.proofs.Common.{◌≡◌, ◌<◌, ◌++◌, List, suc, true, length}
use Rattle.std.specs.Prelude.{IfSome}
use Rattle.std.specs.Option.{option_map_or}
use Rattle.facet_names.specs.Arrays.{is_child}
use Rattle.facet_model.specs.Listing.{PartCount}
use Rattle.facet_counts.specs.Children.{children_at}
use Rattle.facet_counts.specs.Firsts.{AreChosen}
use Rattle.facet_counts.proofs.Walk.{children_from}
use Rattle.facet_counts.proofs.firsts.chosen_below.Given as goal

abbrev pub invariant-loop-next : goal.invariant-loop-next
invariant-loop-next l = (seen : List PartCount) × (seen ++ children_from l.view l.totals l.ord l.next ≡ children_at l.view l.totals l.ord) × AreChosen l.n seen l.chosen × IfSome l.next (λ c. (c < length l.view) × (is_child l.view l.ord c ≡ true))

abbrev pub decreases-loop-next : goal.decreases-loop-next
decreases-loop-next l = option_map_or suc l.next 0
