use Rattle.std.proofs.Common.{◌≤◌, ◌+◌, map, length}
use Rattle.facet_words.specs.Lines.{lines_of}
use Rattle.facet_words.specs.CommandViews.{order_view}
use Rattle.facet_words.specs.Scripts.{phases_of}
use Rattle.facet_words.proofs.Phases.{IsReadTo}
use Rattle.facet_words.proofs.script.read_phases.Given as goal

abbrev pub invariant-loop-rest : goal.invariant-loop-rest
invariant-loop-rest l = record {
  read : IsReadTo (map (λ orders. map order_view orders.items) l.phases.items) (map order_view l.orders.items) l.line (lines_of l.rest) (phases_of (lines_of l.bytes));
  early : l.line + length l.rest ≤ 2 + length l.bytes;
}

abbrev pub decreases-loop-rest : goal.decreases-loop-rest
decreases-loop-rest l = length l.rest
