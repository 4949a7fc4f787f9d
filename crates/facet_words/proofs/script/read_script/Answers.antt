use Rattle.std.proofs.Common.{map}
use Rattle.facet_words.specs.Lines.{lines_of}
use Rattle.facet_words.specs.CommandViews.{order_view}
use Rattle.facet_words.proofs.Rising.{in_order}
use Rattle.facet_words.proofs.script.read_script.Goals as goal

pub returns-clause-order : goal.returns-clause-order
returns-clause-order c = in_order (lines_of c.cut_line.result.1.now) (map (λ orders. map order_view orders.items) c.in_ok-phases.phases.items) c.in_ok-phases.ensures.ok
