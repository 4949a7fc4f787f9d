-- The plain data of lines, items and readings.
use Rattle.std.specs.Prelude.{ℕ, map, Option, option_map}
use Rattle.facet_words.specs.CommandViews.{order_view}
use Rattle.live_lines.specs.Lines as plain
use Rattle.live_lines.specs.Items as items
use Rattle.live_lines.specs.declared.line.LineFault.{LineFault}
use Rattle.live_lines.specs.declared.line.LineFault.TheVariants as faults
use Rattle.live_lines.specs.declared.line.LiveLine.{LiveLine}
use Rattle.live_lines.specs.declared.line.LiveLine.TheVariants as lines
use Rattle.live_lines.specs.declared.group.GivenItem.{GivenItem}
use Rattle.live_lines.specs.declared.group.OpenGroup.{OpenGroup}

abbrev pub line_fault_view : LineFault → plain.LineFault
line_fault_view (faults.Script fault) = plain.script fault
line_fault_view (faults.TooLong line) = plain.too_long line

abbrev pub line_view : LiveLine → plain.Line
line_view (lines.Order o) = plain.order (order_view o)
line_view lines.End = plain.end
line_view lines.Group = plain.group
line_view (lines.Faulty fault) = plain.faulty (line_fault_view fault)

abbrev pub item_view : GivenItem → items.Item
item_view i = record { faults = map line_fault_view i.faults.items; orders = map order_view i.orders.items }

abbrev pub open_view : OpenGroup → items.Open
open_view g = record { item = item_view g.item; size = g.size }

-- what is kept of the lines: the number of the next one, and the open group
pub record Kept : Type 0 where
  pub next : ℕ
  pub group : Option OpenGroup

abbrev pub reading_of : Kept → items.Reading
reading_of k = record { next = k.next; open_group = option_map open_view k.group }
