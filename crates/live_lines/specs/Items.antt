-- What is carried out of the lines of a live process as one phase.
use Rattle.std.specs.Prelude.{◌+◌, ◌&&◌, ℕ, nat_le, nat_lt, if◌then◌else◌, Bool, true, List, [], ◌∷◌, ◌++◌, length}
use Rattle.std.specs.Prelude.{Option, Some, None, option_map, IsTrue}
use Rattle.std.specs.List.{list_all}
use Rattle.std.specs.Option.{option_map_or}
use Rattle.facet_words.specs.Commands.{Order}
use Rattle.facet_words.specs.ScriptOrder.{lines_rise}
use Rattle.facet_words.specs.Shapes.{is_within}
use Rattle.facet_words.specs.declared.fault.ScriptFault.TheVariants.{BadShape}
use Rattle.live_lines.specs.Lines.{most_bytes, LineFault, script, too_long, Line, order, end, group, faulty, live_line}

-- The faults and the orders of a phase, both in line order.
pub record Item : Type 0 where
  pub faults : List LineFault
  pub orders : List Order

-- An open group: what its lines are so far, and how many bytes these have with their line feeds. One byte more than they
-- may have is a full group.
pub record Open : Type 0 where
  pub item : Item
  pub size : ℕ

-- What a process has read: the number of the next line, and the open group, if there is one.
pub record Reading : Type 0 where
  pub next : ℕ
  pub open_group : Option Open

abbrev pub no_item : Item
no_item = record { faults = []; orders = [] }

abbrev pub with_fault : LineFault → Item → Item
with_fault f i = record i { faults = i.faults ++ f ∷ [] }

abbrev pub with_order : Order → Item → Item
with_order o i = record i { orders = i.orders ++ o ∷ [] }

-- ---- a line outside a group

-- what is carried out of it, which is nothing if it begins a group
abbrev pub alone : Line → Option Item
alone (order o) = Some (with_order o no_item)
alone end = Some no_item
alone group = None
alone (faulty f) = Some (with_fault f no_item)

-- the group that it begins
abbrev pub begun : Line → Option Open
begun group = Some (record { item = no_item; size = 0 })
begun l = None

-- ---- a line in a group

-- the item of the group with the line of this number; a group begins in no group
abbrev pub item_with : ℕ → Line → Item → Item
item_with line (order o) i = with_order o i
item_with line end i = i
item_with line group i = with_fault (script (BadShape line)) i
item_with line (faulty f) i = with_fault f i

-- The group with the line of this number and length, which counts with its line feed. With the first line that is too
-- much the group is full, and further lines are not taken.
abbrev pub open_with : ℕ → ℕ → Line → Open → Open
open_with line many l g = if nat_lt most_bytes g.size then g
    else (if nat_lt most_bytes (g.size + many + 1)
    then record { item = with_fault (too_long line) g.item; size = most_bytes + 1 }
    else record { item = item_with line l g.item; size = g.size + many + 1 })

-- ---- line after line

-- what is carried out, and the open group after it
abbrev pub stepped : ℕ → ℕ → Line → Option Open → Option Item × Option Open
stepped line many l None = (alone l, begun l)
stepped line many (order o) (Some g) = (None, Some (open_with line many (order o) g))
stepped line many end (Some g) = (Some g.item, None)
stepped line many group (Some g) = (None, Some (open_with line many group g))
stepped line many (faulty f) (Some g) = (None, Some (open_with line many (faulty f) g))

-- a line of these bytes
unfoldable pub step : Bool → Reading → List ℕ → Option Item × Reading
step only_reads r bytes =
    let s = stepped r.next (length bytes) (live_line only_reads r.next bytes) r.open_group in
    (s.0, record { next = r.next + 1; open_group = s.1 })

abbrev pub item_list : Option Item → List Item
item_list None = []
item_list (Some i) = i ∷ []

-- what is carried out of these lines, and what was read after them
abbrev pub items_from : Bool → Reading → List (List ℕ) → List Item × Reading
items_from only_reads r [] = ([], r)
items_from only_reads r (l ∷ ls) =
    let s = step only_reads r l in
    let t = items_from only_reads s.1 ls in
    (item_list s.0 ++ t.0, t.1)

-- what an open group leaves at the end of the lines
abbrev pub last_item : Reading → Option Item
last_item r = option_map (λ g. g.item) r.open_group

-- the first line is the config line
abbrev pub first_reading : Reading
first_reading = record { next = 2; open_group = None }

-- what is carried out of all lines behind the first one
abbrev pub live_items : Bool → List (List ℕ) → List Item
live_items only_reads ls =
    let s = items_from only_reads first_reading ls in
    s.0 ++ item_list (last_item s.1)

-- ---- the orders of a group

-- the orders of an open group
abbrev pub open_orders : Option Open → List Order
open_orders None = []
open_orders (Some g) = g.item.orders

-- they rise, in lines before this one, and the sessions are 1 to 64
abbrev pub are_before : ℕ → List Order → Bool
are_before line os = lines_rise os && list_all (λ o. nat_lt o.line line && is_within 1 64 o.session) os

-- what holds of each reading: of the orders of its group, and of the bytes of its lines
pub record IsReading (r : Reading) : Type 0 where
  pub before : IsTrue (are_before r.next (open_orders r.open_group))
  pub few : IsTrue (option_map_or (λ g. nat_le g.size (most_bytes + 1)) r.open_group true)
