-- What holds of the items of each process.
use Rattle.std.specs.Prelude.{◌≡◌, ◌+◌, ℕ, Bool, List, ◌++◌, length, map}
use Rattle.facet_words.specs.Commands.{Order}
use Rattle.facet_words.specs.ScriptOrder.{AreInOrder}
use Rattle.live_lines.specs.Items.{Item, Reading, items_from, first_reading, live_items}

-- the phases that items are carried out as
abbrev pub phases_in : List Item → List (List Order)
phases_in items = map (λ i. i.orders) items

-- these lines, and then those
abbrev pub ItemsAreComposed : Type 0
ItemsAreComposed = (only_reads : Bool) (r : Reading) (ls ms : List (List ℕ))
    → items_from only_reads r (ls ++ ms)
    ≡ (let s = items_from only_reads r ls in let t = items_from only_reads s.1 ms in (s.0 ++ t.0, t.1))

abbrev pub LinesAreNumbered : Type 0
LinesAreNumbered = (only_reads : Bool) (r : Reading) (ls : List (List ℕ))
    → (items_from only_reads r ls).1.next ≡ r.next + length ls

-- those of all lines, and those that are whole after some of them
pub record ItemsAreInOrder : Type 0 where
  pub all : (only_reads : Bool) (ls : List (List ℕ)) → AreInOrder (phases_in (live_items only_reads ls))
  pub so_far : (only_reads : Bool) (ls : List (List ℕ))
      → AreInOrder (phases_in (items_from only_reads first_reading ls).0)
