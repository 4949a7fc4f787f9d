-- What a live process writes in answer to its lines, and when it is due.
use Rattle.std.specs.Prelude.{◌+◌, ◌==◌, ◌++◌, ◌∷◌, ℕ, if◌then◌else◌, Bool, List, [], flat_map}
use Rattle.facet_output.specs.Answered.{Answered}
use Rattle.facet_output.specs.OutputLines.{reply_lines}
use Rattle.live_lines.specs.FaultLines.{line_fault_line, opened_line}
use Rattle.live_lines.specs.Items.{Item, first_reading, items_from}

-- ---- what is written

-- the lines of the faults of an item
abbrev pub fault_lines : Item → List ℕ
fault_lines item = flat_map line_fault_line item.faults

-- and then the lines of the replies to its orders
abbrev pub item_lines : Item → List Answered → List ℕ
item_lines item answered = fault_lines item ++ reply_lines answered

-- the lines of items, each with the replies to its orders
abbrev pub live_lines : List Item → List (List Answered) → List ℕ
live_lines [] replies = []
live_lines (item ∷ items) [] = []
live_lines (item ∷ items) (answered ∷ replies) = item_lines item answered ++ live_lines items replies

-- what is written of so many opened documents and labels, and in answer to these items
abbrev pub said : ℕ × ℕ → List Item → List (List Answered) → List ℕ
said opened items replies = opened_line opened ++ live_lines items replies

-- ---- when it is due

-- a byte before the first line, if there is one
abbrev pub onto_whole : ℕ → List (List ℕ) → List (List ℕ)
onto_whole b [] = []
onto_whole b (l ∷ ls) = (b ∷ l) ∷ ls

-- the lines that end with a line feed, which is no part of them
abbrev pub whole_lines : List ℕ → List (List ℕ)
whole_lines [] = []
whole_lines (b ∷ bs) = if b == 10 then [] ∷ whole_lines bs else onto_whole b (whole_lines bs)

-- What is due once these lines are whole: nothing before the first one is, and then the answers to all others, but for
-- those of a group that has no end yet.
abbrev pub due_after : Bool → ℕ × ℕ → List (List Answered) → List (List ℕ) → List ℕ
due_after only_reads opened replies [] = []
due_after only_reads opened replies (first ∷ rest) =
    said opened (items_from only_reads first_reading rest).0 replies

-- what is due once these bytes were got
abbrev pub due : Bool → ℕ × ℕ → List (List Answered) → List ℕ → List ℕ
due only_reads opened replies got = due_after only_reads opened replies (whole_lines got)
