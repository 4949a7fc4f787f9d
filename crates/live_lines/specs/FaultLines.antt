-- The lines that a live process writes besides its replies.
use Rattle.std.specs.Prelude.{ℕ, List, [], ◌∷◌, codes}
use Rattle.facet_replies.specs.ReplyLines.{fields, whole_data, list_data, json_line}
use Rattle.facet_words.specs.FaultLines.{fault_line, fault_line_at}
use Rattle.live_lines.specs.Lines.{LineFault, script, too_long}

unfoldable pub line_fault_line : LineFault → List ℕ
line_fault_line (script fault) = fault_line fault
line_fault_line (too_long line) = fault_line_at (codes "too_long") line

-- how many documents and labels the store has that was opened
unfoldable pub opened_line : ℕ × ℕ → List ℕ
opened_line opened = json_line (fields ((codes "line", whole_data 1)
    ∷ (codes "opened", list_data whole_data (opened.0 ∷ opened.1 ∷ [])) ∷ []))
