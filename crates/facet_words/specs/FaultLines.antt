-- The line that reports why bytes are not a script.
use Rattle.std.specs.Prelude.{ℕ, List, [], ◌∷◌, codes}
use Rattle.facet_replies.specs.NamedFaults.{number_field, named_fault_line}
use Rattle.facet_words.specs.declared.fault.ScriptFault.{ScriptFault}
use Rattle.facet_words.specs.declared.fault.ScriptFault.TheVariants.{NotJson, BadShape, BadSession, NoConfigFirst}
use Rattle.facet_words.specs.declared.fault.ScriptFault.TheVariants.{NoMemory}

-- a fault with its name and the number of its line
abbrev pub fault_line_at : List ℕ → ℕ → List ℕ
fault_line_at name line = named_fault_line name (number_field (codes "line") line ∷ [])

unfoldable pub fault_line : ScriptFault → List ℕ
fault_line (NotJson line) = fault_line_at (codes "not_json") line
fault_line (BadShape line) = fault_line_at (codes "bad_shape") line
fault_line (BadSession line) = fault_line_at (codes "bad_session") line
fault_line NoConfigFirst = named_fault_line (codes "no_config_first") []
fault_line NoMemory = named_fault_line (codes "no_memory") []
