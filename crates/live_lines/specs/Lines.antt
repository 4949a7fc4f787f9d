-- What a line behind the first one of a live process is.
use Rattle.std.specs.Prelude.{◌&&◌, ℕ, nat_lt, if◌then◌else◌, Bool, true, false, List, [], ◌∷◌, length, codes, Option}
use Rattle.std.specs.Prelude.{Some, None, Result, Ok, Err}
use Rattle.std.specs.Option.{option_map_or}
use Rattle.serde_json.specs.Data.{Data}
use Rattle.facet_words.specs.Commands.{Command, commit, Order}
use Rattle.facet_words.specs.Lines.{line_data}
use Rattle.facet_words.specs.Scripts.{is_named, line_at}
use Rattle.facet_words.specs.Shapes.{keys_among}
use Rattle.facet_words.specs.declared.fault.ScriptFault.{ScriptFault}
use Rattle.facet_words.specs.declared.fault.ScriptFault.TheVariants.{BadShape}

-- how many bytes a line may have without its line feed, and the lines of a group together
abbrev pub most_bytes : ℕ
most_bytes = 67108864

-- A fault of a script, or the number of a line that has too many bytes.
pub data LineFault : Type 0 where
  script : ScriptFault → LineFault
  too_long : ℕ → LineFault

-- A command, the end of a group, the beginning of a group, or a faulty line.
pub data Line : Type 0 where
  order : Order → Line
  end : Line
  group : Line
  faulty : LineFault → Line

-- a line that begins a group, which has no further keys
unfoldable pub begins_group : Data → Bool
begins_group d = is_named (codes "group") d && keys_among (codes "cmd" ∷ []) d

abbrev pub is_commit : Command → Bool
is_commit commit = true
is_commit c = false

-- a process that only reads knows no commit
abbrev pub order_line : Bool → Order → Line
order_line only_reads o = if only_reads && is_commit o.command then faulty (script (BadShape o.line)) else order o

-- a line that is read as in a script
abbrev pub script_line : Bool → Result (Option Order) ScriptFault → Line
script_line only_reads (Ok (Some o)) = order_line only_reads o
script_line only_reads (Ok None) = end
script_line only_reads (Err fault) = faulty (script fault)

-- A line of this number, of a process that only reads or of one that writes too.
unfoldable pub live_line : Bool → ℕ → List ℕ → Line
live_line only_reads line bytes = if nat_lt most_bytes (length bytes) then faulty (too_long line)
    else (if option_map_or begins_group (line_data bytes) false then group
    else script_line only_reads (line_at line bytes))
