-- The script that bytes are, or its first fault.
use Rattle.std.specs.Prelude.{◌+◌, ◌&&◌, ℕ, if◌then◌else◌, Bool, false, List, [], ◌∷◌, codes, Option, Some, None}
use Rattle.std.specs.Prelude.{Result, Ok, Err}
use Rattle.std.specs.Option.{option_map_or}
use Rattle.std.specs.Str.{bytes_eq}
use Rattle.serde_json.specs.Data.{Data}
use Rattle.serde_json.specs.Find.{as_str}
use Rattle.facet_words.specs.declared.fault.ScriptFault.{ScriptFault}
use Rattle.facet_words.specs.declared.fault.ScriptFault.TheVariants.{NotJson, BadShape, BadSession, NoConfigFirst}
use Rattle.facet_words.specs.CommandLines.{command_of}
use Rattle.facet_words.specs.Commands.{Settings, Command, Order, Script}
use Rattle.facet_words.specs.ConfigLines.{settings_of}
use Rattle.facet_words.specs.Lines.{lines_of, line_data}
use Rattle.facet_words.specs.Shapes.{is_within, key, keys_among}

infixl 10 ◌>>=◌
abbrev pub ◌>>=◌ : {A B : Type 0} → Result A ScriptFault → (A → Result B ScriptFault) → Result B ScriptFault
Ok x >>= f = f x
Err e >>= f = Err e

-- the value, or the fault if there is none
abbrev pub or_fault : {A : Type 0} → ScriptFault → Option A → Result A ScriptFault
or_fault fault None = Err fault
or_fault fault (Some x) = Ok x

-- an object that names itself a line of this kind
abbrev pub is_named : List ℕ → Data → Bool
is_named kind d = option_map_or (λ name. bytes_eq name kind) (key (codes "cmd") as_str d) false

-- ---- the first line

unfoldable pub config_of : Data → Result Settings ScriptFault
config_of d = if is_named (codes "config") d then or_fault (BadShape 1) (settings_of d) else Err NoConfigFirst

-- the settings of the first line's bytes
unfoldable pub config_at : List ℕ → Result Settings ScriptFault
config_at bytes = do
  d ← or_fault (NotJson 1) (line_data bytes)
  config_of d

-- ---- a line after the first

-- the sessions are 1 to 64
abbrev pub in_session : ℕ → ℕ × Command → Result Order ScriptFault
in_session line c = if is_within 1 64 c.0 then Ok (record { session = c.0; line = line; command = c.1 })
    else Err (BadSession line)

unfoldable pub order_of : ℕ → Data → Result Order ScriptFault
order_of line d = do
  c ← or_fault (BadShape line) (command_of d)
  in_session line c

-- a phase line, which has no further keys
unfoldable pub ends_phase : Data → Bool
ends_phase d = is_named (codes "phase") d && keys_among (codes "cmd" ∷ []) d

-- the order of a line, and none if it ends a phase
unfoldable pub line_of : ℕ → Data → Result (Option Order) ScriptFault
line_of line d = if ends_phase d then Ok None else (order_of line d >>= (λ o. Ok (Some o)))

-- the same of a line's bytes
unfoldable pub line_at : ℕ → List ℕ → Result (Option Order) ScriptFault
line_at line bytes = do
  d ← or_fault (NotJson line) (line_data bytes)
  line_of line d

-- ---- the phases

-- the first phase, and those after it
abbrev pub Phases : Type 0
Phases = List Order × List (List Order)

-- a line, and then these phases
abbrev pub before : Option Order → Phases → Phases
before (Some o) phases = (o ∷ phases.0, phases.1)
before None phases = ([], phases.0 ∷ phases.1)

-- The phases of these lines, the first of which has this number. The lines after the last phase line are a phase too.
-- Each may be empty.
abbrev pub phases_from : ℕ → List (List ℕ) → Result Phases ScriptFault
phases_from line [] = Ok ([], [])
phases_from line (l ∷ ls) = do
  order ← line_at line l
  phases ← phases_from (line + 1) ls
  Ok (before order phases)

-- all phases of the lines after the first one
abbrev pub phases_of : List (List ℕ) → Result (List (List Order)) ScriptFault
phases_of ls = do
  phases ← phases_from 2 ls
  Ok (phases.0 ∷ phases.1)

-- ---- the script

-- the first line is the config line
abbrev pub script_of : List (List ℕ) → Result Script ScriptFault
script_of [] = Err NoConfigFirst
script_of (l ∷ ls) = do
  settings ← config_at l
  phases ← phases_of ls
  Ok (record { settings = settings; phases = phases })

unfoldable pub script : List ℕ → Result Script ScriptFault
script bytes = script_of (lines_of bytes)
