-- What the arguments of a process that answers a client mean, as `clap` parses them for a simple command.
use Rattle.std.specs.Prelude.{◌==◌, ◌&&◌, ℕ, if◌then◌else◌, true, false, Bool, List, codes, length, is_none, Option, Some}
use Rattle.std.specs.Prelude.{None, option_map}
use Rattle.std.specs.Option.{option_map_or}
use Rattle.std.specs.Str.{bytes_eq}
use Rattle.clap.specs.Words.{App, Row, Rule, fault_of, first_of, matches_of, new_rule, with_rule}
use Rattle.clap.specs.declared.builder.action.ArgAction.TheVariants.{SetTrue}
use Rattle.command_line.specs.Words.{bare, dir_rule, words_of}

-- ---- the command

-- `--live`, which is required
abbrev pub live_rule : Rule
live_rule = record (new_rule (codes "live")) { long = Some (codes "live"); action = Some SetTrue; required = true }

-- `--read`
abbrev pub read_rule : Rule
read_rule = record (new_rule (codes "read")) { long = Some (codes "read"); action = Some SetTrue }

abbrev pub live_command : App
live_command = with_rule (with_rule (with_rule bare live_rule) read_rule) dir_rule

-- ---- what the arguments mean

-- The directory, and whether the process only reads.
pub record LiveWords : Type 0 where
  pub dir : List ℕ
  pub reads : Bool

-- the text of a flag that was given
abbrev pub is_set : Option (List ℕ) → Bool
is_set text = option_map_or (λ t. bytes_eq t (codes "true")) text false

-- what was found under the names of the arguments
abbrev pub live_words_of_rows : List Row → Option LiveWords
live_words_of_rows rows =
    option_map (λ dir. record { dir = dir; reads = is_set (first_of (codes "read") rows) }) (first_of (codes "DIR") rows)

-- What `clap` makes of the arguments, unless they are a usage error or the arguments of a script.
unfoldable pub live_words_of : List (List ℕ) → Option LiveWords
live_words_of words =
    if is_none (words_of words) && length (fault_of live_command words) == 0
    then live_words_of_rows (matches_of live_command words)
    else None
