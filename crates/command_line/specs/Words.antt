-- What command-line arguments mean, as `clap` parses them for a simple command.
use Rattle.std.specs.Prelude.{◌==◌, ℕ, if◌then◌else◌, true, false, Bool, List, codes, length, is_none, Option, Some}
use Rattle.std.specs.Prelude.{None, option_map, option_and_then, unwrap_or}
use Rattle.std.specs.Option.{option_map_or}
use Rattle.std.specs.Str.Parse.{digits_value, without_leading_plus}
use Rattle.clap.specs.Simple.{on_top}
use Rattle.clap.specs.ValueTests.{is_unsigned_in}
use Rattle.clap.specs.Words.{App, Row, Rule, fault_of, first_of, matches_of, new_app, new_rule, with_rule}
use Rattle.clap.specs.declared.builder.value_parser.ValueParser.TheVariants.{Unsigned}

-- ---- the command

-- `--generate N`, with N from 1 to 1,000,000
abbrev pub generate_rule : Rule
generate_rule = record (new_rule (codes "generate")) {
  long = Some (codes "generate");
  parser = Some (Unsigned 1 1000000);
}

-- `--sessions K`, with K from 1 to 8
abbrev pub sessions_rule : Rule
sessions_rule = record (new_rule (codes "sessions")) { long = Some (codes "sessions"); parser = Some (Unsigned 1 8) }

-- the directory, which is required
abbrev pub dir_rule : Rule
dir_rule = record (new_rule (codes "DIR")) { required = true }

-- there is no flag for help or a version, and the program's own name is not among the arguments
abbrev pub bare : App
bare = on_top (λ s. record s { no_binary_name = true; disable_help_flag = true }) (new_app (codes "facets"))

abbrev pub command : App
command = with_rule (with_rule (with_rule bare generate_rule) sessions_rule) dir_rule

-- ---- what the arguments mean

-- The directory; how many documents to generate, unless a script is read; and how many sessions generate them.
pub record Words : Type 0 where
  pub dir : List ℕ
  pub generate : Option ℕ
  pub sessions : ℕ

-- the number that a text is, if it is one from `low` to `high`
abbrev pub number_within : ℕ → ℕ → List ℕ → Option ℕ
number_within low high text =
    if is_unsigned_in low high text then Some (digits_value 10 (without_leading_plus text)) else None

-- an optional number
abbrev pub given_within : ℕ → ℕ → Option (List ℕ) → Option (Option ℕ)
given_within low high None = Some None
given_within low high (Some text) = option_map Some (number_within low high text)

abbrev pub words_in : List ℕ → Option ℕ → Option ℕ → Words
words_in dir generate sessions = record { dir = dir; generate = generate; sessions = unwrap_or sessions 1 }

-- what was found under the names of the arguments; by default one session
abbrev pub words_of_rows : List Row → Option Words
words_of_rows rows = option_and_then (λ dir. option_and_then (λ generate. option_map
    (λ sessions. words_in dir generate sessions)
    (given_within 1 8 (first_of (codes "sessions") rows)))
    (given_within 1 1000000 (first_of (codes "generate") rows)))
    (first_of (codes "DIR") rows)

-- what `clap` makes of the arguments, unless they are a usage error
unfoldable pub words_of : List (List ℕ) → Option Words
words_of words = if length (fault_of command words) == 0 then words_of_rows (matches_of command words) else None

-- the arguments ask for a script to be read
abbrev pub reads_script : Option Words → Bool
reads_script words = option_map_or (λ w. is_none w.generate) words false
