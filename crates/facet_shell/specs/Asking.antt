-- What the words ask for.
use Rattle.std.specs.Prelude.{◌≡◌, ◌≤◌, true, false, Option, Some, None}
use Rattle.command_line.specs.Words.{Words, reads_script}
use Rattle.generator.specs.Generated.{generated}
use Rattle.facet_serving.specs.Generating.{generated_by}
use Rattle.facet_shell.specs.declared.program.Asked.{Asked}
use Rattle.facet_shell.specs.declared.program.Asked.TheVariants as asked

-- A script is to be read, or this one is to be generated, by some sessions, or the words are not taken.
abbrev pub IsAsked : Option Words → Option Asked → Type 0
IsAsked words None = (reads_script words ≡ false) × (generated_by words ≡ None)
IsAsked words (Some asked.Script) = (reads_script words ≡ true) × (generated_by words ≡ None)
IsAsked words (Some (asked.Generated documents sessions)) =
    (reads_script words ≡ false) × (generated_by words ≡ Some (generated documents sessions))
    × (1 ≤ sessions) × (sessions ≤ 8)
