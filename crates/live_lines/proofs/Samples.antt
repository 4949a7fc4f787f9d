-- Some lines, and what is carried out of them.
use Rattle.std.proofs.Common.{◌≡◌, ℕ, true, false, List, [], ◌∷◌, refl, codes}
use Rattle.std.specs.Str.{is_utf8, chars}
use Rattle.serde_json.proofs.OnLiterals.{serde_json_on_literals}
use Rattle.facet_words.specs.CommandLines.{heading_of, plain_of, command_named, command_of}
use Rattle.facet_words.specs.Commands.{refresh, commit}
use Rattle.facet_words.specs.Lines.{line_data}
use Rattle.facet_words.specs.Scripts.{order_of, ends_phase, line_of, line_at}
use Rattle.facet_words.specs.declared.fault.ScriptFault.TheVariants.{NotJson, BadShape}
use Rattle.live_lines.specs.Lines.{order, end, group, faulty, script, begins_group, live_line}
use Rattle.live_lines.specs.Items.{step, live_items}

group_line : live_line false 7 (codes "{\"cmd\":\"group\"}") ≡ group
unfolding live_line begins_group line_data is_utf8 chars serde_json_on_literals
group_line = refl

session_of_a_group : live_line false 7 (codes "{\"s\":1,\"cmd\":\"group\"}") ≡ faulty (script (BadShape 7))
unfolding live_line begins_group line_data line_at line_of ends_phase order_of command_of heading_of command_named is_utf8 chars serde_json_on_literals
session_of_a_group = refl

phase_line : live_line true 7 (codes "{\"cmd\":\"phase\"}") ≡ end
unfolding live_line begins_group line_data line_at line_of ends_phase is_utf8 chars serde_json_on_literals
phase_line = refl

commit_line : live_line false 7 (codes "{\"s\":1,\"cmd\":\"commit\"}") ≡ order (record { session = 1; line = 7; command = commit })
unfolding live_line begins_group line_data line_at line_of ends_phase order_of command_of heading_of command_named plain_of is_utf8 chars serde_json_on_literals
commit_line = refl

commit_of_a_reader : live_line true 7 (codes "{\"s\":1,\"cmd\":\"commit\"}") ≡ faulty (script (BadShape 7))
unfolding live_line begins_group line_data line_at line_of ends_phase order_of command_of heading_of command_named plain_of is_utf8 chars serde_json_on_literals
commit_of_a_reader = refl

-- a group with a faulty line, a line outside it, and a group that is open at the end
abbrev some_lines : List (List ℕ)
some_lines = codes "{\"cmd\":\"group\"}" ∷ codes "{\"s\":1,\"cmd\":\"refresh\"}" ∷ codes "" ∷ codes "{\"cmd\":\"group\"}" ∷ codes "{\"cmd\":\"phase\"}"
    ∷ codes "{\"s\":2,\"cmd\":\"commit\"}" ∷ codes "{\"cmd\":\"phase\"}" ∷ codes "{\"cmd\":\"group\"}" ∷ codes "{\"s\":3,\"cmd\":\"refresh\"}" ∷ []

some_items : live_items false some_lines
    ≡ record { faults = script (NotJson 4) ∷ script (BadShape 5) ∷ []; orders = record { session = 1; line = 3; command = refresh } ∷ [] }
    ∷ record { faults = []; orders = record { session = 2; line = 7; command = commit } ∷ [] }
    ∷ record { faults = []; orders = [] }
    ∷ record { faults = []; orders = record { session = 3; line = 10; command = refresh } ∷ [] } ∷ []
unfolding step live_line begins_group line_data line_at line_of ends_phase order_of command_of heading_of command_named plain_of is_utf8 chars serde_json_on_literals
some_items = refl
