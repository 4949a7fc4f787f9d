-- What a reply to a command reports of the labels, the operations, the pairs and the commits.
use Rattle.std.specs.Prelude.{◌==◌, ◌+◌, ◌&&◌, ℕ, nat_le, Bool, true, false, List, [], length, flat_map, slice_get}
use Rattle.std.specs.Prelude.{Option, Some, None, is_none, unwrap_or}
use Rattle.std.specs.Option.{option_map_or}
use Rattle.facet_names.specs.Labels.{stands, prefixes}
use Rattle.facet_model.specs.Accepts.{first_broken}
use Rattle.facet_model.specs.Documents.{Doc}
use Rattle.facet_model.specs.Flags.{Config}
use Rattle.facet_model.specs.Histories.{Operation, doc_of, knows}
use Rattle.facet_output.specs.Answered.{Answered}
use Rattle.facet_output.specs.Effects.{Effect, changes, publishes, persists, looks, effect, Report, says_placed}
use Rattle.facet_output.specs.Effects.{says_number, says_pair, says_refused, for_labels, for_docs, for_disk}
use Rattle.facet_output.specs.Effects.{for_closed, for_memory, report}
use Rattle.facet_words.specs.Commands.{Command}
use Rattle.facet_replies.specs.Replies.{Reply}

-- ---- labels

-- a document that the config accepts has the path as a prefix of one of its labels
abbrev pub has_prefix : Config → List (List ℕ) → Option Doc → Bool
has_prefix config path None = false
has_prefix config path (Some doc) = is_none (first_broken config doc) && stands (flat_map prefixes doc.labels) path

-- the document of a change has it
abbrev pub brought : Config → List (List ℕ) → Effect → Bool
brought config path (changes change) = has_prefix config path (doc_of change)
brought config path _ = false

abbrev pub brings : Config → List (List ℕ) → Command → Bool
brings config path command = brought config path (effect command)

-- each prefix of each label of a document, facet by facet, the dimension first
abbrev pub prefixes_of : Option Doc → List (List (List ℕ))
prefixes_of None = []
prefixes_of (Some doc) = flat_map prefixes doc.labels

-- those of a change's document
abbrev pub added_paths : Effect → List (List (List ℕ))
added_paths (changes change) = prefixes_of (doc_of change)
added_paths _ = []

abbrev pub paths_of : Command → List (List (List ℕ))
paths_of command = added_paths (effect command)

-- no more labels fit
abbrev pub full_in : Report → Bool
full_in (says_refused (for_labels size)) = true
full_in _ = false

abbrev pub says_full : Reply → Bool
says_full reply = full_in (report reply)

-- a change was rejected for labels
abbrev pub rejected : Effect → Report → Bool
rejected (changes change) said = full_in said
rejected _ said = false

abbrev pub is_refused_for_labels : Command → Reply → Bool
is_refused_for_labels command reply = rejected (effect command) (report reply)

-- the labels that a change has shown which adds this document are among these
abbrev pub add_among : Doc → List (List (List ℕ)) → Report → Bool
add_among doc these (says_placed at) = knows these doc
add_among doc these (says_refused (for_labels size)) = nat_le size (length these)
add_among doc these (says_refused (for_docs n)) = knows these doc
add_among doc these _ = true

-- one that adds no document shows none
abbrev pub change_among : Option Doc → List (List (List ℕ)) → Report → Bool
change_among None these said = true
change_among (Some doc) these said = add_among doc these said

-- there are at least as many as a pair has that was looked at
abbrev pub pair_among : List (List (List ℕ)) → Report → Bool
pair_among these (says_pair operations labels) = option_map_or (λ n. nat_le n (length these)) labels true
pair_among these _ = true

-- the labels that a reply has shown are among these, which are the first ones
abbrev pub report_among : List (List (List ℕ)) → Effect → Report → Bool
report_among these (changes change) said = change_among (doc_of change) these said
report_among these (looks on) said = pair_among these said
report_among these _ said = true

-- and so are those of the published pair that was taken, or that a refresh published
abbrev pub labels_among : List (ℕ × (ℕ × ℕ)) → List (List (List ℕ)) → Answered → Bool
labels_among published these a = report_among these (effect a.order.command) (report a.reply)
    && option_map_or
    (λ place. option_map_or (λ e. nat_le e.1.1 (length these)) (slice_get published place) true) a.place true

-- ---- operations

-- the operation of a change that was placed, with its place
abbrev pub placed_in : ℕ → Effect → Report → Option (ℕ × Operation)
placed_in session (changes change) (says_placed at) = Some (at, record { session = session; change = change })
placed_in session (changes change) _ = None
placed_in session _ said = None

abbrev pub placed_by : ℕ → Command → Reply → Option (ℕ × Operation)
placed_by session command reply = placed_in session (effect command) (report reply)

abbrev pub placed_operation : Answered → Option (ℕ × Operation)
placed_operation a = placed_by a.order.session a.order.command a.reply

-- how many operations a reply has shown: those up to its own, those of its pair or its commit, or those that a change
-- saw which was refused for documents
abbrev pub shown_in : Option ℕ → Report → ℕ
shown_in saw (says_placed at) = at + 1
shown_in saw (says_number n) = n
shown_in saw (says_pair operations labels) = operations
shown_in saw (says_refused (for_docs count)) = unwrap_or saw 0
shown_in saw _ = 0

abbrev pub shows : Answered → ℕ
shows a = shown_in a.saw (report a.reply)

-- how many operations there were when a change, a refresh or a commit got the lock
abbrev pub stood_at : Option ℕ → Report → Option ℕ
stood_at saw (says_placed at) = Some at
stood_at saw (says_number n) = Some n
stood_at saw (says_refused (for_docs count)) = saw
stood_at saw _ = None

abbrev pub stood_in : Effect → Option ℕ → Report → Option ℕ
stood_in (changes change) saw said = stood_at saw said
stood_in publishes saw said = stood_at saw said
stood_in persists saw said = stood_at saw said
stood_in _ saw said = None

abbrev pub stood_by : Command → Option ℕ → Reply → Option ℕ
stood_by command saw reply = stood_in (effect command) saw (report reply)

abbrev pub stood : Answered → Option ℕ
stood a = stood_by a.order.command a.saw a.reply

-- ---- pairs

abbrev pub number_in : Report → Option ℕ
number_in (says_number n) = Some n
number_in _ = None

abbrev pub refreshed_in : Effect → Report → Option ℕ
refreshed_in publishes said = number_in said
refreshed_in _ said = None

abbrev pub refreshed_by : Command → Reply → Option ℕ
refreshed_by command reply = refreshed_in (effect command) (report reply)

-- the number of operations of the pair that a refresh published
abbrev pub refreshed : Answered → Option ℕ
refreshed a = refreshed_by a.order.command a.reply

-- it took or published no pair
abbrev pub sees_no_pair : Answered → Bool
sees_no_pair a = is_none a.took && is_none (refreshed a)

abbrev pub is_number : ℕ → Option ℕ → Bool
is_number n o = option_map_or (λ k. k == n) o false

-- ---- commits

-- this part of what a commit reports
abbrev pub of_commit : {A : Type 0} → (Report → Option A) → Effect → Report → Option A
of_commit part persists said = part said
of_commit part _ said = None

-- the count at which a commit failed on the disk
abbrev pub failed_in : Report → Option ℕ
failed_in (says_refused (for_disk count)) = Some count
failed_in _ = None

abbrev pub failed_by : Command → Reply → Option ℕ
failed_by command reply = of_commit failed_in (effect command) (report reply)

abbrev pub failed : Answered → Option ℕ
failed a = failed_by a.order.command a.reply

-- the count at which an earlier commit had failed, as a commit returned it
abbrev pub closed_in : Report → Option ℕ
closed_in (says_refused (for_closed count)) = Some count
closed_in _ = None

abbrev pub closed_by : Command → Reply → Option ℕ
closed_by command reply = of_commit closed_in (effect command) (report reply)

abbrev pub closed_at : Answered → Option ℕ
closed_at a = closed_by a.order.command a.reply

-- the number of operations that a commit has made durable
abbrev pub durable_by : Command → Reply → Option ℕ
durable_by command reply = of_commit number_in (effect command) (report reply)

abbrev pub durable : Answered → Option ℕ
durable a = durable_by a.order.command a.reply

-- a reply that reports the failure at this count, or that there was no memory
abbrev pub reports_failure : ℕ → Report → Bool
reports_failure count (says_refused (for_closed c)) = c == count
reports_failure count (says_refused for_memory) = true
reports_failure count _ = false

-- no commit, or one that reports the failure so
abbrev pub commit_reports : ℕ → Effect → Report → Bool
commit_reports count persists said = reports_failure count said
commit_reports count _ said = true

abbrev pub tells_of_failure : ℕ → Command → Reply → Bool
tells_of_failure count command reply = commit_reports count (effect command) (report reply)
