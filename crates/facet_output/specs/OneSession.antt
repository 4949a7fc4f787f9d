-- Scripts of one session, or of one in each phase, whose numbers are exact.
use Rattle.std.specs.Prelude.{◌≡◌, ◌==◌, ◌≤◌, ◌+◌, ℕ, max, if◌then◌else◌, Bool, true, false, List, [], ◌∷◌, length}
use Rattle.std.specs.Prelude.{take, All, IsTrue, Option, Some, None, is_none, unwrap_or}
use Rattle.std.specs.List.{list_all}
use Rattle.facet_model.specs.Accepts.{Broken, first_broken}
use Rattle.facet_model.specs.Documents.{Doc}
use Rattle.facet_model.specs.Histories.{Operation, doc_of}
use Rattle.facet_words.specs.Answers.{with_labels}
use Rattle.facet_words.specs.Commands.{Settings, Command, Order}
use Rattle.facet_replies.specs.Replies.{Reply, placed, refused, docs_full}
use Rattle.facet_output.specs.Seen.{Seen, labels_of}
use Rattle.facet_output.specs.Steps.{Step}
use Rattle.facet_output.specs.Answered.{Answered, is_of}
use Rattle.facet_output.specs.Effects.{Effect, changes, effect}
use Rattle.facet_output.specs.Output.{Opened, Published, IsOutput}
use Rattle.facet_output.specs.Sessions.{AllRan, steps_of, is_by, answers_of}
use Rattle.facet_words.specs.ScriptOrder.{lines_rise}
use Rattle.facet_output.specs.Reported.{placed_operation, stood, refreshed, says_full}

-- one operation more, if one was placed
abbrev pub after_placing : ℕ → Option (ℕ × Operation) → ℕ
after_placing operations None = operations
after_placing operations (Some p) = operations + 1

-- Given the number of operations and that of the last refresh: a change is placed after all operations, or saw all of
-- them when it was refused for documents; a refresh and a commit have all of them; and a pair is that of the last
-- refresh.
abbrev pub AreExact : ℕ → ℕ → List Answered → Type 0
AreExact operations taken [] = Unit {0}
AreExact operations taken (a ∷ later) =
    ((n : ℕ) → stood a ≡ Some n → n ≡ operations) × ((pair : ℕ × ℕ) → a.took ≡ Some pair → pair.0 ≡ taken)
    × AreExact (after_placing operations (placed_operation a)) (unwrap_or (refreshed a) taken) later

-- the right output of a script of one session is exact
abbrev pub OneSessionIsExact : Type 0
OneSessionIsExact = (settings : Settings) (phases : List (List Order)) (opened : Opened) (labels : List (List (List ℕ)))
    (history : List Operation) (published : Published) (answered : List Answered) (session : ℕ)
    → IsOutput settings phases opened labels history published answered → IsTrue (list_all lines_rise phases)
    → IsTrue (list_all (is_of session) answered)
    → AreExact (length opened.docs) (length opened.docs) answered

-- all orders are of one session
abbrev pub HasOneSession : List Order → Type 0
HasOneSession orders = (session : ℕ) × IsTrue (list_all (λ o. o.session == session) orders)

-- the right output of a script in each of whose phases at most one session has orders is exact
abbrev pub OneSessionAPhaseIsExact : Type 0
OneSessionAPhaseIsExact = (settings : Settings) (phases : List (List Order)) (opened : Opened)
    (labels : List (List (List ℕ))) (history : List Operation) (published : Published) (answered : List Answered)
    → IsOutput settings phases opened labels history published answered → IsTrue (list_all lines_rise phases)
    → All HasOneSession phases → AreExact (length opened.docs) (length opened.docs) answered

-- ---- labels

-- how many labels there may be: never fewer than there are
abbrev pub room : Settings → List (List (List ℕ)) → ℕ
room settings labels = max settings.max_labels (length labels)

-- all labels of the document were there
abbrev pub is_resolved : Reply → Bool
is_resolved (placed at) = true
is_resolved (refused (docs_full n)) = true
is_resolved _ = false

-- What a change that adds a document leaves if the config accepts the document: the labels and a prefix of the missing
-- ones, facet by facet, the dimension first. If it was rejected for labels, these are as many as fit. If it reached the
-- documents, these are all.
pub record LeavesFirst (settings : Settings) (labels : List (List (List ℕ))) (doc : Doc) (reply : Reply)
    (next : List (List (List ℕ))) : Type 0 where
  pub first : next ≡ take (length next) (with_labels labels doc)
  pub low : length labels ≤ length next
  pub high : length next ≤ room settings labels
  pub full : IsTrue (says_full reply) → length next ≡ room settings labels
  pub whole : IsTrue (is_resolved reply) → next ≡ with_labels labels doc

-- a document that is not accepted leaves the labels
abbrev pub AddLeaves : Settings → List (List (List ℕ)) → Doc → Option Broken → Reply → List (List (List ℕ)) → Type 0
AddLeaves settings labels doc (Some b) reply next = next ≡ labels
AddLeaves settings labels doc None reply next = LeavesFirst settings labels doc reply next

-- and so does a change that adds no document
abbrev pub ChangeLeaves : Settings → List (List (List ℕ)) → Option Doc → Reply → List (List (List ℕ)) → Type 0
ChangeLeaves settings labels None reply next = next ≡ labels
ChangeLeaves settings labels (Some doc) reply next =
    AddLeaves settings labels doc (first_broken settings.config doc) reply next

-- and so does a command with another effect
abbrev pub EffectLeaves : Settings → List (List (List ℕ)) → Effect → Reply → List (List (List ℕ)) → Type 0
EffectLeaves settings labels (changes change) reply next = ChangeLeaves settings labels (doc_of change) reply next
EffectLeaves settings labels _ reply next = next ≡ labels

abbrev pub Leaves : Settings → List (List (List ℕ)) → Command → Reply → List (List (List ℕ)) → Type 0
Leaves settings labels command reply next = EffectLeaves settings labels (effect command) reply next

-- given these labels, how many the last refresh has, and those at the end: what each command leaves, and how many
-- labels a taken pair has
abbrev pub AreExactLabels : Settings → List (List (List ℕ)) → ℕ → List Answered → List (List (List ℕ)) → Type 0
AreExactLabels settings labels taken [] last = last ≡ labels
AreExactLabels settings labels taken (a ∷ later) last = (next : List (List (List ℕ)))
    × Leaves settings labels a.order.command a.reply next × ((pair : ℕ × ℕ) → a.took ≡ Some pair → pair.1 ≡ taken)
    × AreExactLabels settings next (if is_none (refreshed a) then taken else length labels) later last

-- if one session ran alone, its labels are exact
abbrev pub OneSessionHasItsLabels : Type 0
OneSessionHasItsLabels = (settings : Settings) (phases : List (List Order)) (opened : Opened) (ran : List (List Step))
    (last : Seen) (session : ℕ) → AllRan settings phases opened ran last
    → IsTrue (list_all (is_by session) (steps_of ran))
    → AreExactLabels settings opened.labels (length opened.labels) (answers_of ran) (labels_of last)
