-- What becomes of changes.
use Rattle.std.specs.Prelude.{◌≡◌, ◌≤◌, ◌<◌, ◌⊎◌, ◌==◌, ℕ, List, [], ◌∷◌, length, take, filter, filter_map, slice_get}
use Rattle.std.specs.Prelude.{Some, None, All, IsTrue}
use Rattle.facet_disk.specs.declared.disk.Disk.{Ghosts}
use Rattle.facet_engine.specs.declared.ending.Trace.{Trace}
use Rattle.facet_model.specs.Accepts.{first_broken}
use Rattle.facet_model.specs.Documents.{Doc}
use Rattle.facet_model.specs.Histories as histories
use Rattle.facet_model.specs.Histories.{Operation, docs, knows}
use Rattle.facet_output.specs.Answered.{Answered}
use Rattle.facet_output.specs.Output.{Opened}
use Rattle.facet_output.specs.Seen.{Seen, history_of, labels_of}
use Rattle.facet_output.specs.Reported.{placed_operation}
use Rattle.facet_replies.specs.Replies.{Reply, docs_full, no_memory, placed, refused}
use Rattle.facet_words.specs.Commands.{Settings, Order, add}
use Rattle.facet_serving.specs.Sessions.{Ran}

-- the operations of the changes that were answered with this place, with it
abbrev pub placed_at : ℕ → List Answered → List (ℕ × Operation)
placed_at place answered = filter (λ e. e.0 == place) (filter_map placed_operation answered)

-- Each operation after the opened ones is that of one change and of no other, which was answered with its place. The
-- trace has its session there.
abbrev pub EachIsAddedOnce : {D : Type 0} → Ghosts D → Type 0
EachIsAddedOnce {D} ghosts = (settings : Settings) (phases : List (List Order)) (trace : Trace) (old new : D)
    → (ran : Ran ghosts settings phases trace old new) → (place : ℕ) (o : Operation)
    → length ran.opened.docs ≤ place → slice_get (history_of ran.last) place ≡ Some o
    → (slice_get trace.sessions.items place ≡ Some o.session)
    × (placed_at place ran.answered ≡ (place, o) ∷ [])

-- of an add that was answered with a place: its operation is there, under its session, also in the trace
abbrev pub Stands : Opened → Seen → Trace → Answered → Type 0
Stands opened last trace a =
    (doc : Doc) (place : ℕ) → a.order.command ≡ add doc → a.reply ≡ placed place → (length opened.docs ≤ place)
    × (slice_get (history_of last) place ≡ Some (record { session = a.order.session; change = histories.add doc }))
    × (slice_get trace.sessions.items place ≡ Some a.order.session)

abbrev pub EachAddStands : {D : Type 0} → Ghosts D → Type 0
EachAddStands {D} ghosts = (settings : Settings) (phases : List (List Order)) (trace : Trace) (old new : D)
    → (ran : Ran ghosts settings phases trace old new)
    → All (Stands ran.opened ran.last trace) ran.answered

-- it has a place, or reports that memory ran out, or that so many operations leave as many documents as there may be
abbrev pub IsPlacedOr : Settings → List Operation → Reply → Type 0
IsPlacedOr settings history reply =
    ((at : ℕ) × (reply ≡ placed at)) ⊎ (reply ≡ refused no_memory)
    ⊎ ((n : ℕ) × (n ≤ length history) × (settings.max_docs ≤ length (docs (take n history)))
    × (reply ≡ refused (docs_full (length (docs (take n history))))))

-- of an add whose document the config accepts: it is placed so, where all its labels are there at the end, or fewer
-- labels than there may be
abbrev pub IsPlacedWhereItFits : Settings → Seen → Answered → Type 0
IsPlacedWhereItFits settings last a = (doc : Doc) → a.order.command ≡ add doc → first_broken settings.config doc ≡ None
    → IsTrue (knows (labels_of last) doc) ⊎ (length (labels_of last) < settings.max_labels)
    → IsPlacedOr settings (history_of last) a.reply

abbrev pub AddsArePlaced : {D : Type 0} → Ghosts D → Type 0
AddsArePlaced {D} ghosts = (settings : Settings) (phases : List (List Order)) (trace : Trace) (old new : D)
    → (ran : Ran ghosts settings phases trace old new)
    → All (IsPlacedWhereItFits settings ran.last) ran.answered
