-- What becomes of commits.
use Rattle.std.specs.Prelude.{◌≡◌, ◌≤◌, ◌<◌, ◌⊎◌, ◌^◌, ℕ, List, length, take, slice_get, Some, Ok, All, IsTrue}
use Rattle.commit_turns.specs.Recovery.{Recovers, docs_found}
use Rattle.facet_disk.specs.Images.{Image, Told}
use Rattle.facet_disk.specs.declared.disk.Disk.{Ghosts}
use Rattle.facet_engine.specs.declared.ending.Trace.{Trace}
use Rattle.facet_io.specs.Faults.{Rose}
use Rattle.facet_model.specs.Histories.{Operation, docs}
use Rattle.facet_output.specs.Answered.{Answered, comes_after, in_writing_order}
use Rattle.facet_output.specs.Output.{has_shown}
use Rattle.facet_output.specs.Seen.{Seen, history_of, labels_of}
use Rattle.facet_output.specs.Reported.{placed_operation}
use Rattle.facet_replies.specs.Replies.{no_memory, numbered, refused}
use Rattle.facet_words.specs.Commands.{Settings, Order, Script, commit}
use Rattle.facet_words.specs.ScriptOrder.{orders_in}
use Rattle.facet_words.specs.Scripts.{script}
use Rattle.generator.specs.Generated.{generated}
use Rattle.store_opening.specs.Files.{Found, files, greatest_number}
use Rattle.store_opening.specs.Newest.{next_after}
use Rattle.store_opening.specs.Settled.{IsSettled}
use Rattle.facet_serving.specs.Reading.{script_limit}
use Rattle.facet_serving.specs.Sessions.{Ran}

-- ---- what was acknowledged stays

-- of a change that came before a commit, of its session or of an earlier phase, and was answered with a place: its
-- operation is there, among the first so many
abbrev pub HasChange : List Operation → Answered → ℕ → Answered → Type 0
HasChange history a many b = (place : ℕ) (o : Operation) → IsTrue (comes_after a b)
    → placed_operation b ≡ Some (place, o) → (place < many) × (slice_get history place ≡ Some o)

-- An image opens as the first of the labels, and as what the first of the operations at the end leave, with all that a
-- commit acknowledged which was answered this number.
pub record Holds (settings : Settings) (last : Seen) (answered : List Answered) (a : Answered) (n : ℕ)
    (c : Image) : Type 0 where
  pub recovers : Recovers settings.config (labels_of last) (history_of last) c
  -- so many operations, or more
  pub many : n ≤ recovers.operations
  -- all labels that its session had been shown
  pub labels : (m : ℕ) × (m ≤ length recovers.found.labels)
      × IsTrue (has_shown (labels_of last) last.pairs answered a m)
  pub changes : All (HasChange (history_of last) a recovers.operations) answered

-- of a commit that was acknowledged: the image holds that
abbrev pub IsHeld : Settings → Seen → List Answered → Image → Answered → Type 0
IsHeld settings last answered c a =
    (n : ℕ) → a.order.command ≡ commit → a.reply ≡ numbered n → Holds settings last answered a n c

-- Over a disk that reports its files and was settled, whatever a crash leaves at the end holds all that each
-- acknowledged commit has acknowledged.
abbrev pub AcknowledgedStays : {D : Type 0} → Ghosts D → Type 0
AcknowledgedStays {D} ghosts = (settings : Settings) (phases : List (List Order)) (trace : Trace) (old new : D)
    (t : Told) → ghosts.told old ≡ Some t
    → IsSettled ghosts settings.config t old
    → (ran : Ran ghosts settings phases trace old new) → (c : Image) → ghosts.may_leave new c
    → All (IsHeld settings ran.last ran.answered c) ran.answered

-- Of a commit that was acknowledged so: there was a moment at which whatever a crash left had just the documents that
-- so many operations leave, and whatever a crash at any moment since then left holds all that it acknowledged.
pub record HeldSince {D : Type 0} (ghosts : Ghosts D) (settings : Settings) (last : Seen) (answered : List Answered)
    (now : D) (a : Answered) (n : ℕ) : Type 0 where
  -- the disk as it was at that moment
  pub at : D
  pub earlier : ghosts.moment at ≤ ghosts.moment now
  pub just : (c : Image) → ghosts.may_leave at c
      → (f : Found) × (files settings.config c ≡ Ok f) × (docs_found f ≡ docs (take n (history_of last)))
  pub since : (c : Image) → ghosts.left_since now (ghosts.moment at) c → Holds settings last answered a n c

-- of a commit that was acknowledged: it holds since then
abbrev pub IsHeldSince : {D : Type 0} → Ghosts D → Settings → Seen → List Answered → D → Answered → Type 0
IsHeldSince ghosts settings last answered now a =
    (n : ℕ) → a.order.command ≡ commit → a.reply ≡ numbered n → HeldSince ghosts settings last answered now a n

-- Over such a disk each acknowledged commit survives a crash at every later moment.
abbrev pub AcknowledgedSurvives : {D : Type 0} → Ghosts D → Type 0
AcknowledgedSurvives {D} ghosts = (settings : Settings) (phases : List (List Order)) (trace : Trace) (old new : D)
    (t : Told) → ghosts.told old ≡ Some t
    → IsSettled ghosts settings.config t old
    → (ran : Ran ghosts settings phases trace old new)
    → All (IsHeldSince ghosts settings ran.last ran.answered new) ran.answered

-- ---- commits are acknowledged

-- of a commit: it has a number, or reports that memory ran out
abbrev pub IsAcknowledged : Answered → Type 0
IsAcknowledged a = a.order.command ≡ commit → ((n : ℕ) × (a.reply ≡ numbered n)) ⊎ (a.reply ≡ refused no_memory)

-- it has at most so many orders as a script may have bytes
abbrev pub HasFewOrders : Script → Type 0
HasFewOrders s = length (orders_in s.phases) ≤ script_limit

-- So has each script that is read, and each one of generated documents.
abbrev pub HaveFewOrders : Type 0
HaveFewOrders = ((input : List ℕ) (s : Script) → script input ≡ Ok s → length input ≤ script_limit → HasFewOrders s)
    × ((documents sessions : ℕ) → documents ≤ 1000000 → HasFewOrders (generated documents sessions))

-- Each commit of such a script is acknowledged, where the disk reports files whose numbers are below 2^62 and its count
-- of faults does not rise. So it is of the script's phases, and of the first of them.
abbrev pub CommitsAreAcknowledged : {D : Type 0} → Ghosts D → Type 0
CommitsAreAcknowledged {D} ghosts =
    (s : Script) (phases : List (List Order)) (trace : Trace) (old new : D) (t : Told) → HasFewOrders s
    → length (in_writing_order phases) ≤ length (in_writing_order s.phases) → ghosts.told old ≡ Some t
    → next_after (greatest_number t.files) ≤ 2 ^ 62
    → ¬ Rose (ghosts.faults old) (ghosts.faults new)
    → (ran : Ran ghosts s.settings phases trace old new) → All IsAcknowledged ran.answered
