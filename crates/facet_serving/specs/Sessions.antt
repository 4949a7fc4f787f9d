-- What the sessions of a run did.
use Rattle.std.specs.Prelude.{◌≡◌, ◌==◌, ◌<◌, ◌+◌, ◌*◌, ℕ, nat_lt, List, length, filter, Some, All, IsTrue}
use Rattle.std.specs.List.{list_all}
use Rattle.facet_disk.specs.declared.disk.Disk.{Ghosts}
use Rattle.facet_disk.specs.Images.{Told}
use Rattle.facet_engine.specs.declared.ending.Trace.{Trace}
use Rattle.facet_output.specs.Answered.{Answered, is_of}
use Rattle.facet_output.specs.Commits.{HasPoints}
use Rattle.facet_output.specs.OneSession.{AreExact, AreExactLabels}
use Rattle.facet_output.specs.OneShelf.{Served, NamesNoPair}
use Rattle.facet_output.specs.Output.{IsOutput, Opened}
use Rattle.facet_output.specs.OutputLines.{last_line, output_bytes, reply_lines}
use Rattle.facet_output.specs.Outputs.{sessions_in}
use Rattle.facet_output.specs.Seen.{Seen, history_of, labels_of}
use Rattle.facet_replies.specs.Replies.{numbers_spent, refused}
use Rattle.facet_words.specs.Commands.{Settings, Order}
use Rattle.store_opening.specs.Files.{greatest_number}
use Rattle.store_opening.specs.Newest.{next_after}
use Rattle.facet_serving.specs.Stores.{Keeps, Opens}

-- A session that runs alone sees no other: each number that it is answered is exact, and so are the labels. Where it
-- names no held pair, it was served on a shelf.
pub record IsAlone (settings : Settings) (opened : Opened) (last : Seen) (answered : List Answered) : Type 0 where
  pub exact : AreExact (length opened.docs) (length opened.docs) answered
  pub labels : AreExactLabels settings opened.labels (length opened.labels) answered (labels_of last)
  pub served : NamesNoPair answered → Served settings opened answered last

-- a commit that is refused for spent numbers names one that so many commits may have taken, from this one on
abbrev pub SpendsFrom : ℕ → Seen → Answered → Type 0
SpendsFrom next last a = (number : ℕ) → a.reply ≡ refused (numbers_spent number)
    → number < next + 1000003 * length last.commits

-- The trace has the labels, and whose the operations are.
pub record IsTraceOf (trace : Trace) (last : Seen) : Type 0 where
  pub labels : trace.labels ≡ labels_of last
  pub sessions : trace.sessions.items ≡ sessions_in (history_of last)

-- The orders of these phases were carried out on the store that was opened, and answered so. At the end there are these
-- labels, operations, published pairs and commits, of which this is the trace. The replies are the right output, the
-- commits are those that were acknowledged or failed on the disk, numbers are spent only where the commits may have
-- taken them after those of all files, and the disk keeps what was committed.
pub record Ran {D : Type 0} (ghosts : Ghosts D) (settings : Settings) (phases : List (List Order)) (trace : Trace)
    (old new : D) : Type 0 where
  pub opened : Opened
  pub last : Seen
  pub answered : List Answered
  pub opens : Opens ghosts settings.config old opened
  pub traced : IsTraceOf trace last
  pub right : IsOutput settings phases opened (labels_of last) (history_of last) last.pairs answered
  pub points : HasPoints opened last answered
  pub spent : (t : Told) → ghosts.told old ≡ Some t
      → All (SpendsFrom (next_after (greatest_number t.files)) last) answered
  pub keeps : Keeps ghosts settings.config last old new
  pub alone : (session : ℕ) → IsTrue (list_all (is_of session) answered) → IsAlone settings opened last answered

-- the replies' lines, and then the last line
abbrev pub bytes_of : {D : Type 0} {ghosts : Ghosts D} {settings : Settings} {phases : List (List Order)}
    {trace : Trace} {old new : D} → Ran ghosts settings phases trace old new → List ℕ
bytes_of ran = output_bytes ran.opened (labels_of ran.last) (history_of ran.last) ran.answered

-- the last line alone
abbrev pub last_of_run : {D : Type 0} {ghosts : Ghosts D} {settings : Settings} {phases : List (List Order)}
    {trace : Trace} {old new : D} → Ran ghosts settings phases trace old new → List ℕ
last_of_run ran = last_line ran.opened (labels_of ran.last) (history_of ran.last)

-- the replies' lines of the phases before one
abbrev pub lines_before : ℕ → List Answered → List ℕ
lines_before many answered = reply_lines (filter (λ a. nat_lt a.phase many) answered)

-- the replies' lines of one phase
abbrev pub lines_in : ℕ → List Answered → List ℕ
lines_in phase answered = reply_lines (filter (λ a. a.phase == phase) answered)
