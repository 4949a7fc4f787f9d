-- How a run ends that generates its documents.
use Rattle.std.specs.Prelude.{◌≡◌, ◌⊎◌, ◌++◌, ℕ, List, take, Option, Some, option_map, option_and_then, Result, Ok, Err}
use Rattle.std.specs.Io.KnownBytes.{Appends}
use Rattle.command_line.specs.Words.{Words}
use Rattle.facet_disk.specs.declared.disk.Disk.{Ghosts}
use Rattle.facet_engine.specs.declared.ending.Trace.{Trace}
use Rattle.facet_io.specs.Faults.{Rose}
use Rattle.facet_io.specs.declared.sink.Sink.{Ghosts as SinkGhosts}
use Rattle.facet_phases.specs.Runs.{IsCutOff}
use Rattle.facet_phases.specs.declared.fault.PhaseFault.{PhaseFault}
use Rattle.facet_phases.specs.declared.fault.PhaseFault.TheVariants as phases
use Rattle.facet_replies.specs.Replies.{Reply}
use Rattle.facet_replies.specs.Summaries.{Summary, summary_line}
use Rattle.facet_words.specs.Commands.{Order, Script}
use Rattle.generator.specs.Generated.{generated}
use Rattle.generator.specs.Summaries.{summary_of}
use Rattle.generator.specs.Tallies.{IsTallyOf}
use Rattle.generator.specs.declared.tally.Tally.{Tally}
use Rattle.facet_serving.specs.Alike.{replies_of}
use Rattle.facet_serving.specs.Closing.{IsUnread, IsWithoutMemory, IsWritten}
use Rattle.facet_serving.specs.Sessions.{Ran}
use Rattle.facet_serving.specs.Writing.{WritesLine}
use Rattle.facet_serving.specs.Statuses.{status_line}
use Rattle.facet_serving.specs.declared.status.Status.{Status}
use Rattle.facet_serving.specs.declared.status.Status.TheVariants.{Done, WriteFault, NoMemory}

-- the script that the words ask to be generated
abbrev pub generated_by : Option Words → Option Script
generated_by words = option_and_then (λ w. option_map (λ documents. generated documents w.sessions) w.generate) words

-- ---- how its sessions end, with this trace

module _ {D K : Type 0} (ghosts : Ghosts D) (s : Script) (old new : D) (sink : SinkGhosts K) (before now : K) where
  -- All orders were carried out, and memory was wanting for none. Of the line of their summary this is so.
  abbrev pub SumsUp : Trace → (List ℕ → Type 0) → Type 0
  SumsUp trace Line = (ran : Ran ghosts s.settings s.phases trace old new) × (summary : Summary)
      × (summary_of (replies_of ran.answered) ≡ Some summary)
      × Line (summary_line summary)

  -- The first phases were carried out, and of the next one, if any, the first orders of each session. Memory was
  -- wanting, and nothing but the line of that was written, or where a count of faults rose a beginning of it.
  pub record IsUnsummed (trace : Trace) : Type 0 where
    pub many : ℕ
    pub cut : List (List Order)
    pub is_cut : IsCutOff s.phases many cut
    pub ran : Ran ghosts s.settings (take many s.phases ++ cut) trace old new
    pub written : WritesLine sink before now (status_line NoMemory)

  -- by the status: the line of the summary was written; or a write failed after a beginning of it; or memory was
  -- wanting
  abbrev pub SummedAs : Trace → Status → Type 0
  SummedAs trace Done = SumsUp trace
      (λ line. Appends (sink.written before) (sink.written now) line × (sink.faults now ≡ sink.faults before))
  SummedAs trace WriteFault = Rose (sink.faults before) (sink.faults now)
      × SumsUp trace (λ line. (n : ℕ) × Appends (sink.written before) (sink.written now) (take n line))
  SummedAs trace NoMemory = IsUnsummed trace
  SummedAs trace _ = ⊥

  -- The store was opened, and its sessions ended.
  pub record Generates (left : Option Trace) (status : Status) : Type 0 where
    pub trace : Trace
    pub trace_is : left ≡ Some trace
    pub ended : SummedAs trace status

-- ---- what is written after the phases

-- the line of the summary of the replies that are tallied
abbrev pub IsLineOf : Tally → List ℕ → Type 0
IsLineOf total line = (replies : List Reply) → IsTallyOf replies total
    → (summary : Summary) × (summary_of replies ≡ Some summary) × (line ≡ summary_line summary)

module _ {K : Type 0} (total : Tally) (sink : SinkGhosts K) (before now : K) (status : Status) where
  -- the line of the summary, or without memory the line of that
  abbrev pub WritesSummary : Type 0
  WritesSummary = ((line : List ℕ) × IsLineOf total line × IsWritten line sink before now status)
      ⊎ IsWithoutMemory sink before now status

  -- the same after phases that ended so
  abbrev pub ClosesSummed : Result (Unit {0}) PhaseFault → Type 0
  ClosesSummed (Ok u) = WritesSummary
  ClosesSummed (Err phases.Read) = IsUnread sink before now status
  ClosesSummed (Err phases.Write) = IsWithoutMemory sink before now status
  ClosesSummed (Err phases.NoMemory) = IsWithoutMemory sink before now status
