-- How a script ends whose store was opened, or not.
use Rattle.std.specs.Prelude.{◌≡◌, ◌≢◌, ◌⊎◌, ◌∷◌, ℕ, List, [], length, take, Option, Some, None, Err}
use Rattle.commit_turns.specs.Frames.{HasNumbers}
use Rattle.facet_disk.specs.Calls as disk
use Rattle.facet_disk.specs.declared.disk.Disk.{Ghosts}
use Rattle.facet_disk.specs.Images.{Told}
use Rattle.facet_engine.specs.declared.ending.Trace.{Trace}
use Rattle.facet_engine.specs.declared.opening.Store.{Store}
use Rattle.facet_io.specs.declared.sink.Sink.{Ghosts as SinkGhosts}
use Rattle.facet_model.specs.Flags.{Config}
use Rattle.facet_output.specs.Answered.{Answered}
use Rattle.facet_output.specs.Output.{Opened}
use Rattle.facet_output.specs.Seen.{Seen}
use Rattle.facet_phases.specs.Runs.{EndedSo, EndsBy, HasRun}
use Rattle.facet_phases.specs.Taking.{At}
use Rattle.facet_phases.specs.declared.collector.Output.{Ghosts as OutputGhosts}
use Rattle.facet_phases.specs.declared.outcome.RanToEnd.{RanToEnd}
use Rattle.facet_phases.specs.declared.phases.Phases.{Ghosts as PhasesGhosts}
use Rattle.pair_manager.specs.declared.pass.Pass.{Pass}
use Rattle.facet_words.specs.Commands.{Script, Settings}
use Rattle.store_opening.specs.Faults.{IsSound}
use Rattle.store_opening.specs.Files.{files, greatest_number}
use Rattle.store_opening.specs.Newest.{next_after}
use Rattle.store_opening.specs.Quiet.{IsQuiet}
use Rattle.store_opening.specs.declared.fault.OpenFault.{OpenFault}
use Rattle.store_opening.specs.declared.fault.OpenFault.TheVariants.{Disk as OfDisk, NoMemory as NoRoom}
use Rattle.facet_serving.specs.Ends.{EndsPartly, EndsShort, EndsWhole}
use Rattle.facet_serving.specs.Sessions.{IsTraceOf}
use Rattle.facet_serving.specs.Stores.{Keeps, Opens}
use Rattle.facet_serving.specs.Writing.{WritesLine, WritesOpenLine}
use Rattle.facet_serving.specs.Statuses.{fault_status, status_line}
use Rattle.facet_serving.specs.declared.status.Status.{Status}
use Rattle.facet_serving.specs.declared.status.Status.TheVariants.{Done, WriteFault, NoMemory}

-- where the disk of a store reported its files, the next file takes the number after all of theirs
abbrev pub GoesOnBehind : {D : Type 0} → Ghosts D → Store D → Type 0
GoesOnBehind ghosts store = (t : Told) → ghosts.told store.start.value ≡ Some t
    → store.committer.state.next ≡ next_after (greatest_number t.files)

-- Sessions were carried out on a store that was opened with a config: the numbers of what was opened, and how they
-- ended, by what gave the phases and what the replies went to, between two moments of both.
pub record IsCarriedOut {C D P O : Type 0} (ghosts : Ghosts D) (settings : Settings) (start : D)
    (phases : PhasesGhosts P O) (output : OutputGhosts O C) (before now : At P O) (pair : ℕ × ℕ)
    (ran : RanToEnd D) : Type 0 where
  pub opened : Opened
  pub last : Seen
  pub first : Pass
  pub next : ℕ
  pub at : ℕ
  pub faults : ℕ
  pub failures : ℕ
  pub numbers : HasNumbers next at faults failures first.commits.frame
  pub next_is : (t : Told) → ghosts.told start ≡ Some t → next ≡ next_after (greatest_number t.files)
  pub pair_is : pair ≡ (length opened.docs, length opened.labels)
  pub rooted : take 1 opened.labels ≡ [] ∷ []
  pub opens : Opens ghosts settings.config start opened
  pub traced : IsTraceOf ran.ended.trace last
  pub keeps : Keeps ghosts settings.config last start ran.ended.disk
  pub ended : EndsBy phases output (HasRun settings opened first last) before now ran.result

-- The sessions of a script were carried out on a store that was opened: the numbers of what was opened, and how they
-- ended. Handing over what was kept of all replies of some phases is so, and that it failed for those of the last one.
pub record IsCarried {D : Type 0} (ghosts : Ghosts D) (s : Script) (start : D) (Flushes : List Answered → Type 0)
    (Breaks : List Answered → List Answered → Type 0)
    (pair : ℕ × ℕ) (ran : RanToEnd D) : Type 0 where
  pub opened : Opened
  pub last : Seen
  pub first : Pass
  pub next : ℕ
  pub at : ℕ
  pub faults : ℕ
  pub failures : ℕ
  pub numbers : HasNumbers next at faults failures first.commits.frame
  pub next_is : (t : Told) → ghosts.told start ≡ Some t → next ≡ next_after (greatest_number t.files)
  pub pair_is : pair ≡ (length opened.docs, length opened.labels)
  pub rooted : take 1 opened.labels ≡ [] ∷ []
  pub opens : Opens ghosts s.settings.config start opened
  pub traced : IsTraceOf ran.ended.trace last
  pub keeps : Keeps ghosts s.settings.config last start ran.ended.disk
  pub ended : EndedSo (HasRun s.settings opened first last) Flushes Breaks s.phases ran.result

module _ {D K : Type 0} (ghosts : Ghosts D) (s : Script) (old new : D) (sink : SinkGhosts K) (before now : K) where
  -- the sessions ended so, by the status
  abbrev pub EndsAs : Trace → Status → Type 0
  EndsAs trace Done = EndsWhole ghosts s trace old new sink before now
  EndsAs trace WriteFault = EndsPartly ghosts s trace old new sink before now
  EndsAs trace NoMemory = EndsShort ghosts s trace old new sink before now
  EndsAs trace _ = ⊥

  -- The store was opened, and its sessions ended.
  pub record Serves (left : Option Trace) (status : Status) : Type 0 where
    pub trace : Trace
    pub trace_is : left ≡ Some trace
    pub ended : EndsAs trace status

-- Why a store was not opened: the disk failed, there was no memory, or where the disk reports its files, they have this
-- fault. Unless the disk failed, its count of faults stays.
abbrev pub IsCause : {D : Type 0} → Ghosts D → Config → D → D → OpenFault → Type 0
IsCause ghosts config old new fault = (fault ≡ OfDisk → disk.Rose (ghosts.faults old) (ghosts.faults new))
    × (fault ≢ NoRoom → fault ≢ OfDisk → (t : Told) → ghosts.told old ≡ Some t → files config t.files ≡ Err fault)
    × (fault ≢ OfDisk → ghosts.faults new ≡ ghosts.faults old) × IsSound fault

-- The store was not opened, and its disk is as before: for a fault, whose line was written; or because memory ran out.
pub record StaysShut {D K : Type 0} (ghosts : Ghosts D) (s : Script) (old new : D) (sink : SinkGhosts K)
    (before now : K) (left : Option Trace) (status : Status) : Type 0 where
  pub no_trace : left ≡ None
  pub quiet : IsQuiet ghosts old new
  pub cause : ((fault : OpenFault) × (fault_status fault ≡ status) × IsCause ghosts s.settings.config old new fault
      × WritesOpenLine sink before now fault)
      ⊎ ((status ≡ NoMemory) × WritesLine sink before now (status_line NoMemory))
