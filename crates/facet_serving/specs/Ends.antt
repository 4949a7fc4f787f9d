-- How a run ends.
use Rattle.std.specs.Prelude.{◌≡◌, ◌<◌, ◌+◌, ◌++◌, ◌⊎◌, ℕ, nat_lt, if◌then◌else◌, List, length, take, Option, Some}
use Rattle.std.specs.Prelude.{None, Result, Ok, Err}
use Rattle.std.specs.Io.KnownBytes.{Appends}
use Rattle.facet_disk.specs.declared.disk.Disk.{Ghosts}
use Rattle.facet_disk.specs.Images.{Image, Told}
use Rattle.facet_engine.specs.declared.ending.Trace.{Trace}
use Rattle.facet_io.specs.Faults.{Rose}
use Rattle.facet_io.specs.declared.sink.Sink.{Ghosts as SinkGhosts}
use Rattle.facet_io.specs.declared.source.Source.{Ghosts as SourceGhosts}
use Rattle.facet_output.specs.OutputLines.{reply_lines}
use Rattle.facet_words.specs.FaultLines.{fault_line}
use Rattle.facet_words.specs.declared.fault.ScriptFault.{ScriptFault}
use Rattle.facet_words.specs.Commands.{Order, Script}
use Rattle.facet_words.specs.Scripts.{script}
use Rattle.facet_phases.specs.Runs.{IsCutOff}
use Rattle.store_opening.specs.Faults.{IsSound}
use Rattle.store_opening.specs.Files.{Found, files}
use Rattle.store_opening.specs.Quiet.{IsQuiet}
use Rattle.store_opening.specs.declared.fault.OpenFault.{OpenFault}
use Rattle.facet_serving.specs.Reading.{ReadsWhole, script_limit}
use Rattle.facet_serving.specs.Sessions.{Ran, bytes_of, last_of_run, lines_before, lines_in}
use Rattle.facet_serving.specs.Writing.{WritesBehind, WritesLine}
use Rattle.facet_serving.specs.Statuses.{fault_status, open_line, status_line}
use Rattle.facet_serving.specs.declared.status.Status.{Status}
use Rattle.facet_serving.specs.declared.status.Status.TheVariants.{Done, BadScript, NoMemory, TooLong}

-- ---- how the sessions of a script end, with this trace

-- all orders were carried out, and all was written
abbrev pub EndsWhole : {D K : Type 0} → Ghosts D → Script → Trace → D → D → SinkGhosts K → K → K → Type 0
EndsWhole ghosts s trace old new sink before now = (ran : Ran ghosts s.settings s.phases trace old new)
    × Appends (sink.written before) (sink.written now) (bytes_of ran) × (sink.faults now ≡ sink.faults before)

-- So many phases were carried out and then one more, and no other. All lines of those before it were written, and of
-- its own a beginning.
pub record EndsInPhase {D K : Type 0} (ghosts : Ghosts D) (s : Script) (trace : Trace) (old new : D)
    (sink : SinkGhosts K) (before now : K) : Type 0 where
  pub many : ℕ
  pub one_more : many < length s.phases
  pub ran : Ran ghosts s.settings (take (many + 1) s.phases) trace old new
  pub some : ℕ
  pub written : Appends (sink.written before) (sink.written now)
      (lines_before many ran.answered ++ take some (lines_in many ran.answered))

-- All phases were carried out. All of their lines were written, and of the last line a beginning.
pub record EndsInLastLine {D K : Type 0} (ghosts : Ghosts D) (s : Script) (trace : Trace) (old new : D)
    (sink : SinkGhosts K) (before now : K) : Type 0 where
  pub ran : Ran ghosts s.settings s.phases trace old new
  pub some : ℕ
  pub written : Appends (sink.written before) (sink.written now)
      (reply_lines ran.answered ++ take some (last_of_run ran))

-- A write failed: of the lines of the last phase that was carried out, or of the last line.
abbrev pub EndsPartly : {D K : Type 0} → Ghosts D → Script → Trace → D → D → SinkGhosts K → K → K → Type 0
EndsPartly ghosts s trace old new sink before now = Rose (sink.faults before) (sink.faults now)
    × (EndsInPhase ghosts s trace old new sink before now ⊎ EndsInLastLine ghosts s trace old new sink before now)

-- The first phases were carried out, and of the next one, if any, the first orders of each session. The lines of the
-- whole phases were written, and after these the line of status 8, or where a count of faults rose a beginning
-- of it.
pub record EndsShort {D K : Type 0} (ghosts : Ghosts D) (s : Script) (trace : Trace) (old new : D) (sink : SinkGhosts K)
    (before now : K) : Type 0 where
  pub many : ℕ
  pub cut : List (List Order)
  pub is_cut : IsCutOff s.phases many cut
  pub ran : Ran ghosts s.settings (take many s.phases ++ cut) trace old new
  pub written : WritesBehind sink before now (lines_before many ran.answered) (status_line NoMemory)

-- What was read is a script, whose sessions began. This is their trace, and so they ended.
pub record RunsSessions {S : Type 0} (source : SourceGhosts S) (from to : S) (left : Option Trace)
    (ends : Script → Trace → Type 0) : Type 0 where
  pub input : List ℕ
  pub read : ReadsWhole source from to input
  pub is : Script
  pub script_is : script input ≡ Ok is
  pub trace : Trace
  pub trace_is : left ≡ Some trace
  pub ended : ends is trace

-- ---- how a run ends without sessions

-- no session began, and the disk is as it was
abbrev pub EndsBefore : {D : Type 0} → Ghosts D → D → D → Option Trace → Type 0
EndsBefore ghosts old new left = (left ≡ None) × IsQuiet ghosts old new

-- what was read is no script, and the line of its first fault was written, or where a count of faults rose a prefix of
-- it
abbrev pub TellsOfScript : {S K : Type 0} → SourceGhosts S → S → S → SinkGhosts K → K → K → Type 0
TellsOfScript source from to sink before now =
    (input : List ℕ) × (fault : ScriptFault) × ReadsWhole source from to input × (script input ≡ Err fault)
    × WritesLine sink before now (fault_line fault)

-- What was read is a script, and its store was not opened for a fault, of whose line, or where a count of faults rose
-- of a prefix of it, this says; where the disk reports its files, they have this fault.
pub record TellsOfStore {D S K : Type 0} (ghosts : Ghosts D) (source : SourceGhosts S) (from to : S)
    (sink : SinkGhosts K) (before now : K) (disk : D) (status : Status) : Type 0 where
  pub input : List ℕ
  pub read : ReadsWhole source from to input
  pub is : Script
  pub script_is : script input ≡ Ok is
  pub fault : OpenFault
  pub ends : fault_status fault ≡ status
  pub sound : IsSound fault
  pub stored : (s : Told) → ghosts.told disk ≡ Some s → files is.settings.config s.files ≡ Err fault
  pub written : WritesLine sink before now (open_line fault)

-- ---- completeness

-- how a run ends that opens these files
abbrev pub opened_status : Result Found OpenFault → Status
opened_status (Ok found) = Done
opened_status (Err fault) = fault_status fault

-- how a run of a script ends over these files
abbrev pub script_status : Result Script ScriptFault → Image → Status
script_status (Ok s) image = opened_status (files s.settings.config image)
script_status (Err fault) image = BadScript

-- how a run over these bytes and these files ends where nothing fails and there is memory
abbrev pub expected : List ℕ → Image → Status
expected input image = if nat_lt script_limit (length input) then TooLong else script_status (script input) image
