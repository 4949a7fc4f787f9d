-- What is written after the phases.
use Rattle.std.specs.Prelude.{◌≡◌, ◌⊎◌, ℕ, List, take, Result, Ok, Err}
use Rattle.std.specs.Io.KnownBytes.{Appends}
use Rattle.facet_io.specs.Faults.{Rose}
use Rattle.facet_io.specs.declared.sink.Sink.{Ghosts as SinkGhosts}
use Rattle.facet_phases.specs.declared.fault.PhaseFault.{PhaseFault}
use Rattle.facet_phases.specs.declared.fault.PhaseFault.TheVariants as phases
use Rattle.facet_serving.specs.Writing.{WritesLine}
use Rattle.facet_serving.specs.Statuses.{status_line}
use Rattle.facet_serving.specs.declared.status.Status.{Status}
use Rattle.facet_serving.specs.declared.status.Status.TheVariants.{Done, ReadFault, WriteFault, NoMemory}

module _ {K : Type 0} where
  -- the line was written, or a write failed after a prefix of it
  abbrev pub IsWritten : List ℕ → SinkGhosts K → K → K → Status → Type 0
  IsWritten line sink before now status =
      ((status ≡ Done) × Appends (sink.written before) (sink.written now) line × (sink.faults now ≡ sink.faults before))
      ⊎ ((status ≡ WriteFault) × Rose (sink.faults before) (sink.faults now)
      × ((n : ℕ) × Appends (sink.written before) (sink.written now) (take n line)))

  -- memory was wanting, and the line of that was written
  abbrev pub IsWithoutMemory : SinkGhosts K → K → K → Status → Type 0
  IsWithoutMemory sink before now status = (status ≡ NoMemory) × WritesLine sink before now (status_line NoMemory)

  -- the phases could not be read on, and the line of that was written
  abbrev pub IsUnread : SinkGhosts K → K → K → Status → Type 0
  IsUnread sink before now status = (status ≡ ReadFault) × WritesLine sink before now (status_line ReadFault)

  -- Behind phases that ended so: the last line, or where a write failed nothing, or without memory or where the phases
  -- could not be read on the line of that.
  abbrev pub Closes : List ℕ → Result (Unit {0}) PhaseFault → SinkGhosts K → K → K → Status → Type 0
  Closes line (Ok u) sink before now status =
      IsWritten line sink before now status ⊎ IsWithoutMemory sink before now status
  Closes line (Err phases.Write) sink before now status = (status ≡ WriteFault) × (now ≡ before)
  Closes line (Err phases.NoMemory) sink before now status = IsWithoutMemory sink before now status
  Closes line (Err phases.Read) sink before now status = IsUnread sink before now status
