-- What is put at the end of a live process.
use Rattle.std.specs.Prelude.{◌≡◌, ◌⊎◌, ℕ, List, Result, Ok, Err}
use Rattle.facet_phases.specs.declared.fault.PhaseFault.{PhaseFault}
use Rattle.facet_phases.specs.declared.fault.PhaseFault.TheVariants as phases
use Rattle.facet_serving.specs.Statuses.{status_line}
use Rattle.facet_serving.specs.declared.status.Status.{Status}
use Rattle.facet_serving.specs.declared.status.Status.TheVariants.{Done, ReadFault, WriteFault, NoMemory}
use Rattle.live_io.specs.declared.duplex.Duplex.{Ghosts}
use Rattle.live_serving.specs.Answering.{Puts, PutsSome}

module _ {X : Type 0} (io : Ghosts X) (before now : X) where
  -- the line was put, or where a write failed a beginning of it
  abbrev pub PutsLine : List ℕ → Type 0
  PutsLine line = Puts io before now line ⊎ PutsSome io before now line

  -- Behind phases that ended so: the last line, or where a write failed nothing, or without memory or where the phases
  -- could not be read on the line of that.
  abbrev pub Closes : List ℕ → Result (Unit {0}) PhaseFault → Status → Type 0
  Closes line (Ok u) status = ((status ≡ Done) × Puts io before now line)
      ⊎ ((status ≡ WriteFault) × PutsSome io before now line)
      ⊎ ((status ≡ NoMemory) × PutsLine (status_line NoMemory))
  Closes line (Err phases.Write) status = (status ≡ WriteFault) × (now ≡ before)
  Closes line (Err phases.NoMemory) status = (status ≡ NoMemory) × PutsLine (status_line NoMemory)
  Closes line (Err phases.Read) status = (status ≡ ReadFault) × PutsLine (status_line ReadFault)
