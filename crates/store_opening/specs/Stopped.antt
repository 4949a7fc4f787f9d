-- A disk in memory, after a crash.
use Rattle.std.specs.Prelude.{◌≡◌, [], Some}
use Rattle.facet_disk.specs.declared.disk.Disk.{Ghosts}
use Rattle.facet_disk.specs.Memory.{MemoryState, memory_told, memory_leaves, memory_moment, memory_left_since}
use Rattle.facet_model.specs.Flags.{Config}
use Rattle.store_opening.specs.Settled.{IsSettled}

-- a disk in memory as a disk
abbrev pub memory_disk : Ghosts MemoryState
memory_disk = record {
  told = λ d. Some (memory_told d);
  may_leave = memory_leaves;
  moment = memory_moment;
  left_since = memory_left_since;
  faults = λ d. d.calls.faults;
  failures = λ d. d.calls.failures;
}

-- without a change since the beginning, as after a crash, it is settled
abbrev pub StoppedSettles : MemoryState → Type 0
StoppedSettles d = d.changes ≡ [] → (config : Config) → IsSettled memory_disk config (memory_told d) d
