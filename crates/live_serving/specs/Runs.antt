-- What `serve_live` promises.
use Rattle.std.specs.Prelude.{◌≡◌, ◌≢◌, ◌⊎◌, ℕ, Bool, List, [], Option, Some, None}
use Rattle.std.specs.Io.KnownBytes.{Consumes}
use Rattle.facet_disk.specs.Images.{Told}
use Rattle.facet_disk.specs.declared.disk.Disk.{Ghosts}
use Rattle.facet_engine.specs.declared.ending.Trace.{Trace}
use Rattle.facet_io.specs.Faults.{Rose}
use Rattle.facet_serving.specs.Ends.{EndsBefore}
use Rattle.facet_serving.specs.Statuses.{IsOpenLine, status_line}
use Rattle.facet_serving.specs.declared.status.Status.{Status}
use Rattle.facet_serving.specs.declared.status.Status.TheVariants.{Done, BadWords, ReadFault, WriteFault, BadScript}
use Rattle.facet_serving.specs.declared.status.Status.TheVariants.{DiskFault, BadStore, NoMemory, TooLong, OtherConfig}
use Rattle.live_io.specs.declared.duplex.Duplex.{Ghosts as DuplexGhosts}
use Rattle.live_serving.specs.Ends.{FirstTooLong, LivesPartly, LivesShort, LivesUnread, LivesWhole}
use Rattle.live_serving.specs.Ends.{RefusesFirst, RefusesStore, ShortBefore, Tells, UnreadBefore, WasPrompt}
use Rattle.live_serving.specs.Ends.{expected_live}
use Rattle.store_opening.specs.declared.fault.OpenFault.TheVariants as faults

-- Of a live process that only reads or also writes, between two moments of its input and output and of its disk, with
-- the trace and the status that it left.
pub record RunsLive {X D : Type 0} (io : DuplexGhosts X) (disk : Ghosts D) (only_reads : Bool) (from to : X) (old new : D)
    (trace : Option Trace) (status : Status) : Type 0 where
  -- What was read, carried out and written at each end.
  pub done : status ≡ Done → LivesWhole io disk only_reads from to old new trace
  pub write_fault : status ≡ WriteFault → LivesPartly io disk only_reads from to old new trace
  pub read_fault : status ≡ ReadFault → LivesUnread io disk only_reads from to old new trace
      ⊎ UnreadBefore io disk from to old new trace
  pub no_memory : status ≡ NoMemory → LivesShort io disk only_reads from to old new trace
      ⊎ ShortBefore io disk from to old new trace
  pub bad_script : status ≡ BadScript → RefusesFirst io disk from to old new trace
  pub not_opened : (status ≡ BadStore) ⊎ (status ≡ OtherConfig) → RefusesStore io disk from to old new trace status
  pub too_long : status ≡ TooLong → FirstTooLong io disk from to old new trace
  pub quiet : (status ≡ Done) ⊎ (status ≡ WriteFault) ⊎ (status ≡ ReadFault) ⊎ (status ≡ NoMemory)
      ⊎ EndsBefore disk old new trace
  pub disk_told : status ≡ DiskFault → (line : List ℕ) × IsOpenLine faults.Disk line × Tells io from to [] line
  pub long_told : status ≡ TooLong → Tells io from to [] (status_line TooLong)
  -- When each end comes.
  pub bad_words : status ≢ BadWords
  pub read_failed : status ≡ ReadFault → Rose (io.read_faults from) (io.read_faults to)
  pub write_failed : status ≡ WriteFault → Rose (io.write_faults from) (io.write_faults to)
  pub disk_failed : status ≡ DiskFault → Rose (disk.faults old) (disk.faults new)
  pub device_failed : status ≡ DiskFault → (t : Told) → disk.told old ≡ Some t
      → Rose (disk.failures old) (disk.failures new)
  -- Counts of faults stay where nothing failed. That of the disk may rise in a commit, whose reply reports it.
  pub read_still : status ≢ ReadFault → io.read_faults to ≡ io.read_faults from
  pub write_still : status ≡ Done → io.write_faults to ≡ io.write_faults from
  pub disk_still : (status ≡ Done) ⊎ (status ≡ WriteFault) ⊎ (status ≡ ReadFault) ⊎ (status ≡ NoMemory)
      ⊎ (status ≡ DiskFault) ⊎ (disk.faults new ≡ disk.faults old)
  -- Without sessions nothing was due, and nothing was flushed before a read call. With sessions `Served` says it.
  pub prompt : trace ≡ None → (got : List ℕ) × Consumes (io.left from) (io.left to) got
      × WasPrompt io from to (λ bytes. []) got
  -- Where nothing failed and there was memory, the bytes and the files decide the status.
  pub complete : (input : List ℕ) (t : Told) → io.left from ≡ Some input → disk.told old ≡ Some t
      → ¬ Rose (io.read_faults from) (io.read_faults to) → ¬ Rose (io.write_faults from) (io.write_faults to)
      → ¬ Rose (disk.faults old) (disk.faults new) → (status ≡ expected_live input t.files) ⊎ (status ≡ NoMemory)
