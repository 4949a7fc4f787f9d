-- What `run` promises: where a script is read, where documents are generated, and where the words are refused.
use Rattle.std.specs.Prelude.{◌≡◌, ◌≢◌, ◌⊎◌, ℕ, List, Option, Some, None}
use Rattle.facet_disk.specs.Images.{Told}
use Rattle.facet_disk.specs.declared.disk.Disk.{Ghosts}
use Rattle.facet_engine.specs.declared.ending.Trace.{Trace}
use Rattle.facet_io.specs.Faults.{Rose}
use Rattle.facet_io.specs.declared.sink.Sink.{Ghosts as SinkGhosts}
use Rattle.facet_io.specs.declared.source.Source.{Ghosts as SourceGhosts}
use Rattle.facet_serving.specs.Ends.{EndsBefore, EndsPartly, EndsShort, EndsWhole, RunsSessions, TellsOfScript}
use Rattle.facet_serving.specs.Ends.{TellsOfStore, expected, opened_status}
use Rattle.facet_serving.specs.Generating.{Generates}
use Rattle.facet_serving.specs.Reading.{ReadsScript, ReadsSome, ReadsTooMuch, ReadsWithin}
use Rattle.facet_serving.specs.Serving.{StaysShut}
use Rattle.facet_serving.specs.Statuses.{in_use_line, status_line}
use Rattle.facet_serving.specs.Writing.{WritesLine}
use Rattle.facet_serving.specs.declared.status.Status.{Status}
use Rattle.facet_serving.specs.declared.status.Status.TheVariants.{Done, BadWords, ReadFault, WriteFault, BadScript}
use Rattle.facet_serving.specs.declared.status.Status.TheVariants.{DiskFault, BadStore, NoMemory, TooLong, OtherConfig}
use Rattle.facet_words.specs.Commands.{Script}
use Rattle.store_opening.specs.Files.{files}

-- the source, the sink and the disk of a run, at one moment
pub record Resources (S K D : Type 0) : Type 0 where
  pub source : S
  pub sink : K
  pub disk : D

abbrev pub resources : {S K D : Type 0} → S → K → D → Resources S K D
resources source sink disk = record { source = source; sink = sink; disk = disk }

-- Of a run between two moments of its resources, with the trace and the status that it left.
module _ {S K D : Type 0} (source : SourceGhosts S) (sink : SinkGhosts K) (disk : Ghosts D)
    (before after : Resources S K D) (trace : Option Trace) (status : Status) where
  -- A script is read and carried out.
  pub record RunsScript : Type 0 where
    -- What was read, carried out and written at each end. Where no session began, the disk is as it was.
    pub done : status ≡ Done → RunsSessions source before.source after.source trace
        (λ s t. EndsWhole disk s t before.disk after.disk sink before.sink after.sink)
    pub write_fault : status ≡ WriteFault → RunsSessions source before.source after.source trace
        (λ s t. EndsPartly disk s t before.disk after.disk sink before.sink after.sink)
    pub no_memory : status ≡ NoMemory → RunsSessions source before.source after.source trace
        (λ s t. EndsShort disk s t before.disk after.disk sink before.sink after.sink)
        ⊎ EndsBefore disk before.disk after.disk trace
    pub quiet : (status ≡ Done) ⊎ (status ≡ WriteFault) ⊎ (status ≡ NoMemory)
        ⊎ EndsBefore disk before.disk after.disk trace
    pub bad_script : status ≡ BadScript → TellsOfScript source before.source after.source sink before.sink after.sink
    pub not_opened : (status ≡ BadStore) ⊎ (status ≡ OtherConfig)
        → TellsOfStore disk source before.source after.source sink before.sink after.sink before.disk status
    pub too_long : status ≡ TooLong → ReadsTooMuch source before.source after.source
    pub at_most : ReadsSome source before.source after.source
    -- The line of the status is written, or where the disk failed maybe that another process has the store.
    pub told : trace ≡ None → (status ≡ BadScript) ⊎ (status ≡ BadStore) ⊎ (status ≡ OtherConfig)
        ⊎ WritesLine sink before.sink after.sink (status_line status)
        ⊎ ((status ≡ DiskFault) × WritesLine sink before.sink after.sink in_use_line)
    -- When each end comes.
    pub bad_words : status ≢ BadWords
    pub read_failed : status ≡ ReadFault → ReadsWithin source before.source after.source
        × Rose (source.faults before.source) (source.faults after.source)
    pub write_failed : status ≡ WriteFault → Rose (sink.faults before.sink) (sink.faults after.sink)
    pub disk_failed : status ≡ DiskFault
        → ReadsScript source before.source after.source × Rose (disk.faults before.disk) (disk.faults after.disk)
    pub device_failed : status ≡ DiskFault → (t : Told) → disk.told before.disk ≡ Some t
        → Rose (disk.failures before.disk) (disk.failures after.disk)
    -- Counts of faults stay where nothing failed. That of the disk may rise in a commit, whose reply reports it.
    pub source_still : status ≢ ReadFault → source.faults after.source ≡ source.faults before.source
    pub sink_still : status ≡ Done → sink.faults after.sink ≡ sink.faults before.sink
    pub disk_still : (status ≡ Done) ⊎ (status ≡ WriteFault) ⊎ (status ≡ NoMemory) ⊎ (status ≡ DiskFault)
        ⊎ (disk.faults after.disk ≡ disk.faults before.disk)
    -- Where nothing failed and there was memory, the bytes and the files decide the status.
    pub complete : (input : List ℕ) (t : Told) → source.left before.source ≡ Some input → disk.told before.disk ≡ Some t
        → ¬ Rose (source.faults before.source) (source.faults after.source)
        → ¬ Rose (sink.faults before.sink) (sink.faults after.sink)
        → ¬ Rose (disk.faults before.disk) (disk.faults after.disk)
        → (status ≡ expected input t.files) ⊎ (status ≡ NoMemory)

  -- The documents of this script are generated, and nothing is read. The replies are right, and the line of their
  -- summary is written; or the store was not opened.
  pub record RunsGenerated (s : Script) : Type 0 where
    pub unread : after.source ≡ before.source
    pub generated : Generates disk s before.disk after.disk sink before.sink after.sink trace status
        ⊎ StaysShut disk s before.disk after.disk sink before.sink after.sink trace status
    pub device_failed : status ≡ DiskFault → (t : Told) → disk.told before.disk ≡ Some t
        → Rose (disk.failures before.disk) (disk.failures after.disk)
    pub generated_complete : (t : Told) → disk.told before.disk ≡ Some t
        → ¬ Rose (sink.faults before.sink) (sink.faults after.sink)
        → ¬ Rose (disk.faults before.disk) (disk.faults after.disk)
        → (status ≡ opened_status (files s.settings.config t.files)) ⊎ (status ≡ NoMemory)

  -- The words are refused: nothing is read, the disk is as it was, and the line of the status is written.
  pub record RefusesWords : Type 0 where
    pub words_refused : (status ≡ BadWords) ⊎ (status ≡ NoMemory)
    pub unread : after.source ≡ before.source
    pub quiet : EndsBefore disk before.disk after.disk trace
    pub told : WritesLine sink before.sink after.sink (status_line status)
    pub disk_still : disk.faults after.disk ≡ disk.faults before.disk
