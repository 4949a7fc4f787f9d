-- How a live process ends before its sessions begin.
use Rattle.std.specs.Prelude.{◌≡◌, ◌≢◌, ◌≤◌, ◌⊎◌, ℕ, Bool, true, false, List, [], length, Option, Some, None, Ok}
use Rattle.std.specs.Io.KnownBytes.{Consumes, IsAtEnd}
use Rattle.facet_disk.specs.Images.{Told}
use Rattle.facet_disk.specs.declared.disk.Disk.{Ghosts}
use Rattle.facet_engine.specs.declared.ending.Trace.{Trace}
use Rattle.facet_io.specs.Faults.{Rose}
use Rattle.facet_serving.specs.Ends.{EndsBefore}
use Rattle.facet_serving.specs.Statuses.{IsOpenLine, status_line}
use Rattle.facet_serving.specs.declared.status.Status.{Status}
use Rattle.facet_serving.specs.declared.status.Status.TheVariants.{Done, BadWords, ReadFault, WriteFault, BadScript}
use Rattle.facet_serving.specs.declared.status.Status.TheVariants.{DiskFault, BadStore, NoMemory, TooLong, OtherConfig}
use Rattle.facet_words.specs.Commands.{Settings}
use Rattle.facet_words.specs.Scripts.{config_at}
use Rattle.live_io.specs.declared.duplex.Duplex.{Ghosts as DuplexGhosts}
use Rattle.live_io.specs.Unread.{IsUnread, TakesLine, Unread}
use Rattle.live_lines.specs.Items.{first_reading}
use Rattle.live_lines.specs.Lines.{most_bytes}
use Rattle.live_lines.specs.Views.{reading_of}
use Rattle.live_serving.specs.Ends.{EndsInOpening, FirstTooLong, RefusesFirst, RefusesStore, ShortBefore, Tells}
use Rattle.live_serving.specs.Ends.{UnreadBefore, WasPrompt, expected_live}
use Rattle.live_serving.specs.FirstLine.{HasGot}
use Rattle.live_serving.specs.Firsts.{ReadsFirst}
use Rattle.live_serving.specs.Moments.{HasRead}
use Rattle.live_serving.specs.declared.first_line.FirstLine.{FirstLine}
use Rattle.live_serving.specs.declared.line_phases.LinePhases.{LinePhases}
use Rattle.store_opening.specs.declared.fault.OpenFault.TheVariants as faults

-- The first line has these settings. It was taken, and nothing was put or flushed.
pub record HasConfig {X : Type 0} (io : DuplexGhosts X) (from now : X) (p : LinePhases) (first : List ℕ)
    (settings : Settings) : Type 0 where
  pub got : List ℕ
  pub has : HasGot io from now got
  pub reads : io.read_faults now ≡ io.read_faults from
  pub read : HasRead p.is_ended p.only_reads first p got []
  pub ended : p.is_ended ≡ true → IsAtEnd (io.left now)
  pub rest : List (List ℕ)
  pub line : ReadsFirst io from now got first rest
  pub fits : length first ≤ most_bytes
  pub settings_is : config_at first ≡ Ok settings

module _ {X D : Type 0} (io : DuplexGhosts X) (disk : Ghosts D) (only_reads : Bool) (from to : X) (old new : D)
    (left : Option Trace) where
  -- what is so at each status
  abbrev pub LeavesAs : Status → Type 0
  LeavesAs ReadFault = UnreadBefore io disk from to old new left × Rose (io.read_faults from) (io.read_faults to)
  LeavesAs WriteFault = EndsInOpening io disk only_reads from to old new left
      × Rose (io.write_faults from) (io.write_faults to)
  LeavesAs NoMemory = ShortBefore io disk from to old new left
  LeavesAs BadScript = RefusesFirst io disk from to old new left
  LeavesAs BadStore = RefusesStore io disk from to old new left BadStore
  LeavesAs OtherConfig = RefusesStore io disk from to old new left OtherConfig
  LeavesAs TooLong = FirstTooLong io disk from to old new left × Tells io from to [] (status_line TooLong)
  LeavesAs DiskFault = ((line : List ℕ) × IsOpenLine faults.Disk line × Tells io from to [] line)
      × Rose (disk.faults old) (disk.faults new)
      × ((t : Told) → disk.told old ≡ Some t → Rose (disk.failures old) (disk.failures new))
  LeavesAs Done = ⊥
  LeavesAs BadWords = ⊥

  -- It ended so, and no session began.
  pub record Leaves (status : Status) : Type 0 where
    pub before : EndsBefore disk old new left
    pub got : List ℕ
    pub taken : Consumes (io.left from) (io.left to) got
    pub prompt : WasPrompt io from to (λ bytes. []) got
    pub so : LeavesAs status
    pub read_still : status ≢ ReadFault → io.read_faults to ≡ io.read_faults from
    pub disk_still : (status ≡ WriteFault) ⊎ (status ≡ NoMemory) ⊎ (status ≡ DiskFault)
        ⊎ (disk.faults new ≡ disk.faults old)
    pub expected : (input : List ℕ) (t : Told) → io.left from ≡ Some input → disk.told old ≡ Some t
        → (status ≡ expected_live input t.files) ⊎ (status ≡ NoMemory)
        ⊎ Rose (io.read_faults from) (io.read_faults to) ⊎ Rose (io.write_faults from) (io.write_faults to)
        ⊎ Rose (disk.faults old) (disk.faults new)

-- The first line was taken, and these are the phases of the lines behind it.
pub record BeginsAt (only_reads : Bool) (u : Unread) (line : FirstLine) (p : LinePhases) : Type 0 where
  pub reads : p.only_reads ≡ only_reads
  pub over : p.is_ended ≡ line.is_ended
  pub grouping : reading_of p.grouping ≡ first_reading
  pub taken : line.is_ended ≡ false → (limit : ℕ) (consumed got : List ℕ) → IsUnread limit consumed u got
      → TakesLine limit consumed u line.len p.reader got
