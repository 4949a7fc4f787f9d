-- How a live process ends.
use Rattle.std.specs.Prelude.{◌≡◌, ◌<◌, ◌+◌, ◌++◌, ◌∷◌, ◌⊎◌, ℕ, Bool, nat_lt, if◌then◌else◌, List, [], flat_map, length}
use Rattle.std.specs.Prelude.{map, take, Option, Some, None, Result, Ok, Err, All}
use Rattle.std.specs.Io.KnownBytes.{Appends, Consumes, IsAtEnd}
use Rattle.facet_disk.specs.declared.disk.Disk.{Ghosts}
use Rattle.facet_disk.specs.Images.{Image, Told}
use Rattle.facet_engine.specs.declared.ending.Trace.{Trace}
use Rattle.facet_io.specs.Faults.{Rose}
use Rattle.facet_output.specs.Answered.{Answered}
use Rattle.facet_output.specs.Output.{Opened, opened_pair}
use Rattle.facet_output.specs.OutputLines.{reply_lines}
use Rattle.facet_phases.specs.Runs.{HasFirstOf}
use Rattle.facet_serving.specs.Ends.{EndsBefore, opened_status}
use Rattle.facet_serving.specs.Sessions.{Ran, last_of_run}
use Rattle.facet_serving.specs.Statuses.{fault_status, open_line, status_line}
use Rattle.facet_serving.specs.Stores.{Opens}
use Rattle.facet_serving.specs.declared.status.Status.{Status}
use Rattle.facet_serving.specs.declared.status.Status.TheVariants.{BadScript, NoMemory, ReadFault, TooLong}
use Rattle.facet_words.specs.Commands.{Order, Settings}
use Rattle.facet_words.specs.FaultLines.{fault_line}
use Rattle.facet_words.specs.Lines.{lines_of}
use Rattle.facet_words.specs.Scripts.{config_at}
use Rattle.facet_words.specs.declared.fault.ScriptFault.{ScriptFault}
use Rattle.facet_words.specs.declared.fault.ScriptFault.TheVariants.{NoConfigFirst}
use Rattle.live_io.specs.Events.{Event, IsPrompt, got_in}
use Rattle.live_io.specs.declared.duplex.Duplex.{Ghosts as DuplexGhosts}
use Rattle.live_lines.specs.FaultLines.{opened_line}
use Rattle.live_lines.specs.ItemLaws.{phases_in}
use Rattle.live_lines.specs.Items.{Item, first_reading, items_from, live_items}
use Rattle.live_lines.specs.Lines.{most_bytes}
use Rattle.live_serving.specs.Firsts.{ReadsFirst}
use Rattle.live_serving.specs.Lines.{due, fault_lines, live_lines, said, whole_lines}
use Rattle.store_opening.specs.Faults.{IsSound}
use Rattle.store_opening.specs.Files.{files}
use Rattle.store_opening.specs.declared.fault.OpenFault.{OpenFault}

-- ---- replies

-- each reply of the first list is of the phase with this number, each of the next list of the next phase, and so on
abbrev pub AreOfPhases : ℕ → List (List Answered) → Type 0
AreOfPhases phase [] = Unit {0}
AreOfPhases phase (answered ∷ replies) = All (λ a. a.phase ≡ phase) answered × AreOfPhases (phase + 1) replies

-- The replies of so many phases, phase by phase. Those after them, if any, are of a phase that was cut off.
pub record AreReplies (many : ℕ) (answered : List Answered) (replies : List (List Answered)) : Type 0 where
  pub as_many : length replies ≡ many
  pub cut : List Answered
  pub all : answered ≡ flat_map (λ a. a) replies ++ cut
  pub phases : AreOfPhases 0 replies

-- ---- what was got and what was written

module _ {X : Type 0} (io : DuplexGhosts X) (from to : X) where
  -- Where nothing had happened before, the events are known. Of these bytes that were got, what was due was put and
  -- flushed before each further read call.
  abbrev pub WasPrompt : (List ℕ → List ℕ) → List ℕ → Type 0
  WasPrompt due_then got = io.events from ≡ Some []
      → (es : List Event) × (io.events to ≡ Some es) × (got_in es ≡ got) × IsPrompt due_then es

  -- exactly these bytes were written, and no fault was counted of that
  abbrev pub WritesAll : List ℕ → Type 0
  WritesAll bytes = Appends (io.written from) (io.written to) bytes × (io.write_faults to ≡ io.write_faults from)

  -- a write or a flush failed, and exactly these bytes were written
  abbrev pub BreaksOff : List ℕ → Type 0
  BreaksOff bytes = Rose (io.write_faults from) (io.write_faults to) × Appends (io.written from) (io.written to) bytes

  -- these bytes were written and then a line, or where a write failed a beginning of it
  abbrev pub Tells : List ℕ → List ℕ → Type 0
  Tells bytes line = WritesAll (bytes ++ line) ⊎ ((n : ℕ) × BreaksOff (bytes ++ take n line))

-- ---- how it ends with sessions

-- A live process that only reads or also writes, between two moments of its input and output and of its disk, and the
-- trace that it left.
module _ {X D : Type 0} (io : DuplexGhosts X) (disk : Ghosts D) (only_reads : Bool) (from to : X) (old new : D)
    (left : Option Trace) where
  -- The first line has settings, and sessions began. The bytes that were got; these phases, which were carried out; and
  -- the replies to these items.
  pub record Served (phases : List (List Order)) (items : List Item) : Type 0 where
    pub got : List ℕ
    pub first : List ℕ
    pub rest : List (List ℕ)
    pub read : ReadsFirst io from to got first rest
    pub settings : Settings
    pub settings_is : config_at first ≡ Ok settings
    pub trace : Trace
    pub trace_is : left ≡ Some trace
    pub ran : Ran disk settings phases trace old new
    pub replies : List (List Answered)
    pub replied : AreReplies (length items) ran.answered replies
    pub prompt : WasPrompt io from to (due only_reads (opened_pair ran.opened) replies) got

  -- what was written of these items
  abbrev pub said_in : {phases : List (List Order)} {items : List Item} → Served phases items → List ℕ
  said_in {items = items} s = said (opened_pair s.ran.opened) items s.replies

  -- these items are the first of all that there are in the lines that were got, and these are the others
  abbrev pub Begin : {phases : List (List Order)} {items : List Item} → Served phases items → List Item → List Item
      → Type 0
  Begin s front more = live_items only_reads s.rest ≡ front ++ more

  -- these items are all that there are in the whole lines that were got, but for a group that has no end yet
  abbrev pub AreAll : {phases : List (List Order)} {items : List Item} → Served phases items → Type 0
  AreAll {items = items} s = (rest : List (List ℕ)) × (whole_lines s.got ≡ s.first ∷ rest)
      × ((items_from only_reads first_reading rest).0 ≡ items)

  -- All input was read, all of its items were carried out, and all was written.
  pub record LivesWhole : Type 0 where
    pub items : List Item
    pub served : Served (phases_in items) items
    pub all : live_items only_reads served.rest ≡ items
    pub end : IsAtEnd (io.left to)
    pub written : WritesAll io from to (said_in served ++ last_of_run served.ran)

  -- All input was read, all of its items were carried out, and of the last line a beginning was written.
  pub record EndsInLastLine : Type 0 where
    pub items : List Item
    pub served : Served (phases_in items) items
    pub all : live_items only_reads served.rest ≡ items
    pub end : IsAtEnd (io.left to)
    pub some : ℕ
    pub written : BreaksOff io from to (said_in served ++ take some (last_of_run served.ran))

  -- These items were carried out and answered. Of the next one, a beginning of the lines of its faults was written, and
  -- none of its orders was carried out.
  pub record EndsInFaults : Type 0 where
    pub items : List Item
    pub item : Item
    pub served : Served (phases_in items) items
    pub more : List Item
    pub front : Begin served items (item ∷ more)
    pub some : ℕ
    pub written : BreaksOff io from to (said_in served ++ take some (fault_lines item))

  -- These items were carried out and answered, and then one more and none behind it. The lines of its faults were
  -- written, and a beginning of those of its replies.
  pub record EndsInReplies : Type 0 where
    pub items : List Item
    pub item : Item
    pub served : Served (phases_in (items ++ item ∷ [])) (items ++ item ∷ [])
    pub more : List Item
    pub front : Begin served items (item ∷ more)
    pub replies : List (List Answered)
    pub last : List Answered
    pub replies_are : served.replies ≡ replies ++ last ∷ []
    pub some : ℕ
    pub written : BreaksOff io from to (said (opened_pair served.ran.opened) items replies ++ fault_lines item
        ++ take some (reply_lines last))

  -- All items of the whole lines were carried out, and all answers to them were written. Then a flush failed.
  pub record EndsInFlush : Type 0 where
    pub items : List Item
    pub served : Served (phases_in items) items
    pub all : AreAll served
    pub written : BreaksOff io from to (said_in served)

  -- No session began: the store was opened, and of the line that says so a beginning was written.
  pub record EndsInOpening : Type 0 where
    pub got : List ℕ
    pub first : List ℕ
    pub rest : List (List ℕ)
    pub read : ReadsFirst io from to got first rest
    pub settings : Settings
    pub settings_is : config_at first ≡ Ok settings
    pub before : EndsBefore disk old new left
    pub opened : Opened
    pub opens : Opens disk settings.config old opened
    pub some : ℕ
    pub written : BreaksOff io from to (take some (opened_line (opened_pair opened)))

  -- A write or a flush failed. All that was due before is written whole, and nothing behind was carried out.
  abbrev pub LivesPartly : Type 0
  LivesPartly = EndsInOpening ⊎ EndsInFaults ⊎ EndsInReplies ⊎ EndsInFlush ⊎ EndsInLastLine

  -- A read failed. All items of the whole lines were carried out and answered, and then the line of that was written, or
  -- where a write failed too a beginning of it.
  pub record LivesUnread : Type 0 where
    pub items : List Item
    pub served : Served (phases_in items) items
    pub all : AreAll served
    pub written : Tells io from to (said_in served) (status_line ReadFault)

  -- What was done of the item after the others: nothing; or the lines of its faults were written, and of the orders of
  -- each session the first were carried out.
  abbrev pub IsCutShort : List Item → List (List Order) → List ℕ → Type 0
  IsCutShort more [] written = (written ≡ []) ⊎ ((item : Item) × (later : List Item) × (more ≡ item ∷ later)
      × (written ≡ fault_lines item))
  IsCutShort more (cut ∷ []) written = (item : Item) × (later : List Item) × (more ≡ item ∷ later)
      × (written ≡ fault_lines item) × HasFirstOf item.orders cut
  IsCutShort more (cut ∷ other ∷ others) written = ⊥

  -- Memory ran out. These items were carried out and answered, and of the next one, if any, the first orders of each
  -- session. Then the line of that was written, or where a write failed a beginning of it.
  pub record LivesShort : Type 0 where
    pub items : List Item
    pub cut : List (List Order)
    pub served : Served (phases_in items ++ cut) items
    pub more : List Item
    pub front : Begin served items more
    pub faults : List ℕ
    pub short : IsCutShort more cut faults
    pub written : Tells io from to (said_in served ++ faults) (status_line NoMemory)

-- ---- how it ends without sessions

module _ {X D : Type 0} (io : DuplexGhosts X) (disk : Ghosts D) (from to : X) (old new : D) (left : Option Trace) where
  -- The first line is no config line, and the line of its fault was written. An input without a line has none either.
  pub record RefusesFirst : Type 0 where
    pub before : EndsBefore disk old new left
    pub got : List ℕ
    pub fault : ScriptFault
    pub first : ((line : List ℕ) × (rest : List (List ℕ)) × ReadsFirst io from to got line rest
        × (config_at line ≡ Err fault))
        ⊎ ((got ≡ []) × IsAtEnd (io.left to) × (fault ≡ NoConfigFirst))
    pub written : Tells io from to [] (fault_line fault)

  -- the first line has more bytes than a line may have
  pub record FirstTooLong : Type 0 where
    pub before : EndsBefore disk old new left
    pub got : List ℕ
    pub first : List ℕ
    pub rest : List (List ℕ)
    pub taken : Consumes (io.left from) (io.left to) got
    pub lines : lines_of got ≡ first ∷ rest
    pub long : most_bytes < length first

  -- The first line has settings, and the store was not opened for a fault, whose line was written; where the disk
  -- reports its files, they have this fault.
  pub record RefusesStore (status : Status) : Type 0 where
    pub before : EndsBefore disk old new left
    pub got : List ℕ
    pub first : List ℕ
    pub rest : List (List ℕ)
    pub read : ReadsFirst io from to got first rest
    pub settings : Settings
    pub settings_is : config_at first ≡ Ok settings
    pub fault : OpenFault
    pub ends : fault_status fault ≡ status
    pub sound : IsSound fault
    pub stored : (s : Told) → disk.told old ≡ Some s → files settings.config s.files ≡ Err fault
    pub written : Tells io from to [] (open_line fault)

  -- A read failed before the first line was whole.
  pub record UnreadBefore : Type 0 where
    pub before : EndsBefore disk old new left
    pub got : List ℕ
    pub taken : Consumes (io.left from) (io.left to) got
    pub none : whole_lines got ≡ []
    pub written : Tells io from to [] (status_line ReadFault)

  -- Memory ran out. Maybe the store was opened, and the line that says so was written before.
  pub record ShortBefore : Type 0 where
    pub before : EndsBefore disk old new left
    pub lines : List ℕ
    pub opened : (lines ≡ []) ⊎ ((opened : Opened) × (settings : Settings) × Opens disk settings.config old opened
        × (lines ≡ opened_line (opened_pair opened)))
    pub written : Tells io from to lines (status_line NoMemory)

-- ---- completeness

-- how a process ends whose first line is this
abbrev pub config_status : Result Settings ScriptFault → Image → Status
config_status (Ok settings) image = opened_status (files settings.config image)
config_status (Err fault) image = BadScript

abbrev pub first_status : List (List ℕ) → Image → Status
first_status [] image = BadScript
first_status (first ∷ rest) image =
    if nat_lt most_bytes (length first) then TooLong else config_status (config_at first) image

-- how a process over these bytes and these files ends where nothing fails and there is memory
abbrev pub expected_live : List ℕ → Image → Status
expected_live input image = first_status (lines_of input) image
