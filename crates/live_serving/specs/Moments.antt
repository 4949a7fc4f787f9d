-- What a live process has read and written at a moment, and what becomes of that.
use Rattle.std.specs.Prelude.{◌≡◌, ◌≢◌, ◌≤◌, ◌<◌, ◌⊎◌, ◌++◌, ◌∷◌, ℕ, Bool, true, false, List, [], flat_map, length, map}
use Rattle.std.specs.Prelude.{take, All, IsTrue, Option, Some, None}
use Rattle.std.specs.List.{AllByRecursion}
use Rattle.std.specs.Io.KnownBytes.{Appends, Consumes, IsAtEnd}
use Rattle.facet_io.specs.Faults.{Rose}
use Rattle.facet_output.specs.Answered.{Answered}
use Rattle.facet_phases.specs.declared.fault.PhaseFault.{PhaseFault}
use Rattle.facet_phases.specs.declared.fault.PhaseFault.TheVariants.{Read, Write, NoMemory}
use Rattle.facet_words.specs.Commands.{Order}
use Rattle.facet_words.specs.CommandViews.{order_view}
use Rattle.facet_words.specs.Lines.{lines_of}
use Rattle.facet_words.specs.ScriptOrder.{lines_rise}
use Rattle.live_io.specs.Events.{Event, IsPrompt, got_in, put_in}
use Rattle.live_io.specs.Unread.{IsUnread, Unread, first_feed}
use Rattle.live_io.specs.declared.duplex.Duplex.{Ghosts}
use Rattle.live_lines.specs.Items.{Item, first_reading, item_list, items_from, last_item, live_items}
use Rattle.live_lines.specs.Lines.{most_bytes}
use Rattle.live_lines.specs.Views.{reading_of}
use Rattle.live_lines.specs.declared.group.GivenItem.{GivenItem}
use Rattle.live_serving.specs.Answering.{PutsSome}
use Rattle.live_serving.specs.Firsts.{ReadsFirst}
use Rattle.live_serving.specs.Lines.{due, fault_lines, said, whole_lines}
use Rattle.live_serving.specs.declared.line_phases.LinePhases.{LinePhases}

-- How sessions began: whether the process only reads, how many documents and labels were opened, the first line, and the
-- input and output before anything was read.
pub record Beginning (X : Type 0) : Type 0 where
  pub only_reads : Bool
  pub opened : ℕ × ℕ
  pub first : List ℕ
  pub before : X

-- lines with their line feeds
abbrev pub fed : List (List ℕ) → List ℕ
fed lines = flat_map (λ l. l ++ 10 ∷ []) lines

-- ---- what was read

-- While more may come: the lines that were taken behind the first, which make these items and this reading, and what was
-- got of the next line.
pub record IsUnderway (only_reads : Bool) (first : List ℕ) (p : LinePhases) (got : List ℕ) (items : List Item) : Type 0
  where
    pub taken : List (List ℕ)
    pub no_feeds : AllByRecursion (λ l. first_feed l ≡ None) (first ∷ taken)
    pub unread : IsUnread most_bytes (fed (first ∷ taken)) p.reader got
    pub reading : items_from only_reads first_reading taken ≡ (items, reading_of p.grouping)

-- At the end of input: these items, and what an open group leaves, are all that there are.
pub record IsOver (only_reads : Bool) (first : List ℕ) (p : LinePhases) (got : List ℕ) (items : List Item) : Type 0 where
  pub rest : List (List ℕ)
  pub lines : lines_of got ≡ first ∷ rest
  pub items_are : live_items only_reads rest ≡ items ++ item_list (last_item (reading_of p.grouping))

-- what was read, by whether input has ended
abbrev pub HasRead : Bool → Bool → List ℕ → LinePhases → List ℕ → List Item → Type 0
HasRead false only_reads first p got items = IsUnderway only_reads first p got items
HasRead true only_reads first p got items = IsOver only_reads first p got items

module _ {X : Type 0} (io : Ghosts X) (b : Beginning X) where
  -- ---- moments

  -- These bytes were got, and those were written. Where nothing had happened before, the events are known, and what was
  -- due was put and flushed before each read call, whatever replies are still to come.
  pub record HasTalked (now : X) (got : List ℕ) (replies : List (List Answered)) (written : List ℕ) : Type 0 where
    pub consumed : Consumes (io.left b.before) (io.left now) got
    pub appended : Appends (io.written b.before) (io.written now) written
    pub told : io.events b.before ≡ Some [] → (es : List Event) × (io.events now ≡ Some es) × (got_in es ≡ got)
        × (put_in es ≡ written)
        × ((more : List (List Answered)) → IsPrompt (due b.only_reads b.opened (replies ++ more)) es)

  pub record AreStill (now : X) : Type 0 where
    pub reads : io.read_faults now ≡ io.read_faults b.before
    pub writes : io.write_faults now ≡ io.write_faults b.before

  -- These items were read, and these replies were put. That is what was written.
  pub record IsAt (p : LinePhases) (now : X) (items : List Item) (replies : List (List Answered))
      (written : List ℕ) : Type 0 where
    pub got : List ℕ
    pub talked : HasTalked now got replies written
    pub only_reads : p.only_reads ≡ b.only_reads
    pub read : HasRead p.is_ended b.only_reads b.first p got items
    pub ended : p.is_ended ≡ true → IsAtEnd (io.left now)
    pub still : AreStill now

  -- these items were read, and all of them were answered
  pub record IsLiveAt (p : LinePhases) (now : X) (items : List Item) (replies : List (List Answered)) : Type 0 where
    pub as_many : length replies ≡ length items
    pub is : IsAt p now items replies (said b.opened items replies)

  -- one more was read, and the lines of its faults were put
  pub record IsAsked (p : LinePhases) (now : X) (items : List Item) (item : Item)
      (replies : List (List Answered)) : Type 0 where
    pub as_many : length replies ≡ length items
    pub is : IsAt p now (items ++ item ∷ []) replies (said b.opened items replies ++ fault_lines item)

  -- ---- ends

  -- It stopped where these items were the first that there are in the lines that were got, and these the others.
  pub record IsStopped (now : X) (items more : List Item) (replies : List (List Answered))
      (written : List ℕ) : Type 0 where
    pub got : List ℕ
    pub rest : List (List ℕ)
    pub read : ReadsFirst io b.before now got b.first rest
    pub items_are : live_items b.only_reads rest ≡ items ++ more
    pub talked : HasTalked now got replies written

  -- it stopped where these items were all of the whole lines
  pub record IsStoppedAll (now : X) (items : List Item) (replies : List (List Answered)) : Type 0 where
    pub more : List Item
    pub stopped : IsStopped now items more replies (said b.opened items replies)
    pub lines : List (List ℕ)
    pub whole : whole_lines stopped.got ≡ b.first ∷ lines
    pub all : (items_from b.only_reads first_reading lines).0 ≡ items

  -- a write of the lines of the faults of the next item failed
  pub record FailsInFaults (now : X) (items : List Item) (replies : List (List Answered)) : Type 0 where
    pub item : Item
    pub more : List Item
    pub some : ℕ
    pub stopped : IsStopped now items (item ∷ more) replies (said b.opened items replies ++ take some (fault_lines item))

  abbrev pub FailsBy : X → List Item → List (List Answered) → PhaseFault → Type 0
  FailsBy now items replies Read = Rose (io.read_faults b.before) (io.read_faults now)
      × (io.write_faults now ≡ io.write_faults b.before) × IsStoppedAll now items replies
  FailsBy now items replies Write = Rose (io.write_faults b.before) (io.write_faults now)
      × (io.read_faults now ≡ io.read_faults b.before)
      × (IsStoppedAll now items replies ⊎ FailsInFaults now items replies)
  FailsBy now items replies NoMemory = AreStill now
      × ((more : List Item) × IsStopped now items more replies (said b.opened items replies))

-- ---- what the phases do, from whatever beginning and behind whatever items

module _ {X : Type 0} (io : Ghosts X) where
  abbrev pub GivesItem : LinePhases → X → LinePhases → X → List Order → Type 0
  GivesItem p before q now orders = (b : Beginning X) (items : List Item) (replies : List (List Answered))
      → IsLiveAt io b p before items replies
      → (item : Item) × (item.orders ≡ orders) × IsAsked io b q now items item replies

  abbrev pub EndsItems : LinePhases → X → LinePhases → X → Type 0
  EndsItems p before q now = (b : Beginning X) (items : List Item) (replies : List (List Answered))
      → IsLiveAt io b p before items replies
      → IsLiveAt io b q now items replies × (q.is_ended ≡ true) × (last_item (reading_of q.grouping) ≡ None)

  abbrev pub FailsItem : LinePhases → X → LinePhases → X → PhaseFault → Type 0
  FailsItem p before q now fault = (b : Beginning X) (items : List Item) (replies : List (List Answered))
      → IsLiveAt io b p before items replies → FailsBy io b now items replies fault

-- ---- the steps

-- the sessions of its orders are 1 to 64, and their lines rise
abbrev pub IsInOrder : GivenItem → Type 0
IsInOrder i = All (λ o. (1 ≤ o.session) × (o.session ≤ 64)) i.orders.items
    × IsTrue (lines_rise (map order_view i.orders.items))

-- These bytes are the next line, of so many bytes, or any that are too long where bytes of it were dropped.
abbrev pub IsNextLine : Unread → ℕ → List ℕ → Type 0
IsNextLine u len line = (u.dropped ≡ false → line ≡ take len u.bytes) × (u.dropped ≡ true → most_bytes < length line)

-- the next line was taken, and this is what is carried out of it, if anything
abbrev pub TakesItem : LinePhases → LinePhases → Option Item → Type 0
TakesItem p q item = (first got : List ℕ) (items : List Item) → IsUnderway p.only_reads first p got items
    → IsUnderway p.only_reads first q got (items ++ item_list item)

-- input has ended, and what is left of a line was taken
abbrev pub TakesRest : LinePhases → LinePhases → Option Item → Type 0
TakesRest p q item = (first got : List ℕ) (items : List Item) → IsUnderway p.only_reads first p got items
    → IsOver p.only_reads first q got (items ++ item_list item)

-- after a read call that got so many bytes: at the end of input what is left of a line was taken, else nothing was done
pub record TakesGot (count : ℕ) (p q : LinePhases) (item : Option Item) : Type 0 where
  pub end : count ≡ 0 → TakesRest p q item × (q.is_ended ≡ true)
  pub more : count ≢ 0 → (item ≡ None) × (q ≡ p)

module _ {X : Type 0} (io : Ghosts X) (p : LinePhases) (before : X) (q : LinePhases) (now : X) where
  -- a line was taken, or more was read, and nothing was put
  abbrev pub GoesOn : Option Item → Type 0
  GoesOn item = (b : Beginning X) (items : List Item) (replies : List (List Answered))
      → IsLiveAt io b p before items replies → p.is_ended ≡ false
      → IsAt io b q now (items ++ item_list item) replies (said b.opened items replies)

  -- while input has not ended, that failed
  abbrev pub FailsOn : PhaseFault → Type 0
  FailsOn fault = (b : Beginning X) (items : List Item) (replies : List (List Answered))
      → IsLiveAt io b p before items replies → p.is_ended ≡ false → FailsBy io b now items replies fault

  -- nothing was taken and nothing was put, whatever was read
  abbrev pub StaysLive : Type 0
  StaysLive = (b : Beginning X) (items : List Item) (replies : List (List Answered))
      → IsLiveAt io b p before items replies → IsLiveAt io b q now items replies

  -- the next item was taken, or there is none
  abbrev pub TakesNext : Option Item → Type 0
  TakesNext None = EndsItems io p before q now
  TakesNext (Some item) = (b : Beginning X) (items : List Item) (replies : List (List Answered))
      → IsLiveAt io b p before items replies
      → IsAt io b q now (items ++ item ∷ []) replies (said b.opened items replies)

-- why bytes were not put
abbrev pub FailsToPut : {X : Type 0} → Ghosts X → X → X → List ℕ → PhaseFault → Type 0
FailsToPut io before now bytes Read = ⊥
FailsToPut io before now bytes Write = PutsSome io before now bytes
FailsToPut io before now bytes NoMemory = now ≡ before
