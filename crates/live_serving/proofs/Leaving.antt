-- Ends before sessions begin.
use Rattle.std.proofs.Common.{◌≡◌, ◌∙◌, ◌<◌, ◌≤◌, ◌⊎◌, inl, inr, ⊎_elim, ℕ, Bool, true, false, cond, List, [], ◌∷◌, ◌++◌, length, take, Option, Some, None, Result, Ok, Err, refl, sym, ap, subst, append-nil}
use Rattle.std.specs.Prelude.{◌≢◌, nat_lt}
use Rattle.std.proofs.lemmas.Bool.{le-ltb, lt-ltb}
use Rattle.std.specs.Io.KnownBytes.{Consumes, IsAtEnd}
use Rattle.facet_disk.specs.Images.{Image, Told}
use Rattle.facet_disk.specs.declared.disk.Disk.{Ghosts}
use Rattle.facet_engine.specs.declared.ending.Trace.{Trace}
use Rattle.facet_io.specs.Faults.{Rose}
use Rattle.facet_output.specs.Output.{Opened, opened_pair}
use Rattle.facet_serving.specs.Ends.{EndsBefore, opened_status}
use Rattle.facet_serving.specs.Statuses.{IsOpenLine, fault_status, open_line, status_line}
use Rattle.facet_serving.specs.Stores.{Opens}
use Rattle.facet_serving.specs.declared.status.Status.{Status}
use Rattle.facet_serving.specs.declared.status.Status.TheVariants.{Done, BadWords, ReadFault, WriteFault, BadScript, DiskFault, BadStore, NoMemory, TooLong, OtherConfig}
use Rattle.facet_words.specs.Commands.{Settings}
use Rattle.facet_words.specs.FaultLines.{fault_line}
use Rattle.facet_words.specs.Lines.{lines_of}
use Rattle.facet_words.specs.Scripts.{config_at}
use Rattle.facet_words.specs.declared.fault.ScriptFault.{ScriptFault}
use Rattle.facet_words.specs.declared.fault.ScriptFault.TheVariants.{NoConfigFirst}
use Rattle.live_io.specs.declared.duplex.Duplex.{Ghosts as DuplexGhosts}
use Rattle.live_lines.specs.Lines.{most_bytes}
use Rattle.live_serving.specs.Answering.{Puts, PutsBytes, PutsSome}
use Rattle.live_serving.specs.Closing.{PutsLine}
use Rattle.live_serving.specs.Ends.{FirstTooLong, RefusesFirst, RefusesStore, ShortBefore, Tells, UnreadBefore, WasPrompt, config_status, expected_live, first_status}
use Rattle.live_serving.specs.FirstLine.{FailsFirst, HasGot, HasLong, HasNone}
use Rattle.live_serving.specs.Firsts.{ReadsFirst}
use Rattle.live_serving.specs.Leaving.{HasConfig, Leaves, LeavesAs}
use Rattle.live_serving.specs.Lines.{whole_lines}
use Rattle.live_serving.specs.Moments.{Beginning}
use Rattle.live_serving.specs.Runs.{RunsLive}
use Rattle.live_serving.specs.declared.first_line.FirstFault.TheVariants as firsts
use Rattle.live_serving.specs.declared.line_phases.LinePhases.{LinePhases}
use Rattle.live_io.specs.Unread.{Unread}
use Rattle.live_lines.specs.FaultLines.{opened_line}
use Rattle.store_opening.specs.Faults.{IsSound}
use Rattle.store_opening.specs.Files.{files}
use Rattle.store_opening.specs.declared.fault.OpenFault.{OpenFault}
use Rattle.store_opening.specs.declared.fault.OpenFault.TheVariants as faults
use Rattle.store_opening.specs.declared.fault.OpenFault.TheVariants.{NoMemory as NoRoom}
use Rattle.live_serving.proofs.AtEnd.{some_put, tells_line}
use Rattle.live_serving.proofs.Cut.{first_of_more}
use Rattle.live_serving.proofs.First.{none_whole}
use Rattle.live_serving.proofs.Long.{long_first}
use Rattle.live_serving.proofs.Starting.{prompt_none, prompt_puts, talked_none}
use Rattle.live_serving.proofs.Talked.{talked_puts}

-- ---- all clauses

module _ {X D : Type 0} (io : DuplexGhosts X) (disk : Ghosts D) (only_reads : Bool) (from to : X) (old new : D) (left : Option Trace) (status : Status) where
  pub leaves_lives : Leaves io disk only_reads from to old new left status → RunsLive io disk only_reads from to old new left status
  leaves_lives l =
      let as_now = λ (s : Status) (is : status ≡ s). subst (λ (t : Status). LeavesAs io disk only_reads from to old new left t) is l.so in
      record {
        done = λ is. absurd (as_now Done is);
        write_fault = λ is. inl (as_now WriteFault is).0;
        read_fault = λ is. inr (as_now ReadFault is).0;
        no_memory = λ is. inr (as_now NoMemory is);
        bad_script = λ is. as_now BadScript is;
        not_opened = λ is. ⊎_elim
            (λ b. subst (λ (s : Status). RefusesStore io disk from to old new left s) (sym b) (as_now BadStore b))
            (λ o. subst (λ (s : Status). RefusesStore io disk from to old new left s) (sym o) (as_now OtherConfig o)) is;
        too_long = λ is. (as_now TooLong is).0;
        quiet = inr (inr (inr (inr l.before)));
        disk_told = λ is. (as_now DiskFault is).0;
        long_told = λ is. (as_now TooLong is).1;
        bad_words = λ is. absurd (as_now BadWords is);
        read_failed = λ is. (as_now ReadFault is).1;
        write_failed = λ is. (as_now WriteFault is).1;
        disk_failed = λ is. (as_now DiskFault is).1;
        device_failed = λ is. (as_now DiskFault is).2;
        read_still = l.read_still;
        write_still = λ is. absurd (as_now Done is);
        disk_still = ⊎_elim (λ w. inr (inl w)) (λ more. ⊎_elim (λ n. inr (inr (inr (inl n)))) (λ more. ⊎_elim (λ d. inr (inr (inr (inr (inl d))))) (λ s. inr (inr (inr (inr (inr s))))) more) more) l.disk_still;
        prompt = λ none. (l.got, l.taken, l.prompt);
        complete = λ input t is told no_read no_write no_disk. ⊎_elim (λ e. inl e)
            (λ more. ⊎_elim (λ n. inr n) (λ more. ⊎_elim (λ r. absurd (no_read r)) (λ more. ⊎_elim (λ w. absurd (no_write w)) (λ d. absurd (no_disk d)) more) more) more) (l.expected input t is told);
      }

-- ---- what was got and told

module _ {X D : Type 0} (io : DuplexGhosts X) (disk : Ghosts D) (from mid to : X) where
  pub record HasLeft (got line : List ℕ) : Type 0 where
    pub taken : Consumes (io.left from) (io.left to) got
    pub prompt : WasPrompt io from to (λ bytes. []) got
    pub reads : io.read_faults to ≡ io.read_faults mid
    pub told : Tells io from to [] line

  pub has_left : (got line : List ℕ) → HasGot io from mid got → PutsLine io mid to line → HasLeft got line
  has_left got line h put =
      let b : Beginning X = record { only_reads = true; opened = (0, 0); first = []; before = from } in
      let some = some_put io b mid to line put in
      let talked = talked_none io b mid got h in
      record {
        taken = subst (λ (l : Option (List ℕ)). Consumes (io.left from) l got) (sym some.1.left) h.consumed;
        prompt = prompt_puts io disk from mid to (λ bytes. []) got some.0 (prompt_none io disk from mid got h) some.1;
        reads = some.1.read_faults;
        told = tells_line io b mid to got [] [] line talked h.writes put;
      }

-- ---- all input, by what was got of it

-- what was got is all, or begins it
all_or_more : (left : Option (List ℕ)) (input got : List ℕ) → Consumes (Some input) left got → (more : List ℕ) × (input ≡ got ++ more) × (IsAtEnd left → more ≡ [])
all_or_more None input got taken = absurd taken
all_or_more (Some rest) input got taken = (rest, taken, λ end. end)

-- the first line of all input
pub first_of_all : (left : Option (List ℕ)) (input got first : List ℕ) (rest : List (List ℕ)) → Consumes (Some input) left got → lines_of got ≡ first ∷ rest
    → ((more : List (List ℕ)) × (whole_lines got ≡ first ∷ more)) ⊎ IsAtEnd left → (later : List (List ℕ)) × (lines_of input ≡ first ∷ later)
first_of_all left input got first rest taken lines whole =
    let a = all_or_more left input got taken in
    ⊎_elim
    (λ w. let f = first_of_more got a.0 first w.0 w.1 in (f.0, ap lines_of a.1 ∙ f.1))
    (λ end. (rest, ap lines_of (a.1 ∙ ap (λ (l : List ℕ). got ++ l) (a.2 end) ∙ append-nil got) ∙ lines)) whole

-- how all ends whose first line is not too long
pub status_of_first : (input first : List ℕ) (later : List (List ℕ)) (image : Image) → lines_of input ≡ first ∷ later → length first ≤ most_bytes → expected_live input image ≡ config_status (config_at first) image
status_of_first input first later image lines fits =
    ap (λ (ls : List (List ℕ)). first_status ls image) lines
    ∙ ap (λ (long : Bool). cond long TooLong (config_status (config_at first) image)) (le-ltb most_bytes (length first) fits)

status_of_long : (input first : List ℕ) (later : List (List ℕ)) (image : Image) → lines_of input ≡ first ∷ later → most_bytes < length first → expected_live input image ≡ TooLong
status_of_long input first later image lines long =
    ap (λ (ls : List (List ℕ)). first_status ls image) lines
    ∙ ap (λ (t : Bool). cond t TooLong (config_status (config_at first) image)) (lt-ltb most_bytes (length first) long)

-- ---- ends at the first line

module _ {X D : Type 0} (io : DuplexGhosts X) (disk : Ghosts D) (only_reads : Bool) (from mid to : X) (old : D) (left : Option Trace) (before : EndsBefore disk old old left) where
  pub leaves_unread : (u : Unread) (status : Status) → status ≡ ReadFault → FailsFirst io from mid u firsts.Read → PutsLine io mid to (status_line ReadFault) → RunsLive io disk only_reads from to old old left status
  leaves_unread u status is f put =
      let n = f.1 in
      let h = has_left io disk from mid to n.got (status_line ReadFault) n.has put in
      let rose : Rose (io.read_faults from) (io.read_faults to) = subst (λ (k : ℕ). Rose (io.read_faults from) k) (sym h.reads) f.0 in
      subst (λ (s : Status). RunsLive io disk only_reads from to old old left s) (sym is) (leaves_lives io disk only_reads from to old old left ReadFault (record {
        before = before;
        got = n.got;
        taken = h.taken;
        prompt = h.prompt;
        so = (record { before = before; got = n.got; taken = h.taken; none = none_whole u n.got n.unread n.none; written = h.told }, rose);
        read_still = λ other. absurd (other refl);
        disk_still = inr (inr (inr refl));
        expected = λ input t all tells. inr (inr (inl rose));
      }))

  pub leaves_long : (u : Unread) (status : Status) → status ≡ TooLong → FailsFirst io from mid u firsts.TooLong → PutsLine io mid to (status_line TooLong) → RunsLive io disk only_reads from to old old left status
  leaves_long u status is f put =
      let n = f.1 in
      let h = has_left io disk from mid to n.got (status_line TooLong) n.has put in
      let first = long_first u n.got [] n.unread n.long in
      subst (λ (s : Status). RunsLive io disk only_reads from to old old left s) (sym is) (leaves_lives io disk only_reads from to old old left TooLong (record {
        before = before;
        got = n.got;
        taken = h.taken;
        prompt = h.prompt;
        so = (record { before = before; got = n.got; first = first.0; rest = first.1; taken = h.taken; lines = ap lines_of (sym (append-nil n.got)) ∙ first.2; long = first.3 }, h.told);
        read_still = λ other. h.reads ∙ f.0;
        disk_still = inr (inr (inr refl));
        expected = λ input t all tells.
            let a = all_or_more (io.left to) input n.got (subst (λ (l : Option (List ℕ)). Consumes l (io.left to) n.got) all h.taken) in
            let more = long_first u n.got a.0 n.unread n.long in
            inl (sym (status_of_long input more.0 more.1 t.files (ap lines_of a.1 ∙ more.2) more.3));
      }))

  -- there was no memory, whatever was got
  pub leaves_short : (got : List ℕ) (status : Status) → status ≡ NoMemory → HasGot io from mid got → io.read_faults mid ≡ io.read_faults from → PutsLine io mid to (status_line NoMemory)
      → RunsLive io disk only_reads from to old old left status
  leaves_short got status is has reads put =
      let h = has_left io disk from mid to got (status_line NoMemory) has put in
      subst (λ (s : Status). RunsLive io disk only_reads from to old old left s) (sym is) (leaves_lives io disk only_reads from to old old left NoMemory (record {
        before = before;
        got = got;
        taken = h.taken;
        prompt = h.prompt;
        so = record { before = before; lines = []; opened = inl refl; written = h.told };
        read_still = λ other. h.reads ∙ reads;
        disk_still = inr (inr (inr refl));
        expected = λ input t all tells. inr (inl refl);
      }))

  -- input ended without a line
  pub leaves_empty : (u : Unread) (status : Status) → status ≡ BadScript → FailsFirst io from mid u firsts.NoLine → PutsLine io mid to (fault_line NoConfigFirst) → RunsLive io disk only_reads from to old old left status
  leaves_empty u status is f put =
      let h = has_left io disk from mid to [] (fault_line NoConfigFirst) f.2 put in
      let some = put_left put in
      let end : IsAtEnd (io.left to) = subst (λ (l : Option (List ℕ)). IsAtEnd l) (sym some) f.1 in
      subst (λ (s : Status). RunsLive io disk only_reads from to old old left s) (sym is) (leaves_lives io disk only_reads from to old old left BadScript (record {
        before = before;
        got = [];
        taken = h.taken;
        prompt = h.prompt;
        so = record { before = before; got = []; fault = NoConfigFirst; first = inr (refl, end, refl); written = h.told };
        read_still = λ other. h.reads ∙ f.0;
        disk_still = inr (inr (inr refl));
        expected = λ input t all tells.
            let a = all_or_more (io.left to) input [] (subst (λ (l : Option (List ℕ)). Consumes l (io.left to) []) all h.taken) in
            let none : input ≡ [] = a.1 ∙ a.2 end in
            inl (sym (ap (λ (l : List ℕ). expected_live l t.files) none));
      }))
    where
      put_left : PutsLine io mid to (fault_line NoConfigFirst) → io.left to ≡ io.left mid
      put_left (inl p) = p.0.left
      put_left (inr p) = p.1.1.left

  -- the first line is no config line
  pub leaves_refused : (got line : List ℕ) (rest : List (List ℕ)) (fault : ScriptFault) (status : Status) → status ≡ BadScript → HasGot io from mid got → io.read_faults mid ≡ io.read_faults from → ReadsFirst io from mid got line rest
      → length line ≤ most_bytes → config_at line ≡ Err fault → PutsLine io mid to (fault_line fault) → RunsLive io disk only_reads from to old old left status
  leaves_refused got line rest fault status is has reads r fits bad put =
      let h = has_left io disk from mid to got (fault_line fault) has put in
      let same = put_left put in
      let here : ReadsFirst io from to got line rest = record {
        taken = h.taken;
        lines = r.lines;
        whole = ⊎_elim (λ w. inl w) (λ end. inr (subst (λ (l : Option (List ℕ)). IsAtEnd l) (sym same) end)) r.whole;
      } in
      subst (λ (s : Status). RunsLive io disk only_reads from to old old left s) (sym is) (leaves_lives io disk only_reads from to old old left BadScript (record {
        before = before;
        got = got;
        taken = h.taken;
        prompt = h.prompt;
        so = record { before = before; got = got; fault = fault; first = inl (line, rest, here, bad); written = h.told };
        read_still = λ other. h.reads ∙ reads;
        disk_still = inr (inr (inr refl));
        expected = λ input t all tells.
            let f = first_of_all (io.left to) input got line rest (subst (λ (l : Option (List ℕ)). Consumes l (io.left to) got) all h.taken) r.lines here.whole in
            inl (sym (status_of_first input line f.0 t.files f.1 fits ∙ ap (λ (c : Result Settings ScriptFault). config_status c t.files) bad));
      }))
    where
      put_left : PutsLine io mid to (fault_line fault) → io.left to ≡ io.left mid
      put_left (inl p) = p.0.left
      put_left (inr p) = p.1.1.left

-- ---- ends at the store

module _ {X D : Type 0} (io : DuplexGhosts X) (disk : Ghosts D) (only_reads : Bool) (from mid to : X) (old new : D) (left : Option Trace) (before : EndsBefore disk old new left)
    (p : LinePhases) (first : List ℕ) (settings : Settings) (c : HasConfig io from mid p first settings) where
  read_still_first : (line : List ℕ) → PutsLine io mid to line → ReadsFirst io from to c.got first c.rest
  read_still_first line put = record {
    taken = (has_left io disk from mid to c.got line c.has put).taken;
    lines = c.line.lines;
    whole = ⊎_elim (λ w. inl w) (λ end. inr (subst (λ (l : Option (List ℕ)). IsAtEnd l) (sym (put_left put)) end)) c.line.whole;
  }
    where
      put_left : PutsLine io mid to line → io.left to ≡ io.left mid
      put_left (inl p) = p.0.left
      put_left (inr p) = p.1.1.left

  -- how all ends, where the files have this fault
  expected_fault : (line : List ℕ) → PutsLine io mid to line → (fault : OpenFault) → ((t : Told) → disk.told old ≡ Some t → files settings.config t.files ≡ Err fault)
      → (input : List ℕ) (t : Told) → io.left from ≡ Some input → disk.told old ≡ Some t → expected_live input t.files ≡ fault_status fault
  expected_fault line put fault stored input t all tells =
      let r = read_still_first line put in
      let f = first_of_all (io.left to) input c.got first c.rest (subst (λ (l : Option (List ℕ)). Consumes l (io.left to) c.got) all r.taken) r.lines r.whole in
      status_of_first input first f.0 t.files f.1 c.fits ∙ ap (λ (r : Result Settings ScriptFault). config_status r t.files) c.settings_is ∙ ap opened_status (stored t tells)

  -- its files have a fault
  leaves_bad : (status : Status) → (status ≡ BadStore) ⊎ (status ≡ OtherConfig) → (fault : OpenFault) → fault_status fault ≡ status → IsSound fault → disk.faults new ≡ disk.faults old
      → ((t : Told) → disk.told old ≡ Some t → files settings.config t.files ≡ Err fault) → PutsLine io mid to (open_line fault) → RunsLive io disk only_reads from to old new left status
  leaves_bad status which fault ends sound still stored put =
      let h = has_left io disk from mid to c.got (open_line fault) c.has put in
      let refuses : RefusesStore io disk from to old new left status = record {
        before = before;
        got = c.got;
        first = first;
        rest = c.rest;
        read = read_still_first (open_line fault) put;
        settings = settings;
        settings_is = c.settings_is;
        fault = fault;
        ends = ends;
        sound = sound;
        stored = stored;
        written = h.told;
      } in
      leaves_lives io disk only_reads from to old new left status (record {
        before = before;
        got = c.got;
        taken = h.taken;
        prompt = h.prompt;
        so = ⊎_elim
            (λ b. subst (λ (s : Status). LeavesAs io disk only_reads from to old new left s) (sym b) (subst (λ (s : Status). RefusesStore io disk from to old new left s) b refuses))
            (λ o. subst (λ (s : Status). LeavesAs io disk only_reads from to old new left s) (sym o) (subst (λ (s : Status). RefusesStore io disk from to old new left s) o refuses)) which;
        read_still = λ other. h.reads ∙ c.reads;
        disk_still = inr (inr (inr still));
        expected = λ input t all tells. inl (sym (expected_fault (open_line fault) put fault stored input t all tells ∙ ends));
      })

  -- a call of the disk failed
  leaves_disk : (status : Status) → status ≡ DiskFault → (line : List ℕ) → IsOpenLine faults.Disk line → Rose (disk.faults old) (disk.faults new)
      → ((t : Told) → disk.told old ≡ Some t → Rose (disk.failures old) (disk.failures new)) → PutsLine io mid to line → RunsLive io disk only_reads from to old new left status
  leaves_disk status is line is_line rose device put =
      let h = has_left io disk from mid to c.got line c.has put in
      subst (λ (s : Status). RunsLive io disk only_reads from to old new left s) (sym is) (leaves_lives io disk only_reads from to old new left DiskFault (record {
        before = before;
        got = c.got;
        taken = h.taken;
        prompt = h.prompt;
        so = ((line, is_line, h.told), rose, device);
        read_still = λ other. h.reads ∙ c.reads;
        disk_still = inr (inr (inl refl));
        expected = λ input t all tells. inr (inr (inr (inr rose)));
      }))

  -- there was no memory
  pub leaves_room : (status : Status) → status ≡ NoMemory → PutsLine io mid to (status_line NoMemory) → RunsLive io disk only_reads from to old new left status
  leaves_room status is put =
      let h = has_left io disk from mid to c.got (status_line NoMemory) c.has put in
      subst (λ (s : Status). RunsLive io disk only_reads from to old new left s) (sym is) (leaves_lives io disk only_reads from to old new left NoMemory (record {
        before = before;
        got = c.got;
        taken = h.taken;
        prompt = h.prompt;
        so = record { before = before; lines = []; opened = inl refl; written = h.told };
        read_still = λ other. h.reads ∙ c.reads;
        disk_still = inr (inl refl);
        expected = λ input t all tells. inr (inl refl);
      }))

  -- the line of what was opened was not put
  pub leaves_opening : (status : Status) → status ≡ WriteFault → (opened : Opened) → Opens disk settings.config old opened → PutsSome io mid to (opened_line (opened_pair opened))
      → RunsLive io disk only_reads from to old new left status
  leaves_opening status is opened opens put =
      let line = opened_line (opened_pair opened) in
      let h = has_left io disk from mid to c.got line c.has (inr put) in
      let b : Beginning X = record { only_reads = true; opened = (0, 0); first = []; before = from } in
      let rose : Rose (io.write_faults from) (io.write_faults to) = subst (λ (n : ℕ). Rose n (io.write_faults to)) c.has.writes put.0 in
      subst (λ (s : Status). RunsLive io disk only_reads from to old new left s) (sym is) (leaves_lives io disk only_reads from to old new left WriteFault (record {
        before = before;
        got = c.got;
        taken = h.taken;
        prompt = h.prompt;
        so = (
          record {
            got = c.got;
            first = first;
            rest = c.rest;
            read = read_still_first line (inr put);
            settings = settings;
            settings_is = c.settings_is;
            before = before;
            opened = opened;
            opens = opens;
            some = put.1.0;
            written = (rose, (talked_puts io b mid to c.got [] [] (take put.1.0 line) (talked_none io b mid c.got c.has) put.1.1).appended);
          },
          rose,
        );
        read_still = λ other. h.reads ∙ c.reads;
        disk_still = inl refl;
        expected = λ input t all tells. inr (inr (inr (inl rose)));
      }))

  -- the store was not opened
  pub leaves_shut : (status : Status) (fault : OpenFault) → (fault ≢ NoRoom → fault ≢ faults.Disk → (t : Told) → disk.told old ≡ Some t → files settings.config t.files ≡ Err fault)
      → (fault ≡ faults.Disk → Rose (disk.faults old) (disk.faults new)) → (fault ≡ faults.Disk → (t : Told) → disk.told old ≡ Some t → Rose (disk.failures old) (disk.failures new))
      → (fault ≢ faults.Disk → disk.faults new ≡ disk.faults old) → IsSound fault
      → ((status ≡ fault_status fault) × ((line : List ℕ) × IsOpenLine fault line × PutsLine io mid to line)) ⊎ ((status ≡ NoMemory) × PutsLine io mid to (status_line NoMemory))
      → RunsLive io disk only_reads from to old new left status
  leaves_shut status fault err rose device still sound (inr short) = leaves_room status short.0 short.1
  leaves_shut status faults.Disk err rose device still sound (inl t) = leaves_disk status t.0 t.1.0 t.1.1 (rose refl) (device refl) t.1.2
  leaves_shut status faults.NoMemory err rose device still sound (inl t) = leaves_room status t.0 (subst (λ (l : List ℕ). PutsLine io mid to l) t.1.1 t.1.2)
  leaves_shut status (faults.OtherConfig dim) err rose device still sound (inl t) =
      leaves_bad status (inr t.0) (faults.OtherConfig dim) (sym t.0) sound (still (λ e. absurd cc)) (err (λ e. absurd cc) (λ e. absurd cc)) (subst (λ (l : List ℕ). PutsLine io mid to l) t.1.1 t.1.2)
  leaves_shut status (faults.Missing name) err rose device still sound (inl t) =
      leaves_bad status (inl t.0) (faults.Missing name) (sym t.0) sound (still (λ e. absurd cc)) (err (λ e. absurd cc) (λ e. absurd cc)) (subst (λ (l : List ℕ). PutsLine io mid to l) t.1.1 t.1.2)
  leaves_shut status (faults.Damaged name kept digest) err rose device still sound (inl t) =
      leaves_bad status (inl t.0) (faults.Damaged name kept digest) (sym t.0) sound (still (λ e. absurd cc)) (err (λ e. absurd cc) (λ e. absurd cc)) (subst (λ (l : List ℕ). PutsLine io mid to l) t.1.1 t.1.2)
  leaves_shut status (faults.Malformed name at) err rose device still sound (inl t) =
      leaves_bad status (inl t.0) (faults.Malformed name at) (sym t.0) sound (still (λ e. absurd cc)) (err (λ e. absurd cc) (λ e. absurd cc)) (subst (λ (l : List ℕ). PutsLine io mid to l) t.1.1 t.1.2)
  leaves_shut status (faults.Uncovered needs has) err rose device still sound (inl t) =
      leaves_bad status (inl t.0) (faults.Uncovered needs has) (sym t.0) sound (still (λ e. absurd cc)) (err (λ e. absurd cc) (λ e. absurd cc)) (subst (λ (l : List ℕ). PutsLine io mid to l) t.1.1 t.1.2)
  leaves_shut status (faults.NumbersSpent greatest) err rose device still sound (inl t) =
      leaves_bad status (inl t.0) (faults.NumbersSpent greatest) (sym t.0) sound (still (λ e. absurd cc)) (err (λ e. absurd cc) (λ e. absurd cc)) (subst (λ (l : List ℕ). PutsLine io mid to l) t.1.1 t.1.2)
