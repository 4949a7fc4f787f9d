-- Runs that end before a store is opened.
use Rattle.std.proofs.Common.{◌≡◌, ◌∙◌, ℕ, Bool, true, false, List, Option, Some, None, Result, Ok, Err, refl, sym, ap, subst, le_refl, inl, inr, ◌⊎◌, ⊎_elim}
use Rattle.std.specs.Prelude.{◌≢◌}
use Rattle.facet_disk.specs.Images.{Told}
use Rattle.facet_disk.specs.declared.disk.Disk.{Ghosts}
use Rattle.facet_engine.specs.declared.ending.Trace.{Trace}
use Rattle.facet_io.specs.Faults.{Rose}
use Rattle.facet_io.specs.declared.sink.Sink.{Ghosts as SinkGhosts}
use Rattle.facet_io.specs.declared.source.ReadFault.{ReadFault as Unread}
use Rattle.facet_io.specs.declared.source.ReadFault.TheVariants as reads
use Rattle.facet_io.specs.declared.source.Source.{Ghosts as SourceGhosts}
use Rattle.facet_words.specs.FaultLines.{fault_line}
use Rattle.facet_words.specs.declared.fault.ScriptFault.{ScriptFault}
use Rattle.facet_words.specs.Commands.{Script}
use Rattle.facet_words.specs.Scripts.{script}
use Rattle.store_opening.specs.Quiet.{IsQuiet}
use Rattle.facet_serving.specs.Ends.{EndsBefore, TellsOfScript, expected}
use Rattle.facet_serving.specs.Reading.{ReadsSome, ReadsTooMuch, ReadsWhole, ReadsWithin}
use Rattle.facet_serving.specs.Statuses.{status_line}
use Rattle.facet_serving.specs.Writing.{WritesLine}
use Rattle.facet_serving.specs.declared.status.Status.{Status}
use Rattle.facet_serving.specs.declared.status.Status.TheVariants.{Done, BadWords, ReadFault, WriteFault, BadScript, DiskFault, BadStore, NoMemory, TooLong, OtherConfig}
use Rattle.facet_shell.specs.Runs.{RefusesWords, Resources, RunsGenerated, RunsScript}
use Rattle.facet_shell.proofs.Sources.{expected_too_long, expected_whole}

-- a disk of which no call was made
pub quiet_still : {D : Type 0} (disk : Ghosts D) (d : D) → IsQuiet disk d d
quiet_still disk d = record {
  same = refl;
  passes = record { later = le_refl (disk.moment d); since = λ t c le left. inl left; now = λ c left. (c, left, refl) };
  keeps = λ c left. left;
  later = le_refl (disk.faults d);
}

-- ---- no read failed

-- it was read to its end
pub is_whole : {T : Type 0} (items : T) → ◌≡◌ {A = Result T Unread} (Ok items) (Err reads.Failed) → ⊥
is_whole items e = cc e

of_error : {T : Type 0} (found fault : Unread) → ◌≡◌ {A = Result T Unread} (Err found) (Err fault) → found ≡ fault
of_error found fault e = cc e

-- too many bytes came
pub is_long : {T : Type 0} (found : Unread) → found ≡ reads.TooLong → ◌≡◌ {A = Result T Unread} (Err found) (Err reads.Failed) → ⊥
is_long found is e = let both : reads.TooLong ≡ reads.Failed = sym is ∙ of_error found reads.Failed e in cc both

-- there was no memory
pub is_short : {T : Type 0} (found : Unread) → found ≡ reads.NoMemory → ◌≡◌ {A = Result T Unread} (Err found) (Err reads.Failed) → ⊥
is_short found is e = let both : reads.NoMemory ≡ reads.Failed = sym is ∙ of_error found reads.Failed e in cc both

-- ---- how a run ends whose store is not opened yet

abbrev is_early : Status → Bool
is_early ReadFault = true
is_early BadScript = true
is_early NoMemory = true
is_early TooLong = true
is_early Done = false
is_early BadWords = false
is_early WriteFault = false
is_early DiskFault = false
is_early BadStore = false
is_early OtherConfig = false

module _ {S K D : Type 0} (source : SourceGhosts S) (sink : SinkGhosts K) (disk : Ghosts D) (before after : Resources S K D) (trace : Option Trace) (status : Status)
    (none : trace ≡ None) (same : after.disk ≡ before.disk) where
  untouched : EndsBefore disk before.disk after.disk trace
  untouched = (none, subst (λ (d : D). IsQuiet disk before.disk d) (sym same) (quiet_still disk before.disk))

  -- whatever was read, and whatever line was written
  module _ (early : is_early status ≡ true) (some : ReadsSome source before.source after.source) where
    later : (s : Status) → is_early s ≡ false → status ≡ s → ⊥
    later s not_early is = let both : false ≡ true = sym not_early ∙ ap is_early (sym is) ∙ early in cc both

    ended_early : (status ≡ BadScript → TellsOfScript source before.source after.source sink before.sink after.sink) → (status ≡ TooLong → ReadsTooMuch source before.source after.source)
        → (status ≡ ReadFault → ReadsWithin source before.source after.source × Rose (source.faults before.source) (source.faults after.source)) → (status ≢ ReadFault → source.faults after.source ≡ source.faults before.source)
        → (status ≡ BadScript) ⊎ WritesLine sink before.sink after.sink (status_line status)
        → ((input : List ℕ) (t : Told) → source.left before.source ≡ Some input → ¬ Rose (source.faults before.source) (source.faults after.source) → (status ≡ expected input t.files) ⊎ (status ≡ NoMemory))
        → RunsScript source sink disk before after trace status
    ended_early bad long failed still line complete = record {
      done = λ is. absurd (later Done refl is);
      write_fault = λ is. absurd (later WriteFault refl is);
      no_memory = λ is. inr untouched;
      quiet = inr (inr (inr untouched));
      bad_script = bad;
      not_opened = λ which. absurd (⊎_elim (later BadStore refl) (later OtherConfig refl) which);
      too_long = long;
      at_most = some;
      told = λ gone. ⊎_elim (λ is. inl is) (λ l. inr (inr (inr (inl l)))) line;
      bad_words = later BadWords refl;
      read_failed = failed;
      write_failed = λ is. absurd (later WriteFault refl is);
      disk_failed = λ is. absurd (later DiskFault refl is);
      device_failed = λ is. absurd (later DiskFault refl is);
      source_still = still;
      sink_still = λ is. absurd (later Done refl is);
      disk_still = inr (inr (inr (inr (ap disk.faults same))));
      complete = λ input t left tells unread unwritten unfailed. complete input t left unread;
    }

  -- the line of the status was written
  line_of : (s : Status) → status ≡ s → WritesLine sink before.sink after.sink (status_line s) → WritesLine sink before.sink after.sink (status_line status)
  line_of s is line = subst (λ (t : Status). WritesLine sink before.sink after.sink (status_line t)) (sym is) line

  -- a read failed
  pub read_fails : status ≡ ReadFault → WritesLine sink before.sink after.sink (status_line ReadFault) → ReadsWithin source before.source after.source → ReadsSome source before.source after.source
      → Rose (source.faults before.source) (source.faults after.source) → RunsScript source sink disk before after trace status
  read_fails is line within some rose = ended_early (ap is_early is) some
      (λ bad. absurd (let both : ReadFault ≡ BadScript = sym is ∙ bad in cc both)) (λ long. absurd (let both : ReadFault ≡ TooLong = sym is ∙ long in cc both))
      (λ failed. (within, rose)) (λ other. absurd (other is)) (inr (line_of ReadFault is line)) (λ input t left unread. absurd (unread rose))

  -- too many bytes came
  pub reads_too_much : status ≡ TooLong → WritesLine sink before.sink after.sink (status_line TooLong) → ReadsTooMuch source before.source after.source → ReadsSome source before.source after.source
      → source.faults after.source ≡ source.faults before.source → RunsScript source sink disk before after trace status
  reads_too_much is line much some still = ended_early (ap is_early is) some
      (λ bad. absurd (let both : TooLong ≡ BadScript = sym is ∙ bad in cc both)) (λ long. much) (λ failed. absurd (let both : TooLong ≡ ReadFault = sym is ∙ failed in cc both)) (λ other. still)
      (inr (line_of TooLong is line)) (λ input t left unread. inl (is ∙ expected_too_long source before.source after.source much input t.files left))

  -- there was no memory
  pub finds_no_memory : status ≡ NoMemory → WritesLine sink before.sink after.sink (status_line NoMemory) → ReadsSome source before.source after.source → source.faults after.source ≡ source.faults before.source
      → RunsScript source sink disk before after trace status
  finds_no_memory is line some still = ended_early (ap is_early is) some
      (λ bad. absurd (let both : NoMemory ≡ BadScript = sym is ∙ bad in cc both)) (λ long. absurd (let both : NoMemory ≡ TooLong = sym is ∙ long in cc both))
      (λ failed. absurd (let both : NoMemory ≡ ReadFault = sym is ∙ failed in cc both)) (λ other. still) (inr (line_of NoMemory is line)) (λ input t left unread. inr is)

  -- what was read is no script
  pub reads_no_script : (input : List ℕ) (fault : ScriptFault) → ReadsWhole source before.source after.source input → ReadsSome source before.source after.source → source.faults after.source ≡ source.faults before.source → script input ≡ Err fault
      → (status ≡ BadScript → WritesLine sink before.sink after.sink (fault_line fault)) → (status ≡ BadScript) ⊎ ((status ≡ NoMemory) × WritesLine sink before.sink after.sink (status_line NoMemory))
      → RunsScript source sink disk before after trace status
  reads_no_script input fault read some still unread line which = ⊎_elim
      (λ is. ended_early (ap is_early is) some (λ bad. (input, fault, read, unread, line bad))
      (λ long. absurd (let both : BadScript ≡ TooLong = sym is ∙ long in cc both)) (λ failed. absurd (let both : BadScript ≡ ReadFault = sym is ∙ failed in cc both)) (λ other. still)
      (inl is) (λ told t left still_read. inl (is ∙ expected_whole source before.source after.source input (Err fault) read unread told t.files left)))
      (λ memory. finds_no_memory memory.0 memory.1 some still) which

  -- the words are refused
  pub refuses_words : (s : Status) → status ≡ s → (s ≡ BadWords) ⊎ (s ≡ NoMemory) → after.source ≡ before.source → WritesLine sink before.sink after.sink (status_line s) → RefusesWords source sink disk before after trace status
  refuses_words s is which unread line = record {
    words_refused = ⊎_elim (λ bad. inl (is ∙ bad)) (λ memory. inr (is ∙ memory)) which;
    unread = unread;
    quiet = untouched;
    told = line_of s is line;
    disk_still = ap disk.faults same;
  }

  -- there was no memory, whatever was to be generated
  pub generates_nothing : (s : Script) → status ≡ NoMemory → after.source ≡ before.source → WritesLine sink before.sink after.sink (status_line NoMemory) → RunsGenerated source sink disk before after trace status s
  generates_nothing s is unread line = record {
    unread = unread;
    generated = inr (record { no_trace = none; quiet = untouched.1; cause = inr (is, line) });
    device_failed = λ fault. absurd (let both : NoMemory ≡ DiskFault = sym is ∙ fault in cc both);
    generated_complete = λ t tells unwritten unfailed. inr is;
  }
