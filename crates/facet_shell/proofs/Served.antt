-- Runs whose script was carried out, or whose store was not opened for it.
use Rattle.std.proofs.Common.{◌≡◌, ◌∙◌, ◌≤◌, ℕ, ◌+◌, Bool, true, false, List, length, Option, Some, Ok, refl, sym, ap, arith, inl, inr, ◌⊎◌, ⊎_elim}
use Rattle.facet_disk.specs.Images.{Told}
use Rattle.facet_disk.specs.declared.disk.Disk.{Ghosts}
use Rattle.facet_engine.specs.declared.ending.Trace.{Trace}
use Rattle.facet_io.specs.Faults.{Rose}
use Rattle.facet_io.specs.declared.sink.Sink.{Ghosts as SinkGhosts}
use Rattle.facet_io.specs.declared.source.Source.{Ghosts as SourceGhosts}
use Rattle.facet_words.specs.Commands.{Order, Script}
use Rattle.facet_words.specs.Scripts.{script}
use Rattle.store_opening.specs.Files.{files}
use Rattle.store_opening.specs.declared.fault.OpenFault.{OpenFault}
use Rattle.store_opening.specs.declared.fault.OpenFault.TheVariants as faults
use Rattle.facet_serving.proofs.Ending.{IsOfFiles, disk_failed, disk_still, done, kind_of, no_memory, not_opened, quiet, sink_still, told, write_failed, write_fault}
use Rattle.facet_serving.specs.Ends.{opened_status}
use Rattle.facet_serving.specs.Generating.{Generates, SummedAs}
use Rattle.facet_serving.specs.Reading.{ReadsWhole, script_limit}
use Rattle.facet_serving.specs.Serving.{EndsAs, IsCause, Serves, StaysShut}
use Rattle.facet_serving.specs.Sessions.{Ran}
use Rattle.facet_serving.specs.Statuses.{fault_status}
use Rattle.facet_serving.specs.declared.status.Status.{Status}
use Rattle.facet_serving.specs.declared.status.Status.TheVariants.{Done, BadWords, ReadFault, WriteFault, BadScript, DiskFault, BadStore, NoMemory, TooLong, OtherConfig}
use Rattle.facet_shell.specs.Runs.{Resources, RunsGenerated, RunsScript}
use Rattle.facet_shell.proofs.Sources.{expected_whole}

-- ---- the statuses of a run whose store is to be opened

abbrev is_served : Status → Bool
is_served Done = true
is_served WriteFault = true
is_served NoMemory = true
is_served DiskFault = true
is_served BadStore = true
is_served OtherConfig = true
is_served BadWords = false
is_served ReadFault = false
is_served BadScript = false
is_served TooLong = false

of_fault : (fault : OpenFault) → is_served (fault_status fault) ≡ true
of_fault faults.Disk = refl
of_fault (faults.Missing name) = refl
of_fault (faults.Damaged name kept digest) = refl
of_fault (faults.Malformed name at) = refl
of_fault (faults.Uncovered needs has) = refl
of_fault (faults.NumbersSpent greatest) = refl
of_fault (faults.OtherConfig dim) = refl
of_fault faults.NoMemory = refl

module _ {D K : Type 0} (disk : Ghosts D) (s : Script) (old new : D) (sink : SinkGhosts K) (before now : K) where
  of_sessions : (trace : Trace) (t : Status) → EndsAs disk s old new sink before now trace t → is_served t ≡ true
  of_sessions trace Done e = refl
  of_sessions trace WriteFault e = refl
  of_sessions trace NoMemory e = refl
  of_sessions trace _ e = absurd e

  pub of_served : (trace : Option Trace) (status : Status) → Serves disk s old new sink before now trace status ⊎ StaysShut disk s old new sink before now trace status → is_served status ≡ true
  of_served trace status (inl e) = of_sessions e.trace status e.ended
  of_served trace status (inr e) = ⊎_elim (λ c. ap is_served (sym c.1) ∙ of_fault c.0) (λ c. ap is_served c.0) e.cause

  -- ---- what the files say of the status

  module _ (t : Told) (tells : disk.told old ≡ Some t) (unwritten : ¬ Rose (sink.faults before) (sink.faults now)) where
    abbrev IsDue : Status → Type 0
    IsDue status = (status ≡ opened_status (files s.settings.config t.files)) ⊎ (status ≡ NoMemory)

    opened_done : (phases : List (List Order)) (trace : Trace) → Ran disk s.settings phases trace old new → Done ≡ opened_status (files s.settings.config t.files)
    opened_done phases trace ran = let found = ran.opens.stored t tells in ap opened_status (sym found.1)

    sessions_due : (trace : Trace) (u : Status) → EndsAs disk s old new sink before now trace u → IsDue u
    sessions_due trace Done e = inl (opened_done s.phases trace e.0)
    sessions_due trace WriteFault e = absurd (unwritten e.0)
    sessions_due trace NoMemory e = inr refl
    sessions_due trace _ e = absurd e

    summed_due : (trace : Trace) (u : Status) → SummedAs disk s old new sink before now trace u → IsDue u
    summed_due trace Done e = inl (opened_done s.phases trace e.0)
    summed_due trace WriteFault e = absurd (unwritten e.0)
    summed_due trace NoMemory e = inr refl
    summed_due trace _ e = absurd e

    module _ (unfailed : ¬ Rose (disk.faults old) (disk.faults new)) (trace : Option Trace) (status : Status) where
      fault_due : (fault : OpenFault) → fault_status fault ≡ status → IsCause disk s.settings.config old new fault → (fault ≡ faults.Disk) ⊎ (fault ≡ faults.NoMemory) ⊎ IsOfFiles fault → IsDue status
      fault_due fault ends cause (inl same) = absurd (unfailed (cause.0 same))
      fault_due fault ends cause (inr (inl same)) = inr (sym ends ∙ ap fault_status same)
      fault_due fault ends cause (inr (inr of_files)) = inl (sym ends ∙ ap opened_status (sym (cause.1 of_files.1 of_files.0 t tells)))

      shut_due : StaysShut disk s old new sink before now trace status → IsDue status
      shut_due e = ⊎_elim (λ c. fault_due c.0 c.1 c.2 (kind_of c.0)) (λ c. inr c.0) e.cause

      pub served_due : Serves disk s old new sink before now trace status ⊎ StaysShut disk s old new sink before now trace status → IsDue status
      served_due (inl e) = sessions_due e.trace status e.ended
      served_due (inr e) = shut_due e

      pub generated_due : Generates disk s old new sink before now trace status ⊎ StaysShut disk s old new sink before now trace status → IsDue status
      generated_due (inl e) = summed_due e.trace status e.ended
      generated_due (inr e) = shut_due e

-- ---- what is promised

module _ {S K D : Type 0} (source : SourceGhosts S) (sink : SinkGhosts K) (disk : Ghosts D) (before after : Resources S K D) (trace : Option Trace) (status : Status) where
  -- the script was read
  module _ (s : Script) (input : List ℕ) (read : ReadsWhole source before.source after.source input) (is : script input ≡ Ok s)
      (ended : Serves disk s before.disk after.disk sink before.sink after.sink trace status ⊎ StaysShut disk s before.disk after.disk sink before.sink after.sink trace status) where
    never : (t : Status) → is_served t ≡ false → status ≡ t → ⊥
    never t not_served same =
        let served : is_served status ≡ true = of_served disk s before.disk after.disk sink before.sink after.sink trace status ended in
        let both : false ≡ true = sym not_served ∙ ap is_served (sym same) ∙ served in cc both

    pub script_served : source.faults after.source ≡ source.faults before.source → (status ≡ DiskFault → (t : Told) → disk.told before.disk ≡ Some t → Rose (disk.failures before.disk) (disk.failures after.disk))
        → RunsScript source sink disk before after trace status
    script_served still failed = record {
      done = done disk s input source before.source after.source before.disk after.disk sink before.sink after.sink trace status read is ended;
      write_fault = write_fault disk s input source before.source after.source before.disk after.disk sink before.sink after.sink trace status read is ended;
      no_memory = no_memory disk s input source before.source after.source before.disk after.disk sink before.sink after.sink trace status read is ended;
      quiet = quiet disk s input source before.source after.source before.disk after.disk sink before.sink after.sink trace status read is ended;
      bad_script = λ same. absurd (never BadScript refl same);
      not_opened = not_opened disk s input source before.source after.source before.disk after.disk sink before.sink after.sink trace status read is ended;
      too_long = λ same. absurd (never TooLong refl same);
      at_most = (let fits = read.fits in let few : length input ≤ script_limit + 1 = omega (arith, fits) in (input, few, read.read));
      told = told disk s input source before.source after.source before.disk after.disk sink before.sink after.sink trace status read is ended;
      bad_words = never BadWords refl;
      read_failed = λ same. absurd (never ReadFault refl same);
      write_failed = write_failed disk s input source before.source after.source before.disk after.disk sink before.sink after.sink trace status read is ended;
      disk_failed = disk_failed disk s input source before.source after.source before.disk after.disk sink before.sink after.sink trace status read is ended;
      device_failed = failed;
      source_still = λ other. still;
      sink_still = sink_still disk s input source before.source after.source before.disk after.disk sink before.sink after.sink trace status read is ended;
      disk_still = disk_still disk s input source before.source after.source before.disk after.disk sink before.sink after.sink trace status read is ended;
      complete = λ bytes t left tells unread unwritten unfailed. ⊎_elim
          (λ due. inl (due ∙ expected_whole source before.source after.source input (Ok s) read is bytes t.files left)) (λ memory. inr memory)
          (served_due disk s before.disk after.disk sink before.sink after.sink t tells unwritten unfailed trace status ended);
    }

  -- the script was generated
  pub script_generated : (s : Script) → after.source ≡ before.source
      → Generates disk s before.disk after.disk sink before.sink after.sink trace status ⊎ StaysShut disk s before.disk after.disk sink before.sink after.sink trace status
      → (status ≡ DiskFault → (t : Told) → disk.told before.disk ≡ Some t → Rose (disk.failures before.disk) (disk.failures after.disk)) → RunsGenerated source sink disk before after trace status s
  script_generated s unread ended failed = record {
    unread = unread;
    generated = ended;
    device_failed = failed;
    generated_complete = λ t tells unwritten unfailed. generated_due disk s before.disk after.disk sink before.sink after.sink t tells unwritten unfailed trace status ended;
  }
