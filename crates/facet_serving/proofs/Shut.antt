-- A store that was not opened.
use Rattle.std.proofs.Common.{◌≡◌, Option, Some, None, Err, sym, ap, ◌∙◌, subst, inl, inr, ◌⊎◌, ⊎_elim}
use Rattle.std.specs.Prelude.{◌≢◌}
use Rattle.facet_disk.specs.Calls as disk_calls
use Rattle.facet_disk.specs.Images.{Told}
use Rattle.facet_disk.specs.declared.disk.Disk.{Ghosts}
use Rattle.facet_engine.specs.declared.ending.Trace.{Trace}
use Rattle.facet_io.specs.declared.sink.Sink.{Ghosts as SinkGhosts}
use Rattle.facet_model.specs.Flags.{Config}
use Rattle.facet_words.specs.Commands.{Script}
use Rattle.store_opening.specs.Faults.{IsSound}
use Rattle.store_opening.specs.Files.{files}
use Rattle.store_opening.specs.Quiet.{IsQuiet}
use Rattle.store_opening.specs.declared.fault.OpenFault.{OpenFault}
use Rattle.store_opening.specs.declared.fault.OpenFault.TheVariants.{Disk as OfDisk, NoMemory as NoRoom}
use Rattle.facet_serving.specs.Writing.{WritesLine, WritesOpenLine}
use Rattle.facet_serving.specs.Serving.{StaysShut}
use Rattle.facet_serving.specs.Statuses.{fault_status, status_line}
use Rattle.facet_serving.specs.declared.status.Status.{Status}
use Rattle.facet_serving.specs.declared.status.Status.TheVariants.{NoMemory}

module _ {D K : Type 0} (ghosts : Ghosts D) (s : Script) (start : D) (sink : SinkGhosts K) (before now : K) (left : Option Trace) (status : Status) where
  -- memory was wanting
  pub shut_without : (disk new : D) → new ≡ disk → IsQuiet ghosts start disk → left ≡ None → status ≡ NoMemory → WritesLine sink before now (status_line NoMemory) → StaysShut ghosts s start new sink before now left status
  shut_without disk new back quiet none ends line = record { no_trace = none; quiet = subst (λ (d : D). IsQuiet ghosts start d) (sym back) quiet; cause = inr (ends, line) }

  -- it was, and nothing was written before
  pub shut_after : (middle : K) → middle ≡ before → (disk new : D) → new ≡ disk → IsQuiet ghosts start disk → left ≡ None → status ≡ NoMemory → WritesLine sink middle now (status_line NoMemory) → StaysShut ghosts s start new sink before now left status
  shut_after middle same disk new back quiet none ends line = shut_without disk new back quiet none ends (subst (λ (k : K). WritesLine sink k now (status_line NoMemory)) same line)

  -- the opening met a fault
  pub shuts : (config : Config) → config ≡ s.settings.config → (disk new : D) (fault : OpenFault) → new ≡ disk → IsQuiet ghosts start disk → left ≡ None
      → (fault ≢ NoRoom → fault ≢ OfDisk → (t : Told) → ghosts.told start ≡ Some t → files config t.files ≡ Err fault) → (fault ≡ OfDisk → disk_calls.Rose (ghosts.faults start) (ghosts.faults disk))
      → (fault ≢ OfDisk → ghosts.faults disk ≡ ghosts.faults start) → IsSound fault
      → ((status ≡ fault_status fault) × WritesOpenLine sink before now fault) ⊎ ((status ≡ NoMemory) × WritesLine sink before now (status_line NoMemory))
      → StaysShut ghosts s start new sink before now left status
  shuts config same disk new fault back quiet none has rose still sound tells = record {
    no_trace = none;
    quiet = subst (λ (d : D). IsQuiet ghosts start d) (sym back) quiet;
    cause = ⊎_elim
        (λ t. inl (
          fault,
          sym t.0,
          ((λ is. subst (λ (d : D). disk_calls.Rose (ghosts.faults start) (ghosts.faults d)) (sym back) (rose is)), (λ one two u tells_start. subst (λ (c : Config). files c u.files ≡ Err fault) same (has one two u tells_start)), (λ other. ap ghosts.faults back ∙ still other), sound),
          t.1,
        ))
        (λ t. inr t) tells;
  }
