-- What a live process promises whose sessions began.
use Rattle.std.proofs.Common.{◌≡◌, ◌∙◌, ◌⊎◌, inl, inr, ⊎_elim, ℕ, ◌<◌, ◌≤◌, Bool, true, false, cond, List, [], ◌∷◌, ◌++◌, length, Option, Some, None, Result, Ok, refl, sym, ap, subst, append-nil}
use Rattle.std.specs.Prelude.{◌≢◌, nat_lt}
use Rattle.std.proofs.lemmas.Bool.{le-ltb}
use Rattle.std.specs.Io.KnownBytes.{Consumes, IsAtEnd}
use Rattle.facet_disk.specs.Images.{Image, Told}
use Rattle.facet_disk.specs.declared.disk.Disk.{Ghosts}
use Rattle.facet_engine.specs.declared.ending.Trace.{Trace}
use Rattle.facet_io.specs.Faults.{Rose}
use Rattle.facet_serving.specs.Ends.{opened_status}
use Rattle.facet_serving.specs.declared.status.Status.{Status}
use Rattle.facet_serving.specs.declared.status.Status.TheVariants.{Done, BadWords, ReadFault, WriteFault, BadScript, DiskFault, BadStore, NoMemory, TooLong, OtherConfig}
use Rattle.facet_words.specs.Commands.{Settings}
use Rattle.facet_words.specs.Lines.{lines_of}
use Rattle.facet_words.specs.Scripts.{config_at}
use Rattle.facet_words.specs.declared.fault.ScriptFault.{ScriptFault}
use Rattle.live_io.specs.declared.duplex.Duplex.{Ghosts as DuplexGhosts}
use Rattle.live_lines.specs.Lines.{most_bytes}
use Rattle.live_serving.specs.Ends.{LivesPartly, LivesShort, LivesUnread, LivesWhole, config_status, expected_live, first_status}
use Rattle.live_serving.specs.Runs.{RunsLive}
use Rattle.store_opening.specs.Files.{Found, files}

-- all bytes that were left were got
got_all : (left : Option (List ℕ)) (input got : List ℕ) → Consumes (Some input) left got → IsAtEnd left → got ≡ input
got_all None input got taken end = absurd taken
got_all (Some rest) input got taken end = sym (taken ∙ ap (λ (l : List ℕ). got ++ l) end ∙ append-nil got)

-- where all was read and the files represent a store, that is what these bytes and files come to
expected : (first : List ℕ) → length first ≤ most_bytes → (settings : Settings) → config_at first ≡ Ok settings → (input : List ℕ) (t : Told) (rest : List (List ℕ)) → lines_of input ≡ first ∷ rest
    → (f : Found) → files settings.config t.files ≡ Ok f → expected_live input t.files ≡ Done
expected first short settings settings_is input t rest lines f found =
    ap (λ (ls : List (List ℕ)). first_status ls t.files) lines
    ∙ ap (λ (long : Bool). cond long TooLong (config_status (config_at first) t.files)) (le-ltb most_bytes (length first) short)
    ∙ ap (λ (r : Result Settings ScriptFault). config_status r t.files) settings_is ∙ ap opened_status found

module _ {X D : Type 0} (io : DuplexGhosts X) (disk : Ghosts D) (only_reads : Bool) (from to : X) (old new : D) (left : Option Trace) where
  -- all was done, and the first line has no more bytes than it may
  abbrev pub IsWhole : Type 0
  IsWhole = (w : LivesWhole io disk only_reads from to old new left) × (length w.served.first ≤ most_bytes)

  -- the sessions ended so, by the status, and what is known of the counts of faults
  abbrev pub LivesAs : Status → Type 0
  LivesAs Done = IsWhole × (io.write_faults to ≡ io.write_faults from) × (io.read_faults to ≡ io.read_faults from)
  LivesAs WriteFault = LivesPartly io disk only_reads from to old new left × Rose (io.write_faults from) (io.write_faults to) × (io.read_faults to ≡ io.read_faults from)
  LivesAs ReadFault = LivesUnread io disk only_reads from to old new left × Rose (io.read_faults from) (io.read_faults to)
  LivesAs NoMemory = LivesShort io disk only_reads from to old new left × (io.read_faults to ≡ io.read_faults from)
  LivesAs _ = ⊥

  which_of : (s : Status) → LivesAs s → (s ≡ Done) ⊎ (s ≡ WriteFault) ⊎ (s ≡ ReadFault) ⊎ (s ≡ NoMemory)
  which_of Done e = inl refl
  which_of WriteFault e = inr (inl refl)
  which_of ReadFault e = inr (inr (inl refl))
  which_of NoMemory e = inr (inr (inr refl))
  which_of BadWords e = absurd e
  which_of BadScript e = absurd e
  which_of DiskFault e = absurd e
  which_of BadStore e = absurd e
  which_of TooLong e = absurd e
  which_of OtherConfig e = absurd e

  module _ (status : Status) (ends : LivesAs status) (trace : Trace) (left_is : left ≡ Some trace) where
    as_now : (s : Status) → status ≡ s → LivesAs s
    as_now s is = subst (λ (t : Status). LivesAs t) is ends

    no_trace : left ≡ None → ⊥
    no_trace none = let both : Some trace ≡ None = sym left_is ∙ none in absurd (cc both)

    whichever : (A : Type 0) → (status ≡ Done → A) → (status ≡ WriteFault → A) → (status ≡ ReadFault → A) → (status ≡ NoMemory → A) → A
    whichever A d w r n = ⊎_elim d (λ more. ⊎_elim w (λ more. ⊎_elim r n more) more) (which_of status ends)

    complete : (input : List ℕ) (t : Told) → io.left from ≡ Some input → disk.told old ≡ Some t → (Rose (io.read_faults from) (io.read_faults to) → ⊥) → (Rose (io.write_faults from) (io.write_faults to) → ⊥)
        → (status ≡ expected_live input t.files) ⊎ (status ≡ NoMemory)
    complete input t is told reads writes = whichever ((status ≡ expected_live input t.files) ⊎ (status ≡ NoMemory))
        (λ done.
        let w = (as_now Done done).0 in
        let s = w.0.served in
        let got = got_all (io.left to) input s.got (subst (λ (l : Option (List ℕ)). Consumes l (io.left to) s.got) is s.read.taken) w.0.end in
        let found = s.ran.opens.stored t told in
        inl (done ∙ sym (expected s.first w.1 s.settings s.settings_is input t s.rest (ap lines_of (sym got) ∙ s.read.lines) found.0 found.1)))
        (λ is. absurd (writes (as_now WriteFault is).1))
        (λ is. absurd (reads (as_now ReadFault is).1))
        (λ is. inr is)

    pub lives : RunsLive io disk only_reads from to old new left status
    lives = record {
      done = λ is. (as_now Done is).0.0;
      write_fault = λ is. (as_now WriteFault is).0;
      read_fault = λ is. inl (as_now ReadFault is).0;
      no_memory = λ is. inl (as_now NoMemory is).0;
      bad_script = λ is. absurd (as_now BadScript is);
      not_opened = λ is. ⊎_elim (λ b. absurd (as_now BadStore b)) (λ o. absurd (as_now OtherConfig o)) is;
      too_long = λ is. absurd (as_now TooLong is);
      quiet = whichever _ (λ d. inl d) (λ w. inr (inl w)) (λ r. inr (inr (inl r))) (λ n. inr (inr (inr (inl n))));
      disk_told = λ is. absurd (as_now DiskFault is);
      long_told = λ is. absurd (as_now TooLong is);
      bad_words = λ is. absurd (as_now BadWords is);
      read_failed = λ is. (as_now ReadFault is).1;
      write_failed = λ is. (as_now WriteFault is).1;
      disk_failed = λ is. absurd (as_now DiskFault is);
      device_failed = λ is t tells. absurd (as_now DiskFault is);
      read_still = λ other. whichever (io.read_faults to ≡ io.read_faults from) (λ d. (as_now Done d).2) (λ w. (as_now WriteFault w).2) (λ r. absurd (other r)) (λ n. (as_now NoMemory n).1);
      write_still = λ is. (as_now Done is).1;
      disk_still = whichever _ (λ d. inl d) (λ w. inr (inl w)) (λ r. inr (inr (inl r))) (λ n. inr (inr (inr (inl n))));
      prompt = λ none. absurd (no_trace none);
      complete = λ input t is told reads writes faults. complete input t is told reads writes;
    }
