-- What holds when the sessions of a live process begin, and where there is no memory for them.
use Rattle.std.proofs.Common.{◌≡◌, ◌∙◌, ◌⊎◌, inl, inr, ⊎_elim, ℕ, Bool, true, List, [], ◌++◌, length, take, Option, Some, None, Result, Ok, refl, sym, ap, subst, append-nil}
use Rattle.std.specs.Prelude.{◌≢◌}
use Rattle.std.specs.Io.KnownBytes.{Appends, Consumes, IsAtEnd}
use Rattle.facet_disk.specs.declared.disk.Disk.{Ghosts}
use Rattle.facet_engine.specs.declared.ending.Trace.{Trace}
use Rattle.facet_io.specs.Faults.{Rose}
use Rattle.facet_output.specs.Answered.{Answered}
use Rattle.facet_output.specs.Output.{Opened, opened_pair}
use Rattle.facet_serving.specs.Ends.{EndsBefore}
use Rattle.facet_serving.specs.Statuses.{status_line}
use Rattle.facet_serving.specs.Stores.{Opens}
use Rattle.facet_serving.specs.declared.status.Status.{Status}
use Rattle.facet_serving.specs.declared.status.Status.TheVariants.{Done, BadWords, ReadFault, WriteFault, BadScript, DiskFault, BadStore, NoMemory, TooLong, OtherConfig}
use Rattle.facet_words.specs.Commands.{Settings}
use Rattle.live_io.specs.Events.{Event, IsPrompt, PutAfter, PutsAfter}
use Rattle.live_io.specs.declared.duplex.Duplex.{Ghosts as DuplexGhosts}
use Rattle.live_lines.specs.FaultLines.{opened_line}
use Rattle.live_serving.specs.Answering.{Puts, PutsBytes, PutsSome}
use Rattle.live_serving.specs.Closing.{PutsLine}
use Rattle.live_serving.specs.Ends.{Tells, WasPrompt}
use Rattle.live_serving.specs.FirstLine.{HasGot, StartsLate}
use Rattle.live_serving.specs.Lines.{due, due_after, said, whole_lines}
use Rattle.live_serving.specs.Moments.{Beginning, HasTalked, IsLiveAt}
use Rattle.live_serving.specs.Runs.{RunsLive}
use Rattle.live_serving.specs.Starting.{Starts}
use Rattle.live_serving.specs.declared.line_phases.LinePhases.{LinePhases}
use Rattle.live_serving.proofs.AtEnd.{some_put, tells_line}
use Rattle.live_serving.proofs.Talked.{talked_puts}

-- nothing is due before the first line is whole
due_late : (only_reads : Bool) (opened : ℕ × ℕ) (replies : List (List Answered)) → StartsLate (due only_reads opened replies)
due_late only_reads opened replies bytes none = ap (λ (ls : List (List ℕ)). due_after only_reads opened replies ls) none

none_written : (old new : Option (List ℕ)) → new ≡ old → Appends old new []
none_written None new is = tt
none_written (Some xs) new is = subst (λ (o : Option (List ℕ)). Appends (Some xs) o []) (sym is) (sym (append-nil xs))

module _ {X : Type 0} (io : DuplexGhosts X) where
  -- what was got, before anything was put
  pub talked_none : (b : Beginning X) (before : X) (got : List ℕ) → HasGot io b.before before got → HasTalked io b before got [] []
  talked_none b before got h = record {
    consumed = h.consumed;
    appended = none_written (io.written b.before) (io.written before) h.written;
    told = λ none. let t = h.told none in (t.0, t.1, t.2, t.3, λ more. t.5 (due b.only_reads b.opened more) (due_late b.only_reads b.opened more));
  }

  pub starts_live : (from before now : X) (p : LinePhases) (opened : ℕ × ℕ) (first : List ℕ) → Starts io from before now p opened first
      → IsLiveAt io (record { only_reads = p.only_reads; opened = opened; first = first; before = from }) p now [] []
  starts_live from before now p opened first s =
      let b : Beginning X = record { only_reads = p.only_reads; opened = opened; first = first; before = from } in
      record {
        as_many = refl;
        is = record {
          got = s.got;
          talked = subst (λ (w : List ℕ). HasTalked io b now s.got [] w) (sym (append-nil (opened_line opened)))
              (talked_puts io b before now s.got [] [] (opened_line opened) (talked_none b before s.got s.has) s.puts.0);
          only_reads = refl;
          read = s.read;
          ended = λ is. subst IsAtEnd (sym s.puts.0.left) (s.ended is);
          still = record { reads = s.puts.0.read_faults ∙ s.reads; writes = s.puts.1 ∙ s.has.writes };
        };
      }

-- ---- where there is no memory for the sessions

after_puts : (old new : Option (List Event)) (es : List Event) (bytes : List ℕ) → PutsAfter bytes old new → old ≡ Some es → (fs : List Event) × (new ≡ Some fs) × PutAfter bytes es fs
after_puts None new es bytes p e = absurd cc
after_puts (Some old) None es bytes p e = absurd p
after_puts (Some old) (Some new) es bytes p e = let is : old ≡ es = cc in (new, refl, subst (λ (es : List Event). PutAfter bytes es new) is p)

module _ {X D : Type 0} (io : DuplexGhosts X) (disk : Ghosts D) where
  pub prompt_puts : (from mid to : X) (due_then : List ℕ → List ℕ) (got bytes : List ℕ) → WasPrompt io from mid due_then got → PutsBytes io mid to bytes → WasPrompt io from to due_then got
  prompt_puts from mid to due_then got bytes was p none =
      let t = was none in
      let q = after_puts (io.events mid) (io.events to) t.0 bytes p.events t.1 in
      (q.0, q.1, q.2.got_same ∙ t.2, q.2.prompt due_then t.3)

  -- nothing was due before the first line was whole
  pub prompt_none : (from before : X) (got : List ℕ) → HasGot io from before got → WasPrompt io from before (λ bytes. []) got
  prompt_none from before got h none = let t = h.told none in (t.0, t.1, t.2, t.5 (λ bytes. []) (λ bytes none. refl))

  pub starts_short : (only_reads : Bool) (from before now to : X) (p : LinePhases) (first : List ℕ) (old new : D) (left : Option Trace) (status : Status) (settings : Settings) (opened : Opened) → Starts io from before now p (opened_pair opened) first
      → Opens disk settings.config old opened → EndsBefore disk old new left → status ≡ NoMemory → PutsLine io now to (status_line NoMemory) → RunsLive io disk only_reads from to old new left status
  starts_short only_reads from before now to p first old new left status settings opened s opens ends is put =
      let b : Beginning X = record { only_reads = p.only_reads; opened = opened_pair opened; first = first; before = from } in
      let lines : List ℕ = opened_line (opened_pair opened) in
      let talked = talked_puts io b before now s.got [] [] lines (talked_none io b before s.got s.has) s.puts.0 in
      let some = some_put io b now to (status_line NoMemory) put in
      let reads : io.read_faults to ≡ io.read_faults from = some.1.read_faults ∙ s.puts.0.read_faults ∙ s.reads in
      record {
        done = λ e. absurd (cc (sym is ∙ e));
        write_fault = λ e. absurd (cc (sym is ∙ e));
        read_fault = λ e. absurd (cc (sym is ∙ e));
        no_memory = λ e. inr (record {
          before = ends;
          lines = lines;
          opened = inr (opened, settings, opens, refl);
          written = tells_line io b now to s.got [] lines (status_line NoMemory) talked (s.puts.1 ∙ s.has.writes) put;
        });
        bad_script = λ e. absurd (cc (sym is ∙ e));
        not_opened = λ e. ⊎_elim (λ b. absurd (cc (sym is ∙ b))) (λ o. absurd (cc (sym is ∙ o))) e;
        too_long = λ e. absurd (cc (sym is ∙ e));
        quiet = inr (inr (inr (inl is)));
        disk_told = λ e. absurd (cc (sym is ∙ e));
        long_told = λ e. absurd (cc (sym is ∙ e));
        bad_words = λ e. absurd (cc (sym is ∙ e));
        read_failed = λ e. absurd (cc (sym is ∙ e));
        write_failed = λ e. absurd (cc (sym is ∙ e));
        disk_failed = λ e. absurd (cc (sym is ∙ e));
        device_failed = λ e t tells. absurd (cc (sym is ∙ e));
        read_still = λ other. reads;
        write_still = λ e. absurd (cc (sym is ∙ e));
        disk_still = inr (inr (inr (inl is)));
        prompt = λ none. (
          s.got,
          (talked_puts io b now to s.got [] lines some.0 talked some.1).consumed,
          prompt_puts from now to (λ bytes. []) s.got some.0 (prompt_puts from before now (λ bytes. []) s.got lines (prompt_none from before s.got s.has) s.puts.0) some.1,
        );
        complete = λ input t left_is tells no_read no_write no_disk. inr is;
      }
