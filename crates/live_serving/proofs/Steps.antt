-- The steps of a live process, and where it stops.
use Rattle.std.proofs.Common.{◌≡◌, ◌∙◌, ◌<◌, ◌⊎◌, inl, inr, ℕ, Bool, true, false, List, [], ◌∷◌, ◌++◌, length, take, Option, Some, None, refl, sym, ap, subst, append_assoc, append-nil}
use Rattle.std.specs.Io.KnownBytes.{Consumes, IsAtEnd, Keeps}
use Rattle.facet_io.specs.Faults.{Rose}
use Rattle.facet_output.specs.Answered.{Answered}
use Rattle.facet_phases.specs.declared.fault.PhaseFault.TheVariants.{Read, Write, NoMemory}
use Rattle.facet_words.specs.Lines.{lines_of}
use Rattle.live_io.specs.Events.{flushed, noted}
use Rattle.live_io.specs.Unread.{Fills, first_feed}
use Rattle.live_io.specs.declared.duplex.Duplex.{Ghosts}
use Rattle.live_lines.specs.Items.{Item, Reading, item_list, items_from, last_item, live_items}
use Rattle.live_lines.specs.Lines.{most_bytes}
use Rattle.live_serving.specs.Answering.{Puts, PutsBytes, PutsSome}
use Rattle.live_serving.specs.Firsts.{ReadsFirst}
use Rattle.live_lines.specs.Views.{reading_of}
use Rattle.live_serving.specs.Lines.{fault_lines, said}
use Rattle.live_serving.specs.Moments.{AreStill, Beginning, FailsBy, FailsInFaults, HasRead, HasTalked, IsAsked, IsAt, IsLiveAt, IsOver, IsStopped, IsStoppedAll, IsUnderway}
use Rattle.live_serving.specs.declared.line_phases.LinePhases.{LinePhases}
use Rattle.live_serving.proofs.Read.{got_more, is_due, items_front, lines_first, whole_all, whole_first}
use Rattle.live_serving.proofs.Talked.{talked_flush, talked_puts, talked_read, talked_same}
use Rattle.live_serving.proofs.Written.{as_many_more, said_more}

module _ {X : Type 0} (io : Ghosts X) (b : Beginning X) where
  -- ---- where it stops

  stopped_by : (t : Bool) (p : LinePhases) (now : X) (got : List ℕ) (items : List Item) (replies : List (List Answered)) (written : List ℕ) → HasTalked io b now got replies written
      → HasRead t b.only_reads b.first p got items → (t ≡ true → IsAtEnd (io.left now)) → (more : List Item) × IsStopped io b now items more replies written
  stopped_by false p now got items replies written h u end =
      let ms = lines_of (u.unread.gone ++ p.reader.bytes) in
      let s = items_from b.only_reads (reading_of p.grouping) ms in (
        s.0 ++ item_list (last_item s.1),
        record {
          got = got;
          rest = u.taken ++ ms;
          read = record { taken = h.consumed; lines = lines_first b.only_reads b.first p got items u; whole = inl (whole_first b.only_reads b.first p got items u) };
          items_are = items_front b.only_reads u.taken ms items (reading_of p.grouping) u.reading;
          talked = h;
        },
      )
  stopped_by true p now got items replies written h v end = (
    item_list (last_item (reading_of p.grouping)),
    record {
      got = got;
      rest = v.rest;
      read = record { taken = h.consumed; lines = v.lines; whole = inr (end refl) };
      items_are = v.items_are;
      talked = h;
    },
  )

  pub stopped : (p : LinePhases) (now : X) (items : List Item) (replies : List (List Answered)) (written : List ℕ) → IsAt io b p now items replies written
      → (more : List Item) × IsStopped io b now items more replies written
  stopped p now items replies written a = stopped_by p.is_ended p now a.got items replies written a.talked a.read a.ended

  pub stopped_at : (p : LinePhases) (now : X) (got : List ℕ) (items : List Item) (replies : List (List Answered)) (written : List ℕ) → HasTalked io b now got replies written
      → HasRead p.is_ended b.only_reads b.first p got items → (p.is_ended ≡ true → IsAtEnd (io.left now)) → (more : List Item) × IsStopped io b now items more replies written
  stopped_at p now got items replies written h r end = stopped_by p.is_ended p now got items replies written h r end

  -- while input has not ended
  pub stopped_under : (p : LinePhases) (now : X) (got : List ℕ) (items : List Item) (replies : List (List Answered)) (written : List ℕ) → HasTalked io b now got replies written
      → IsUnderway b.only_reads b.first p got items → (more : List Item) × IsStopped io b now items more replies written
  stopped_under p now got items replies written h u = stopped_by false p now got items replies written h u (λ e. absurd cc)

  -- where no whole line is left and input has not ended
  pub stopped_all : (p : LinePhases) (now : X) (got : List ℕ) (items : List Item) (replies : List (List Answered)) → HasTalked io b now got replies (said b.opened items replies)
      → IsUnderway b.only_reads b.first p got items → first_feed p.reader.bytes ≡ None → IsStoppedAll io b now items replies
  stopped_all p now got items replies h u none =
      let ms = lines_of (u.unread.gone ++ p.reader.bytes) in
      let s = items_from b.only_reads (reading_of p.grouping) ms in
      record {
        more = s.0 ++ item_list (last_item s.1);
        stopped = record {
          got = got;
          rest = u.taken ++ ms;
          read = record { taken = h.consumed; lines = lines_first b.only_reads b.first p got items u; whole = inl (whole_first b.only_reads b.first p got items u) };
          items_are = items_front b.only_reads u.taken ms items (reading_of p.grouping) u.reading;
          talked = h;
        };
        lines = u.taken;
        whole = whole_all b.only_reads b.first p got items u none;
        all = ap (λ (t : List Item × Reading). t.0) u.reading;
      }

  -- ---- what was read while input has not ended

  pub underway : (p : LinePhases) (now : X) (items : List Item) (replies : List (List Answered)) (written : List ℕ) → (a : IsAt io b p now items replies written) → p.is_ended ≡ false
      → IsUnderway b.only_reads b.first p a.got items
  underway p now items replies written a is = subst (λ (t : Bool). HasRead t b.only_reads b.first p a.got items) is a.read

  -- ---- a flush that failed, and a read call that failed

  pub flush_fails : (p : LinePhases) (old new : X) (items : List Item) (replies : List (List Answered)) → IsLiveAt io b p old items replies → p.is_ended ≡ false → first_feed p.reader.bytes ≡ None
      → io.events new ≡ io.events old → Keeps (io.written old) (io.written new) → io.left new ≡ io.left old → io.read_faults new ≡ io.read_faults old
      → Rose (io.write_faults old) (io.write_faults new) → FailsBy io b new items replies Write
  flush_fails p old new items replies l going none events keeps left reads rose =
      let a = l.is in (
        subst (λ (n : ℕ). Rose n (io.write_faults new)) a.still.writes rose,
        reads ∙ a.still.reads,
        inl (stopped_all p new a.got items replies (talked_same io b old new a.got replies (said b.opened items replies) a.talked events keeps (kept_left left)) (underway p old items replies (said b.opened items replies) a going) none),
      )
    where
      kept : (o : Option (List ℕ)) → Keeps o o
      kept None = tt
      kept (Some xs) = refl

      kept_left : io.left new ≡ io.left old → Keeps (io.left old) (io.left new)
      kept_left is = subst (λ (o : Option (List ℕ)). Keeps (io.left old) o) (sym is) (kept (io.left old))

  -- after a flush
  pub flushed_live : (p : LinePhases) (old mid : X) (items : List Item) (replies : List (List Answered)) → IsLiveAt io b p old items replies → p.is_ended ≡ false
      → io.events mid ≡ noted flushed (io.events old) → Keeps (io.written old) (io.written mid) → io.left mid ≡ io.left old
      → (a : IsAt io b p old items replies (said b.opened items replies)) × HasTalked io b mid a.got replies (said b.opened items replies)
  flushed_live p old mid items replies l going events keeps left = (l.is, talked_flush io b old mid l.is.got replies (said b.opened items replies) l.is.talked events keeps left)
