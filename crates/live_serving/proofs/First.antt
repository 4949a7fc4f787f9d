-- What is got of the first line.
use Rattle.std.proofs.Common.{◌≡◌, ◌∙◌, ◌<◌, ◌≤◌, ◌⊎◌, inl, inr, ℕ, zero, suc, Bool, true, false, List, [], ◌∷◌, ◌++◌, length, Option, Some, None, Result, Ok, Err, refl, sym, ap, subst, append-nil, arith}
use Rattle.std.specs.Io.KnownBytes.{Consumes, IsAtEnd, Keeps}
use Rattle.std.proofs.KnownBytes.{Consumes-kept, Consumes-nil, Consumes-trans}
use Rattle.std.proofs.lemmas.List.{nil_from_length}
use Rattle.facet_io.specs.Faults.{Rose}
use Rattle.live_io.specs.Events.{Event, IsPrompt, flushed_in, got, got_in, noted, put_in}
use Rattle.live_io.specs.Unread.{Fills, IsUnread, Unread, first_feed, nothing_unread, with_got}
use Rattle.live_io.specs.declared.duplex.Duplex.{Ghosts}
use Rattle.live_lines.specs.Lines.{most_bytes}
use Rattle.live_serving.specs.FirstLine.{FailsFirst, Finds, GoesOnReading, HasFirst, HasGot, HasLong, HasNone, Looks}
use Rattle.live_serving.specs.Lines.{whole_lines}
use Rattle.live_serving.specs.declared.first_line.FirstFault.{FirstFault}
use Rattle.live_serving.specs.declared.first_line.FirstFault.TheVariants.{Read, TooLong, NoLine, NoMemory}
use Rattle.live_serving.specs.declared.first_line.FirstLine.{FirstLine}
use Rattle.live_serving.proofs.Cut.{unfed_append, whole_none}
use Rattle.live_serving.proofs.Reading.{WasFilled, none_after_none}

-- what was got has no whole line
pub none_whole : (u : Unread) (bytes : List ℕ) → (i : IsUnread most_bytes [] u bytes) → first_feed u.bytes ≡ None → whole_lines bytes ≡ []
none_whole u bytes i none = ap whole_lines i.parts ∙ whole_none (i.gone ++ u.bytes) (unfed_append i.gone u.bytes i.no_feed none)

module _ {X : Type 0} (io : Ghosts X) (before : X) where
  pub got_none : (io.events before ≡ Some [] → io.events before ≡ Some []) → HasGot io before before []
  got_none same = record {
    consumed = Consumes-nil (io.left before);
    written = refl;
    writes = refl;
    told = λ none. ([], same none, refl, refl, refl, λ due late. tt);
  }

  pub begins_reading : (u : Unread) → u ≡ nothing_unread → GoesOnReading io before before u
  begins_reading u is = subst (λ (u : Unread). GoesOnReading io before before u) (sym is) (record {
    none = record { got = []; has = got_none (λ e. e); unread = record { gone = []; parts = refl; no_feed = refl; kept = λ no. refl; long = λ yes. absurd cc }; none = refl };
    kept = refl;
    reads = refl;
  })

  got_read : (old new : X) (u v : Unread) (n : ℕ) (g : GoesOnReading io before old u) → (f : WasFilled io n u v old new) → HasGot io before new (g.none.got ++ f.fills.bytes)
  got_read old new u v n g f =
      let h = g.none.has in
      record {
        consumed = Consumes-trans (io.left before) (io.left old) (io.left new) g.none.got f.fills.bytes h.consumed f.fills.taken;
        written = f.written ∙ h.written;
        writes = f.writes ∙ h.writes;
        told = λ none.
            let t = h.told none in (
              got f.fills.bytes ∷ t.0,
              f.fills.told ∙ ap (λ (es : Option (List Event)). noted (got f.fills.bytes) es) t.1,
              ap (λ (l : List ℕ). l ++ f.fills.bytes) t.2,
              t.3,
              t.4,
              λ due late. (t.4 ∙ sym (late (got_in t.0) (ap whole_lines t.2 ∙ none_whole u g.none.got g.none.unread g.none.none)), t.5 due late),
            );
      }

  got_same : (old new : X) (bytes : List ℕ) → HasGot io before old bytes → io.events new ≡ io.events old → io.written new ≡ io.written old → io.write_faults new ≡ io.write_faults old → Keeps (io.left old) (io.left new)
      → HasGot io before new bytes
  got_same old new bytes h events written writes left = record {
    consumed = Consumes-kept (io.left before) (io.left old) (io.left new) bytes h.consumed left;
    written = written ∙ h.written;
    writes = writes ∙ h.writes;
    told = λ none. let t = h.told none in (t.0, events ∙ t.1, t.2, t.3, t.4, t.5);
  }

  pub finds : (old new : X) (u v : Unread) (n : ℕ) (result : Result (Option FirstLine) FirstFault) → WasFilled io n u v old new → Looks n v result → GoesOnReading io before old u → Finds io before new v result
  finds old new u v n (Ok None) f l g = record {
    none = record { got = g.none.got ++ f.fills.bytes; has = got_read old new u v n g f; unread = f.fills.unread [] g.none.got g.none.unread; none = l.1 };
    kept = l.0;
    reads = f.reads ∙ g.reads;
  }
  finds old new u v n (Ok (Some line)) f l g = record {
    got = g.none.got ++ f.fills.bytes;
    has = got_read old new u v n g f;
    reads = f.reads ∙ g.reads;
    unread = f.fills.unread [] g.none.got g.none.unread;
    kept = l.0;
    fits = l.1;
    whole = l.2;
    ended = λ is.
        let e = l.3 is in
        let none : f.fills.bytes ≡ [] = nil_from_length f.fills.bytes (omega (arith, f.fills.count, e.0)) in
        (subst (λ (v : Unread). first_feed v.bytes ≡ None) (sym f.fills.state) (none_after_none u f.fills.bytes none g.none.none), e.1, e.2, f.fills.end e.0);
  }
  finds old new u v n (Err Read) f l g = absurd l
  finds old new u v n (Err NoMemory) f l g = absurd l
  finds old new u v n (Err NoLine) f l g =
      let i = f.fills.unread [] g.none.got g.none.unread in
      let none : g.none.got ++ f.fills.bytes ≡ [] = i.parts ∙ ap (λ (l : List ℕ). l ++ v.bytes) (i.kept l.1) ∙ l.2 in
      (f.reads ∙ g.reads, f.fills.end l.0, subst (λ (bytes : List ℕ). HasGot io before new bytes) none (got_read old new u v n g f))
  finds old new u v n (Err TooLong) f l g =
      (f.reads ∙ g.reads, record { got = g.none.got ++ f.fills.bytes; has = got_read old new u v n g f; unread = f.fills.unread [] g.none.got g.none.unread; long = l })

  pub fails_read : (old new : X) (u : Unread) → GoesOnReading io before old u → io.events new ≡ io.events old → io.written new ≡ io.written old → io.write_faults new ≡ io.write_faults old → Keeps (io.left old) (io.left new)
      → Rose (io.read_faults old) (io.read_faults new) → FailsFirst io before new u Read
  fails_read old new u g events written writes left rose = (
    subst (λ (n : ℕ). Rose n (io.read_faults new)) g.reads rose,
    record { got = g.none.got; has = got_same old new g.none.got g.none.has events written writes left; unread = g.none.unread; none = g.none.none },
  )

  pub fails_room : (old new : X) (u : Unread) → GoesOnReading io before old u → io.events new ≡ io.events old → io.written new ≡ io.written old → io.write_faults new ≡ io.write_faults old → Keeps (io.left old) (io.left new)
      → io.read_faults new ≡ io.read_faults old → FailsFirst io before new u NoMemory
  fails_room old new u g events written writes left reads = (reads ∙ g.reads, (g.none.got, got_same old new g.none.got g.none.has events written writes left))
