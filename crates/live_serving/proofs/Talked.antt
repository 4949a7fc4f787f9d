-- What is got and what is written.
use Rattle.std.proofs.Common.{◌≡◌, ◌∙◌, ℕ, List, [], ◌∷◌, ◌++◌, Option, Some, None, refl, sym, ap, subst}
use Rattle.std.specs.Io.KnownBytes.{Appends, Consumes, Keeps}
use Rattle.std.proofs.KnownBytes.{Appends-kept, Appends-trans, Consumes-kept, Consumes-trans}
use Rattle.facet_output.specs.Answered.{Answered}
use Rattle.live_io.specs.Events.{Event, IsPrompt, PutAfter, PutsAfter, flushed, got, got_in, noted, put_in}
use Rattle.live_io.specs.declared.duplex.Duplex.{Ghosts}
use Rattle.live_serving.specs.Answering.{PutsBytes}
use Rattle.live_serving.specs.Lines.{due}
use Rattle.live_serving.specs.Moments.{Beginning, HasTalked}

after_puts : (old new : Option (List Event)) (es : List Event) (bytes : List ℕ) → PutsAfter bytes old new → old ≡ Some es → (fs : List Event) × (new ≡ Some fs) × PutAfter bytes es fs
after_puts None new es bytes p e = absurd cc
after_puts (Some old) None es bytes p e = absurd p
after_puts (Some old) (Some new) es bytes p e = let is : old ≡ es = cc in (new, refl, subst (λ (es : List Event). PutAfter bytes es new) is p)

module _ {X : Type 0} (io : Ghosts X) (b : Beginning X) where
  pub talked_puts : (old new : X) (read : List ℕ) (replies : List (List Answered)) (written bytes : List ℕ) → HasTalked io b old read replies written → PutsBytes io old new bytes
      → HasTalked io b new read replies (written ++ bytes)
  talked_puts old new read replies written bytes h p = record {
    consumed = subst (λ (l : Option (List ℕ)). Consumes (io.left b.before) l read) (sym p.left) h.consumed;
    appended = Appends-trans (io.written b.before) (io.written old) (io.written new) written bytes h.appended p.written;
    told = λ none.
        let t = h.told none in
        let q = after_puts (io.events old) (io.events new) t.0 bytes p.events t.1 in
        (q.0, q.1, q.2.got_same ∙ t.2, q.2.put_more ∙ ap (λ (l : List ℕ). l ++ bytes) t.3, λ more. q.2.prompt (due b.only_reads b.opened (replies ++ more)) (t.4 more));
  }

  -- a flush, which leaves what was written as it was
  pub talked_flush : (old new : X) (read : List ℕ) (replies : List (List Answered)) (written : List ℕ) → HasTalked io b old read replies written
      → io.events new ≡ noted flushed (io.events old) → Keeps (io.written old) (io.written new) → io.left new ≡ io.left old → HasTalked io b new read replies written
  talked_flush old new read replies written h notes keeps left = record {
    consumed = subst (λ (l : Option (List ℕ)). Consumes (io.left b.before) l read) (sym left) h.consumed;
    appended = Appends-kept (io.written b.before) (io.written old) (io.written new) written h.appended keeps;
    told = λ none.
        let t = h.told none in
        (flushed ∷ t.0, notes ∙ ap (λ (es : Option (List Event)). noted flushed es) t.1, t.2, t.3, λ more. t.4 more);
  }

  -- a call that failed, which changed nothing of this
  pub talked_same : (old new : X) (read : List ℕ) (replies : List (List Answered)) (written : List ℕ) → HasTalked io b old read replies written
      → io.events new ≡ io.events old → Keeps (io.written old) (io.written new) → Keeps (io.left old) (io.left new) → HasTalked io b new read replies written
  talked_same old new read replies written h same keeps left = record {
    consumed = Consumes-kept (io.left b.before) (io.left old) (io.left new) read h.consumed left;
    appended = Appends-kept (io.written b.before) (io.written old) (io.written new) written h.appended keeps;
    told = λ none. let t = h.told none in (t.0, same ∙ t.1, t.2, t.3, t.4);
  }

  -- a flush, and a read call where just what was written was due
  pub talked_read : (old mid new : X) (read bytes : List ℕ) (replies : List (List Answered)) (written : List ℕ) → HasTalked io b old read replies written
      → io.events mid ≡ noted flushed (io.events old) → Keeps (io.written old) (io.written mid) → io.left mid ≡ io.left old
      → io.events new ≡ noted (got bytes) (io.events mid) → io.written new ≡ io.written mid → Consumes (io.left mid) (io.left new) bytes
      → ((more : List (List Answered)) → written ≡ due b.only_reads b.opened (replies ++ more) read) → HasTalked io b new (read ++ bytes) replies written
  talked_read old mid new read bytes replies written h notes keeps left noted_got same taken is_due =
      let m = talked_flush old mid read replies written h notes keeps left in
      record {
        consumed = Consumes-trans (io.left b.before) (io.left mid) (io.left new) read bytes m.consumed taken;
        appended = subst (λ (w : Option (List ℕ)). Appends (io.written b.before) w written) (sym same) m.appended;
        told = λ none.
            let t = h.told none in (
              got bytes ∷ flushed ∷ t.0,
              noted_got ∙ ap (λ (es : Option (List Event)). noted (got bytes) es) (notes ∙ ap (λ (es : Option (List Event)). noted flushed es) t.1),
              ap (λ (l : List ℕ). l ++ bytes) t.2,
              t.3,
              λ more. (t.3 ∙ is_due more ∙ ap (λ (l : List ℕ). due b.only_reads b.opened (replies ++ more) l) (sym t.2), t.4 more),
            );
      }
