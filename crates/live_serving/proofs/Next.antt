-- The next item, and the lines of its faults.
use Rattle.std.proofs.Common.{◌≡◌, ◌∙◌, ◌<◌, ◌⊎◌, inl, inr, ℕ, Bool, true, false, List, [], ◌∷◌, ◌++◌, length, take, Option, Some, None, refl, sym, ap, subst, append_assoc, append-nil}
use Rattle.std.specs.Io.KnownBytes.{IsAtEnd}
use Rattle.facet_io.specs.Faults.{Rose}
use Rattle.facet_output.specs.Answered.{Answered}
use Rattle.facet_phases.specs.declared.fault.PhaseFault.{PhaseFault}
use Rattle.facet_phases.specs.declared.fault.PhaseFault.TheVariants.{Read, Write, NoMemory}
use Rattle.live_io.specs.declared.duplex.Duplex.{Ghosts}
use Rattle.live_lines.specs.Items.{Item, Reading, item_list, last_item, live_items}
use Rattle.live_lines.specs.Views.{reading_of}
use Rattle.live_serving.specs.Answering.{Puts, PutsBytes, PutsSome}
use Rattle.live_serving.specs.Lines.{fault_lines, said}
use Rattle.live_serving.specs.Moments.{AreStill, Beginning, FailsBy, FailsInFaults, FailsItem, FailsOn, FailsToPut, GoesOn, HasRead, HasTalked, IsAsked, IsAt, IsLiveAt, IsOver, IsStopped, StaysLive, TakesNext}
use Rattle.live_serving.specs.declared.line_phases.LinePhases.{LinePhases}
use Rattle.live_serving.proofs.Steps.{stopped, stopped_at}
use Rattle.live_serving.proofs.Talked.{talked_puts}

-- ---- after puts

module _ {X : Type 0} (io : Ghosts X) (b : Beginning X) where
  pub at_puts : (q : LinePhases) (mid now : X) (items : List Item) (replies : List (List Answered)) (written bytes : List ℕ) → IsAt io b q mid items replies written → Puts io mid now bytes
      → IsAt io b q now items replies (written ++ bytes)
  at_puts q mid now items replies written bytes a p = record {
    got = a.got;
    talked = talked_puts io b mid now a.got replies written bytes a.talked p.0;
    only_reads = a.only_reads;
    read = a.read;
    ended = λ is. subst (λ (l : Option (List ℕ)). IsAtEnd l) (sym p.0.left) (a.ended is);
    still = record { reads = p.0.read_faults ∙ a.still.reads; writes = p.1 ∙ a.still.writes };
  }

  -- an item whose faults were put, and one whose faults were not
  pub faults_fail : (q : LinePhases) (mid now : X) (items : List Item) (item : Item) (replies : List (List Answered)) (fault : PhaseFault) → IsAt io b q mid (items ++ item ∷ []) replies (said b.opened items replies)
      → FailsToPut io mid now (fault_lines item) fault → FailsBy io b now items replies fault
  faults_fail q mid now items item replies Read a f = absurd f
  faults_fail q mid now items item replies Write a f =
      let w = said b.opened items replies in
      let some = take f.1.0 (fault_lines item) in
      let s = stopped_at io b q now a.got (items ++ item ∷ []) replies (w ++ some) (talked_puts io b mid now a.got replies w some a.talked f.1.1) a.read
      (λ is. subst (λ (l : Option (List ℕ)). IsAtEnd l) (sym f.1.1.left) (a.ended is)) in (
        subst (λ (n : ℕ). Rose n (io.write_faults now)) a.still.writes f.0,
        f.1.1.read_faults ∙ a.still.reads,
        inr (record {
          item = item;
          more = s.0;
          some = f.1.0;
          stopped = record { got = s.1.got; rest = s.1.rest; read = s.1.read; items_are = s.1.items_are ∙ append_assoc items (item ∷ []) s.0; talked = s.1.talked };
        }),
      )
  faults_fail q mid now items item replies NoMemory a f =
      let w = said b.opened items replies in
      let s = stopped io b q mid (items ++ item ∷ []) replies w a in
      let here : FailsBy io b mid items replies NoMemory =
      (a.still, (item ∷ s.0, record { got = s.1.got; rest = s.1.rest; read = s.1.read; items_are = s.1.items_are ∙ append_assoc items (item ∷ []) s.0; talked = s.1.talked })) in
      subst (λ (x : X). FailsBy io b x items replies NoMemory) (sym f) here

-- ---- the next item

module _ {X : Type 0} (io : Ghosts X) (start : LinePhases) (old : X) where
  -- what an open group leaves at the end
  pub end_next : (p q : LinePhases) (now : X) (o : Option Item) → o ≡ last_item (reading_of p.grouping) → last_item (reading_of q.grouping) ≡ None → q.only_reads ≡ p.only_reads → q.is_ended ≡ p.is_ended → p.is_ended ≡ true
      → StaysLive io start old p now → TakesNext io start old q now o
  end_next p q now o is none reads same ended stays = by o is
    where
      over : (b : Beginning X) (items all : List Item) (replies : List (List Answered)) (l : IsLiveAt io b p now items replies) → (items ++ item_list (last_item (reading_of p.grouping)) ≡ all)
          → IsAt io b q now all replies (said b.opened items replies)
      over b items all replies l same_items =
          let a = l.is in
          let v : IsOver b.only_reads b.first p a.got items = subst (λ (e : Bool). HasRead e b.only_reads b.first p a.got items) ended a.read in
          let w : IsOver b.only_reads b.first q a.got all = record {
            rest = v.rest;
            lines = v.lines;
            items_are = v.items_are ∙ same_items ∙ sym (append-nil all) ∙ ap (λ (o : Option Item). all ++ item_list o) (sym none);
          } in
          record {
            got = a.got;
            talked = a.talked;
            only_reads = reads ∙ a.only_reads;
            read = subst (λ (e : Bool). HasRead e b.only_reads b.first q a.got all) (sym (same ∙ ended)) w;
            ended = λ is. a.ended ended;
            still = a.still;
          }

      by : (o : Option Item) → o ≡ last_item (reading_of p.grouping) → TakesNext io start old q now o
      by None is = λ b items replies l.
          let m = stays b items replies l in
          (record { as_many = m.as_many; is = over b items items replies m (ap (λ (o : Option Item). items ++ item_list o) (sym is) ∙ append-nil items) }, same ∙ ended, none)
      by (Some item) is = λ b items replies l.
          over b items (items ++ item ∷ []) replies (stays b items replies l) (ap (λ (o : Option Item). items ++ item_list o) (sym is))

  -- an item that was taken
  pub some_next : (p q : LinePhases) (mid now : X) (item : Item) → StaysLive io start old p mid → p.is_ended ≡ false → GoesOn io p mid q now (Some item) → TakesNext io start old q now (Some item)
  some_next p q mid now item stays going goes = λ b items replies l. goes b items replies (stays b items replies l) going

  pub none_next : (p q : LinePhases) (mid now : X) → StaysLive io start old p mid → p.is_ended ≡ false → GoesOn io p mid q now None → StaysLive io start old q now
  none_next p q mid now stays going goes = λ b items replies l.
      let m = stays b items replies l in
      record { as_many = m.as_many; is = subst (λ (i : List Item). IsAt io b q now i replies (said b.opened items replies)) (append-nil items) (goes b items replies m going) }

  pub fail_next : (p q : LinePhases) (mid now : X) (fault : PhaseFault) → StaysLive io start old p mid → p.is_ended ≡ false → FailsOn io p mid q now fault → FailsItem io start old q now fault
  fail_next p q mid now fault stays going fails = λ b items replies l. fails b items replies (stays b items replies l) going

  pub stop_next : (p : LinePhases) (now : X) → StaysLive io start old p now → FailsItem io start old p now NoMemory
  stop_next p now stays = λ b items replies l.
      let m = stays b items replies l in
      (m.is.still, stopped io b p now items replies (said b.opened items replies) m.is)
