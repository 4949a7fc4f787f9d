-- A flush, and a read call behind it.
use Rattle.std.proofs.Common.{◌≡◌, ◌∙◌, ◌<◌, ◌⊎◌, inl, inr, ℕ, zero, suc, Bool, true, false, List, [], ◌∷◌, ◌++◌, length, Option, Some, None, Result, Ok, Err, IfOk, IfErr, option_map, refl, sym, ap, subst, append-nil, cond, drop, arith}
use Rattle.std.specs.Prelude.{◌||◌, nat_lt}
use Rattle.std.specs.Io.KnownBytes.{IsAtEnd, Keeps}
use Rattle.std.proofs.lemmas.List.{drop_all}
use Rattle.facet_io.specs.Faults.{Rose}
use Rattle.facet_output.specs.Answered.{Answered}
use Rattle.facet_phases.specs.declared.fault.PhaseFault.{PhaseFault}
use Rattle.facet_phases.specs.declared.fault.PhaseFault.TheVariants.{Read, Write, NoMemory}
use Rattle.live_io.specs.Events.{flushed, noted}
use Rattle.live_io.specs.Unread.{Fills, Unread, first_feed, line_len, shortened, with_got}
use Rattle.live_io.specs.declared.duplex.Duplex.{Ghosts}
use Rattle.live_lines.specs.Items.{Item, item_list}
use Rattle.live_lines.specs.Lines.{most_bytes}
use Rattle.live_lines.specs.Views.{item_view, reading_of}
use Rattle.live_lines.specs.declared.group.GivenItem.{GivenItem}
use Rattle.live_serving.specs.Lines.{said}
use Rattle.live_serving.specs.Moments.{AreStill, Beginning, FailsBy, FailsOn, GoesOn, HasRead, HasTalked, IsAt, IsLiveAt, IsOver, IsUnderway, TakesGot, TakesItem}
use Rattle.live_serving.specs.declared.line_phases.LinePhases.{LinePhases}
use Rattle.live_serving.proofs.Cut.{no_feed_len}
use Rattle.live_serving.proofs.Read.{got_more, is_due}
use Rattle.live_serving.proofs.Steps.{stopped_all, stopped_under, underway}
use Rattle.live_serving.proofs.Talked.{talked_flush, talked_read, talked_same}

pub keeps_same : (a b : Option (List ℕ)) → b ≡ a → Keeps a b
keeps_same None b e = tt
keeps_same (Some xs) b e = subst (λ (o : Option (List ℕ)). Keeps (Some xs) o) (sym e) refl

-- at the end of input there still is no line feed
pub none_after_none : (u : Unread) (bytes : List ℕ) → bytes ≡ [] → first_feed u.bytes ≡ None → first_feed (with_got most_bytes bytes u).bytes ≡ None
none_after_none u bytes none feed =
    subst (λ (l : List ℕ). first_feed (with_got most_bytes l u).bytes ≡ None) (sym none)
    (subst (λ (l : List ℕ). first_feed (cond (u.dropped || nat_lt most_bytes (line_len l)) (shortened l) (record { dropped = false; bytes = l })).bytes ≡ None) (sym (append-nil u.bytes))
    (by (u.dropped || nat_lt most_bytes (line_len u.bytes))))
  where
    by : (t : Bool) → first_feed (cond t (shortened u.bytes) (record { dropped = false; bytes = u.bytes })).bytes ≡ None
    by true = ap first_feed (drop_all (line_len u.bytes) u.bytes (omega (arith, no_feed_len u.bytes feed)))
    by false = feed

pub record WasFlushed {X : Type 0} (io : Ghosts X) (old mid : X) : Type 0 where
  pub events : io.events mid ≡ noted flushed (io.events old)
  pub keeps : Keeps (io.written old) (io.written mid)
  pub left : io.left mid ≡ io.left old
  pub reads : io.read_faults mid ≡ io.read_faults old
  pub writes : io.write_faults mid ≡ io.write_faults old

pub record WasFilled {X : Type 0} (io : Ghosts X) (n : ℕ) (u v : Unread) (mid new : X) : Type 0 where
  pub fills : Fills most_bytes n u v (io.left mid) (io.left new) (io.events mid) (io.events new)
  pub written : io.written new ≡ io.written mid
  pub reads : io.read_faults new ≡ io.read_faults mid
  pub writes : io.write_faults new ≡ io.write_faults mid

-- what was read is no whole item yet
pub record HasMore {X : Type 0} (io : Ghosts X) (b : Beginning X) (r : LinePhases) (new : X) (items : List Item) (replies : List (List Answered)) : Type 0 where
  pub got : List ℕ
  pub talked : HasTalked io b new got replies (said b.opened items replies)
  pub underway : IsUnderway b.only_reads b.first r got items
  pub still : AreStill io b new

module _ {X : Type 0} (io : Ghosts X) (p : LinePhases) (old mid new : X) where
  pub read_more : (b : Beginning X) (items : List Item) (replies : List (List Answered)) (r : LinePhases) (n : ℕ) → WasFlushed io old mid → WasFilled io n p.reader r.reader mid new → first_feed p.reader.bytes ≡ None
      → reading_of r.grouping ≡ reading_of p.grouping → IsLiveAt io b p old items replies → p.is_ended ≡ false → HasMore io b r new items replies
  read_more b items replies r n f g none same l going =
      let a = l.is in
      let w = said b.opened items replies in
      let u = underway io b p old items replies w a going in
      record {
        got = a.got ++ g.fills.bytes;
        talked = talked_read io b old mid new a.got g.fills.bytes replies w a.talked f.events f.keeps f.left g.fills.told g.written g.fills.taken (λ more. is_due b.only_reads b.first b.opened p a.got items u replies more none l.as_many);
        underway = got_more b.only_reads b.first p r a.got g.fills.bytes items u same g.fills.unread;
        still = record { reads = g.reads ∙ f.reads ∙ a.still.reads; writes = g.writes ∙ f.writes ∙ a.still.writes };
      }

  got_at : (b : Beginning X) (items : List Item) (replies : List (List Answered)) (q r : LinePhases) (item : Option Item) (n : ℕ) → HasMore io b r new items replies → TakesGot n r q item → q.only_reads ≡ r.only_reads
      → r.only_reads ≡ b.only_reads → r.is_ended ≡ false → (n ≡ 0 → IsAtEnd (io.left new)) → IsAt io b q new (items ++ item_list item) replies (said b.opened items replies)
  got_at b items replies q r item zero h t same reads going end =
      let rest = t.end refl in
      let over : IsOver b.only_reads b.first q h.got (items ++ item_list item) =
      subst (λ (o : Bool). IsOver o b.first q h.got (items ++ item_list item)) reads (rest.0 b.first h.got items (subst (λ (o : Bool). IsUnderway o b.first r h.got items) (sym reads) h.underway)) in
      record {
        got = h.got;
        talked = h.talked;
        only_reads = same ∙ reads;
        read = subst (λ (e : Bool). HasRead e b.only_reads b.first q h.got (items ++ item_list item)) (sym rest.1) over;
        ended = λ is. end refl;
        still = h.still;
      }
  got_at b items replies q r item (suc k) h t same reads going end =
      let no = t.more (λ e. absurd (omega (arith, e))) in
      let here : IsAt io b r new items replies (said b.opened items replies) = record {
        got = h.got;
        talked = h.talked;
        only_reads = reads;
        read = subst (λ (e : Bool). HasRead e b.only_reads b.first r h.got items) (sym going) h.underway;
        ended = λ is. absurd (cc (sym going ∙ is));
        still = h.still;
      } in
      subst (λ (i : Option Item). IsAt io b q new (items ++ item_list i) replies (said b.opened items replies)) (sym no.0)
      (subst (λ (q : LinePhases). IsAt io b q new (items ++ []) replies (said b.opened items replies)) (sym no.1)
      (subst (λ (l : List Item). IsAt io b r new l replies (said b.opened items replies)) (sym (append-nil items)) here))

  -- a read call that got so many bytes, and what was then taken
  pub got_goes_on : (q r : LinePhases) (n : ℕ) (result : Result (Option GivenItem) PhaseFault) → WasFlushed io old mid → WasFilled io n p.reader r.reader mid new → first_feed p.reader.bytes ≡ None
      → reading_of r.grouping ≡ reading_of p.grouping → r.only_reads ≡ p.only_reads → r.is_ended ≡ p.is_ended → q.only_reads ≡ r.only_reads → IfOk result (λ o. TakesGot n r q (option_map item_view o))
      → IfOk result (λ o. GoesOn io p old q new (option_map item_view o))
  got_goes_on q r n (Ok o) f g none same reads ended kept t = λ b items replies l going.
      got_at b items replies q r (option_map item_view o) n (read_more b items replies r n f g none same l going) t kept (reads ∙ l.is.only_reads) (ended ∙ going) g.fills.end
  got_goes_on q r n (Err e) f g none same reads ended kept t = tt

  pub got_fails : (q r : LinePhases) (n : ℕ) (result : Result (Option GivenItem) PhaseFault) → WasFlushed io old mid → WasFilled io n p.reader r.reader mid new → first_feed p.reader.bytes ≡ None
      → reading_of r.grouping ≡ reading_of p.grouping → IfErr result (λ e. e ≡ NoMemory) → IfErr result (FailsOn io p old q new)
  got_fails q r n (Ok o) f g none same is = tt
  got_fails q r n (Err e) f g none same is = λ b items replies l going.
      let h = read_more b items replies r n f g none same l going in
      subst (λ (e : PhaseFault). FailsBy io b new items replies e) (sym is) (h.still, stopped_under io b r new h.got items replies (said b.opened items replies) h.talked h.underway)

  -- a read call that failed
  talked_failed : (b : Beginning X) (items : List Item) (replies : List (List Answered)) → WasFlushed io old mid → io.events new ≡ io.events mid → io.written new ≡ io.written mid → Keeps (io.left mid) (io.left new)
      → (l : IsLiveAt io b p old items replies) → HasTalked io b new l.is.got replies (said b.opened items replies)
  talked_failed b items replies f events written left l =
      let w = said b.opened items replies in
      talked_same io b mid new l.is.got replies w (talked_flush io b old mid l.is.got replies w l.is.talked f.events f.keeps f.left) events (keeps_same (io.written mid) (io.written new) written) left

  pub read_fails : (q : LinePhases) → WasFlushed io old mid → io.events new ≡ io.events mid → io.written new ≡ io.written mid → Keeps (io.left mid) (io.left new) → io.write_faults new ≡ io.write_faults mid
      → Rose (io.read_faults mid) (io.read_faults new) → first_feed p.reader.bytes ≡ None → FailsOn io p old q new Read
  read_fails q f events written left writes rose none = λ b items replies l going. (
    subst (λ (n : ℕ). Rose n (io.read_faults new)) (f.reads ∙ l.is.still.reads) rose,
    writes ∙ f.writes ∙ l.is.still.writes,
    stopped_all io b p new l.is.got items replies (talked_failed b items replies f events written left l) (underway io b p old items replies (said b.opened items replies) l.is going) none,
  )

  pub fill_fails : (q : LinePhases) → WasFlushed io old mid → io.events new ≡ io.events mid → io.written new ≡ io.written mid → Keeps (io.left mid) (io.left new) → io.write_faults new ≡ io.write_faults mid
      → io.read_faults new ≡ io.read_faults mid → FailsOn io p old q new NoMemory
  fill_fails q f events written left writes reads = λ b items replies l going. (
    record { reads = reads ∙ f.reads ∙ l.is.still.reads; writes = writes ∙ f.writes ∙ l.is.still.writes },
    stopped_under io b p new l.is.got items replies (said b.opened items replies) (talked_failed b items replies f events written left l) (underway io b p old items replies (said b.opened items replies) l.is going),
  )

module _ {X : Type 0} (io : Ghosts X) (p q : LinePhases) (old : X) where
  -- a line that was taken
  pub line_goes_on : (result : Result (Option GivenItem) PhaseFault) → q.only_reads ≡ p.only_reads → q.is_ended ≡ p.is_ended → IfOk result (λ o. TakesItem p q (option_map item_view o))
      → IfOk result (λ o. GoesOn io p old q old (option_map item_view o))
  line_goes_on (Ok o) reads ended t = λ b items replies l going.
      let a = l.is in
      let w = said b.opened items replies in
      let more = items ++ item_list (option_map item_view o) in
      let is = a.only_reads in
      let u : IsUnderway b.only_reads b.first q a.got more =
      subst (λ (o : Bool). IsUnderway o b.first q a.got more) is (t b.first a.got items (subst (λ (o : Bool). IsUnderway o b.first p a.got items) (sym is) (underway io b p old items replies w a going))) in
      record {
        got = a.got;
        talked = a.talked;
        only_reads = reads ∙ is;
        read = subst (λ (e : Bool). HasRead e b.only_reads b.first q a.got more) (sym (ended ∙ going)) u;
        ended = λ yes. absurd (cc (sym (ended ∙ going) ∙ yes));
        still = a.still;
      }
  line_goes_on (Err e) reads ended t = tt

  pub line_fails : (result : Result (Option GivenItem) PhaseFault) → IfErr result (λ e. e ≡ NoMemory) → IfErr result (FailsOn io p old q old)
  line_fails (Ok o) is = tt
  line_fails (Err e) is = λ b items replies l going.
      let w = said b.opened items replies in
      subst (λ (e : PhaseFault). FailsBy io b old items replies e) (sym is) (l.is.still, stopped_under io b p old l.is.got items replies w l.is.talked (underway io b p old items replies w l.is going))
