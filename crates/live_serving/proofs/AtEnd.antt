-- How a live process ends whose sessions began.
use Rattle.std.proofs.Common.{◌≡◌, ◌∙◌, ◌⊎◌, inl, inr, ⊎_elim, ℕ, ◌+◌, ◌≤◌, Bool, true, List, [], ◌∷◌, ◌++◌, length, map, take, drop, Option, Some, None, Result, Ok, Err, refl, sym, ap, subst, append_assoc, append-nil}
use Rattle.std.specs.Prelude.{All, flat_map}
use Rattle.std.specs.Io.KnownBytes.{IsAtEnd}
use Rattle.std.proofs.lemmas.List.{map-append}
use Rattle.std.proofs.lemmas.List.Concat.{flat_map-append}
use Rattle.facet_disk.specs.Images.{Told}
use Rattle.facet_disk.specs.declared.disk.Disk.{Ghosts}
use Rattle.facet_engine.specs.declared.ending.Trace.{Trace}
use Rattle.facet_io.specs.Faults.{Rose}
use Rattle.facet_output.specs.Answered.{Answered}
use Rattle.facet_output.specs.Output.{Opened, opened_pair}
use Rattle.facet_output.specs.OutputLines.{last_line, reply_lines}
use Rattle.facet_output.specs.Seen.{Seen, history_of, labels_of, opened_seen}
use Rattle.facet_output.specs.Sessions.{answers_of, steps_of}
use Rattle.facet_output.specs.Steps.{Step}
use Rattle.facet_phases.specs.Phases.{answers_in}
use Rattle.facet_phases.specs.Runs.{BreaksAfter, Carried, EndsAfter, EndsBy, FailsAfter, HasFirstOf, HasRun, NeverBegins, StopsAfter}
use Rattle.facet_phases.specs.Taking.{At}
use Rattle.facet_phases.specs.declared.collector.Output.{Ghosts as OutputGhosts}
use Rattle.facet_phases.specs.declared.fault.PhaseFault.{PhaseFault}
use Rattle.facet_phases.specs.declared.fault.PhaseFault.TheVariants as faults
use Rattle.facet_phases.specs.declared.outcome.RanToEnd.{RanToEnd}
use Rattle.facet_phases.specs.declared.phases.Phases.{Ghosts as PhasesGhosts}
use Rattle.facet_replies.specs.LastLine.{last_line as line_of}
use Rattle.facet_serving.proofs.Closed.{line_is}
use Rattle.facet_serving.proofs.Sessions.{ran_so, spends}
use Rattle.facet_serving.specs.Serving.{IsCarriedOut}
use Rattle.facet_serving.specs.Sessions.{Ran, SpendsFrom, last_of_run}
use Rattle.facet_serving.specs.Statuses.{status_line}
use Rattle.facet_serving.specs.declared.status.Status.{Status}
use Rattle.facet_serving.specs.declared.status.Status.TheVariants.{Done, BadWords, ReadFault, WriteFault, BadScript, DiskFault, BadStore, NoMemory, TooLong, OtherConfig}
use Rattle.facet_words.specs.Commands.{Order, Settings}
use Rattle.facet_words.specs.Scripts.{config_at}
use Rattle.live_io.specs.Events.{IsPrompt}
use Rattle.live_io.specs.declared.duplex.Duplex.{Ghosts as DuplexGhosts}
use Rattle.live_lines.specs.ItemLaws.{phases_in}
use Rattle.live_lines.specs.Items.{Item, item_list, last_item, live_items}
use Rattle.live_lines.specs.Lines.{most_bytes}
use Rattle.live_lines.specs.Views.{reading_of}
use Rattle.live_serving.specs.Answering.{Puts, PutsBytes, PutsSome}
use Rattle.live_serving.specs.Closing.{Closes, PutsLine}
use Rattle.live_serving.specs.Ends.{AreReplies, EndsInFaults, EndsInFlush, EndsInLastLine, EndsInReplies, IsCutShort, LivesPartly, LivesShort, LivesUnread, LivesWhole, Served, Tells, WasPrompt}
use Rattle.live_serving.specs.Firsts.{ReadsFirst}
use Rattle.live_serving.specs.Lines.{due, fault_lines, said, whole_lines}
use Rattle.live_serving.specs.Runs.{RunsLive}
use Rattle.live_serving.specs.Moments.{AreStill, Beginning, EndsItems, FailsBy, FailsInFaults, FailsItem, GivesItem, HasRead, HasTalked, IsAsked, IsAt, IsLiveAt, IsOver, IsStopped, IsStoppedAll}
use Rattle.live_serving.specs.declared.line_phases.LinePhases.{LinePhases}
use Rattle.live_serving.proofs.Lives.{IsWhole, LivesAs, lives}
use Rattle.live_serving.proofs.Steps.{stopped}
use Rattle.live_serving.proofs.Talked.{talked_puts}
use Rattle.live_serving.proofs.Took.{answers_joined, of_phases, talked_more, took_items}
use Rattle.live_serving.proofs.Written.{as_many_more}
use Rattle.store_opening.specs.Files.{greatest_number}
use Rattle.store_opening.specs.Newest.{next_after}

-- ---- where it stopped, and what was put then

module _ {X : Type 0} (io : DuplexGhosts X) (b : Beginning X) where
  pub stopped_puts : (mid to : X) (items more : List Item) (replies : List (List Answered)) (written bytes : List ℕ) → IsStopped io b mid items more replies written → PutsBytes io mid to bytes
      → IsStopped io b to items more replies (written ++ bytes)
  stopped_puts mid to items more replies written bytes s p = record {
    got = s.got;
    rest = s.rest;
    read = record {
      taken = (talked_puts io b mid to s.got replies written bytes s.talked p).consumed;
      lines = s.read.lines;
      whole = ⊎_elim (λ w. inl w) (λ e. inr (subst IsAtEnd (sym p.left) e)) s.read.whole;
    };
    items_are = s.items_are;
    talked = talked_puts io b mid to s.got replies written bytes s.talked p;
  }

  -- at the end of input, where no group is open
  pub over_at : (p : LinePhases) (now : X) (items : List Item) (replies : List (List Answered)) (written : List ℕ) → IsAt io b p now items replies written → p.is_ended ≡ true → last_item (reading_of p.grouping) ≡ None
      → IsStopped io b now items [] replies written × IsAtEnd (io.left now)
  over_at p now items replies written a ended none =
      let over : IsOver b.only_reads b.first p a.got items = subst (λ (t : Bool). HasRead t b.only_reads b.first p a.got items) ended a.read in (
        record {
          got = a.got;
          rest = over.rest;
          read = record { taken = a.talked.consumed; lines = over.lines; whole = inr (a.ended ended) };
          items_are = over.items_are ∙ ap (λ (o : Option Item). items ++ item_list o) none;
          talked = a.talked;
        },
        a.ended ended,
      )

  -- some bytes of a line were put, or all
  pub some_put : (before now : X) (line : List ℕ) → PutsLine io before now line → (bytes : List ℕ) × PutsBytes io before now bytes
  some_put before now line (inl p) = (line, p.0)
  some_put before now line (inr p) = (take p.1.0 line, p.1.1)

  -- a line behind what was written
  pub tells_line : (mid to : X) (got : List ℕ) (replies : List (List Answered)) (written line : List ℕ) → HasTalked io b mid got replies written → io.write_faults mid ≡ io.write_faults b.before → PutsLine io mid to line
      → Tells io b.before to written line
  tells_line mid to got replies written line h still (inl p) = inl ((talked_puts io b mid to got replies written line h p.0).appended, p.1 ∙ still)
  tells_line mid to got replies written line h still (inr p) = inr (p.1.0, (subst (λ (n : ℕ). Rose n (io.write_faults to)) still p.0, (talked_puts io b mid to got replies written (take p.1.0 line) h p.1.1).appended))

  -- it was prompt
  pub was_prompt : (to : X) (got : List ℕ) (replies : List (List Answered)) (written : List ℕ) → HasTalked io b to got replies written → WasPrompt io b.before to (due b.only_reads b.opened replies) got
  was_prompt to got replies written h none =
      let t = h.told none in
      (t.0, t.1, t.2, subst (λ (l : List (List Answered)). IsPrompt (due b.only_reads b.opened l) t.0) (append-nil replies) (t.4 []))

-- ---- the ends

module _ {X D C O : Type 0} (io : DuplexGhosts X) (disk : Ghosts D) (phases : PhasesGhosts LinePhases O) (output : OutputGhosts O C) (io_of : O → X)
    (gives : (p : LinePhases) (o : O) (q : LinePhases) (n : O) (orders : List Order) → phases.gives p o q n orders → GivesItem io p (io_of o) q (io_of n) orders)
    (ends : (p : LinePhases) (o : O) (q : LinePhases) (n : O) → phases.ends p o q n → EndsItems io p (io_of o) q (io_of n))
    (fails : (p : LinePhases) (o : O) (q : LinePhases) (n : O) (fault : PhaseFault) → phases.fails p o q n fault → FailsItem io p (io_of o) q (io_of n) fault)
    (flushes : (o n : O) (answered : List Answered) → output.flushes o n answered → Puts io (io_of o) (io_of n) (reply_lines answered))
    (breaks : (o n : O) (answered : List Answered) → output.breaks o n answered → PutsSome io (io_of o) (io_of n) (reply_lines answered))
    (settings : Settings) (old : D) (start end : At LinePhases O) (pair : ℕ × ℕ) (ran : RanToEnd D) (c : IsCarriedOut disk settings old phases output start end pair ran)
    (only_reads : Bool) (first : List ℕ) (short : length first ≤ most_bytes) (from : X) (settings_is : config_at first ≡ Ok settings) (left : Option Trace) (left_is : left ≡ Some ran.ended.trace) where
  abbrev pub beginning : Beginning X
  beginning = record { only_reads = only_reads; opened = opened_pair c.opened; first = first; before = from }

  abbrev Has : List (List Order) → List (List Step) → Type 0
  Has = HasRun settings c.opened c.first c.last

  abbrev ran_by : (all : List (List Order)) (steps : List (List Step)) → Has all steps → Ran disk settings all ran.ended.trace old ran.ended.disk
  ran_by all steps has = ran_so settings all c.opened steps c.last has.all disk ran.ended.trace old ran.ended.disk c.opens c.traced
      (λ t tells. subst (λ (n : ℕ). All (SpendsFrom n c.last) (answers_of steps)) (c.next_is t tells) (spends settings all c.opened steps c.last has.all c.next (has.spent c.next c.at c.faults c.failures c.numbers))) c.keeps

  abbrev replied : (items : List Item) (front more : List (List Step)) (all : List (List Order)) → Has all (front ++ more) → length (map answers_in front) ≡ length items → AreReplies (length items) (answers_of (front ++ more)) (map answers_in front)
  replied items front more all has as_many = record {
    as_many = as_many;
    cut = answers_of more;
    all = ap (map (λ (x : Step). x.answered)) (flat_map-append (λ (l : List Step). l) front more) ∙ map-append (λ (x : Step). x.answered) (steps_of front) (steps_of more)
        ∙ ap (λ (l : List Answered). l ++ answers_of more) (answers_joined front);
    phases = of_phases 0 (opened_seen c.opened) c.last front more has.all.told;
  }

  abbrev served : (to : X) (all : List (List Order)) (steps : List (List Step)) (has : Has all steps) (items more : List Item) (spoken : List (List Answered)) (written : List ℕ) (s : IsStopped io beginning to items more spoken written)
      (replied_items : List Item) (replies : List (List Answered)) → AreReplies (length replied_items) (answers_of steps) replies → WasPrompt io from to (due only_reads (opened_pair c.opened) replies) s.got
      → Served io disk only_reads from to old ran.ended.disk left all replied_items
  served to all steps has items more spoken written s replied_items replies r prompt = record {
    got = s.got;
    first = first;
    rest = s.rest;
    read = s.read;
    settings = settings;
    settings_is = settings_is;
    trace = ran.ended.trace;
    trace_is = left_is;
    ran = ran_by all steps has;
    replies = replies;
    replied = r;
    prompt = prompt;
  }

  -- ---- what was answered

  -- these items were carried out by these steps and answered, and maybe more was carried out
  record Answers (now : At LinePhases O) (all more : List (List Order)) (front later : List (List Step)) : Type 0 where
    pub items : List Item
    pub phases_are : phases_in items ≡ all
    pub live : IsLiveAt io beginning now.phases (io_of now.out) items (map answers_in front)
    pub has : Has (phases_in items ++ more) (front ++ later)

  answers_at : IsLiveAt io beginning start.phases (io_of start.out) [] [] → (now : At LinePhases O) (m : Carried phases output Has start end now) (more : List (List Order)) (later : List (List Step)) → Has (m.all ++ more) (m.ran ++ later)
      → Answers now m.all more m.ran later
  answers_at begun now m more later has =
      let t = took_items io beginning io_of phases output gives flushes start now m.all (map answers_in m.ran) [] [] m.took begun in
      record { items = t.0; phases_are = t.1; live = t.2; has = subst (λ (all : List (List Order)). Has (all ++ more) (m.ran ++ later)) (sym t.1) has }

  -- ---- want of memory

  lives_short : (mid to : X) (items more : List Item) (cut : List (List Order)) (front later : List (List Step)) (faulty : List ℕ) → Has (phases_in items ++ cut) (front ++ later) → length (map answers_in front) ≡ length items
      → IsStopped io beginning mid items more (map answers_in front) (said (opened_pair c.opened) items (map answers_in front) ++ faulty) → IsCutShort io disk only_reads from to old ran.ended.disk left more cut faulty
      → io.write_faults mid ≡ io.write_faults from → PutsLine io mid to (status_line NoMemory) → LivesShort io disk only_reads from to old ran.ended.disk left
  lives_short mid to items more cut front later faulty has as_many s short still put =
      let replies = map answers_in front in
      let written : List ℕ = said (opened_pair c.opened) items replies ++ faulty in
      let bytes = some_put io beginning mid to (status_line NoMemory) put in
      let after = stopped_puts io beginning mid to items more replies written bytes.0 s bytes.1 in
      record {
        items = items;
        cut = cut;
        served = served to (phases_in items ++ cut) (front ++ later) has items more replies (written ++ bytes.0) after items replies (replied items front later (phases_in items ++ cut) has as_many)
            (was_prompt io beginning to after.got replies (written ++ bytes.0) after.talked);
        more = more;
        front = after.items_are;
        faults = faulty;
        short = short;
        written = tells_line io beginning mid to s.got replies written (status_line NoMemory) s.talked still put;
      }

  -- behind whole items
  lives_short_behind : (mid to : X) (items more : List Item) (front : List (List Step)) → Has (phases_in items ++ []) (front ++ []) → length (map answers_in front) ≡ length items
      → IsStopped io beginning mid items more (map answers_in front) (said (opened_pair c.opened) items (map answers_in front)) → io.write_faults mid ≡ io.write_faults from → PutsLine io mid to (status_line NoMemory)
      → LivesShort io disk only_reads from to old ran.ended.disk left
  lives_short_behind mid to items more front has as_many s still put =
      lives_short mid to items more [] front [] [] has as_many
      (subst (λ (w : List ℕ). IsStopped io beginning mid items more (map answers_in front) w) (sym (append-nil (said (opened_pair c.opened) items (map answers_in front)))) s) (nothing more) still put
    where
      nothing : (more : List Item) → IsCutShort io disk only_reads from to old ran.ended.disk left more [] []
      nothing more = inl refl

  -- ---- all was read and carried out

  whole_has : (items : List Item) (steps : List (List Step)) → Has (phases_in items ++ []) steps → Has (phases_in items) steps
  whole_has items steps has = subst (λ (all : List (List Order)). Has all steps) (append-nil (phases_in items)) has

  abbrev last_bytes : List ℕ
  last_bytes = last_line c.opened (labels_of c.last) (history_of c.last)

  lives_whole : (mid to : X) (items : List Item) (front : List (List Step)) → Has (phases_in items) (front ++ []) → length (map answers_in front) ≡ length items
      → IsStopped io beginning mid items [] (map answers_in front) (said (opened_pair c.opened) items (map answers_in front)) → IsAtEnd (io.left mid) → io.write_faults mid ≡ io.write_faults from
      → Puts io mid to last_bytes → IsWhole io disk only_reads from to old ran.ended.disk left
  lives_whole mid to items front has as_many s over still put =
      let replies = map answers_in front in
      let written : List ℕ = said (opened_pair c.opened) items replies in
      let after = stopped_puts io beginning mid to items [] replies written last_bytes s put.0 in (
        record {
          items = items;
          served = served to (phases_in items) (front ++ []) has items [] replies (written ++ last_bytes) after items replies (replied items front [] (phases_in items) has as_many)
              (was_prompt io beginning to after.got replies (written ++ last_bytes) after.talked);
          all = after.items_are ∙ append-nil items;
          end = subst IsAtEnd (sym put.0.left) over;
          written = (after.talked.appended, put.1 ∙ still);
        },
        short,
      )

  ends_in_last : (mid to : X) (items : List Item) (front : List (List Step)) → Has (phases_in items) (front ++ []) → length (map answers_in front) ≡ length items
      → IsStopped io beginning mid items [] (map answers_in front) (said (opened_pair c.opened) items (map answers_in front)) → IsAtEnd (io.left mid) → io.write_faults mid ≡ io.write_faults from
      → PutsSome io mid to last_bytes → EndsInLastLine io disk only_reads from to old ran.ended.disk left
  ends_in_last mid to items front has as_many s over still put =
      let replies = map answers_in front in
      let written : List ℕ = said (opened_pair c.opened) items replies in
      let bytes : List ℕ = take put.1.0 last_bytes in
      let after = stopped_puts io beginning mid to items [] replies written bytes s put.1.1 in
      record {
        items = items;
        served = served to (phases_in items) (front ++ []) has items [] replies (written ++ bytes) after items replies (replied items front [] (phases_in items) has as_many)
            (was_prompt io beginning to after.got replies (written ++ bytes) after.talked);
        all = after.items_are ∙ append-nil items;
        end = subst IsAtEnd (sym put.1.1.left) over;
        some = put.1.0;
        written = (subst (λ (n : ℕ). Rose n (io.write_faults to)) still put.0, after.talked.appended);
      }

  -- ---- what came first failed

  lives_unread : (mid to : X) (items : List Item) (front : List (List Step)) → Has (phases_in items) (front ++ []) → length (map answers_in front) ≡ length items → (s : IsStoppedAll io beginning mid items (map answers_in front))
      → io.write_faults mid ≡ io.write_faults from → PutsLine io mid to (status_line ReadFault) → LivesUnread io disk only_reads from to old ran.ended.disk left
  unfolding stopped_puts
  lives_unread mid to items front has as_many s still put =
      let replies = map answers_in front in
      let written : List ℕ = said (opened_pair c.opened) items replies in
      let bytes = some_put io beginning mid to (status_line ReadFault) put in
      let after = stopped_puts io beginning mid to items s.more replies written bytes.0 s.stopped bytes.1 in
      record {
        items = items;
        served = served to (phases_in items) (front ++ []) has items s.more replies (written ++ bytes.0) after items replies (replied items front [] (phases_in items) has as_many)
            (was_prompt io beginning to after.got replies (written ++ bytes.0) after.talked);
        all = (s.lines, s.whole, s.all);
        written = tells_line io beginning mid to s.stopped.got replies written (status_line ReadFault) s.stopped.talked still put;
      }

  ends_in_flush : (to : X) (items : List Item) (front : List (List Step)) → Has (phases_in items) (front ++ []) → length (map answers_in front) ≡ length items → (s : IsStoppedAll io beginning to items (map answers_in front))
      → Rose (io.write_faults from) (io.write_faults to) → EndsInFlush io disk only_reads from to old ran.ended.disk left
  ends_in_flush to items front has as_many s rose =
      let replies = map answers_in front in
      let written : List ℕ = said (opened_pair c.opened) items replies in
      record {
        items = items;
        served = served to (phases_in items) (front ++ []) has items s.more replies written s.stopped items replies (replied items front [] (phases_in items) has as_many)
            (was_prompt io beginning to s.stopped.got replies written s.stopped.talked);
        all = (s.lines, s.whole, s.all);
        written = (rose, s.stopped.talked.appended);
      }

  ends_in_faults : (to : X) (items : List Item) (front : List (List Step)) → Has (phases_in items) (front ++ []) → length (map answers_in front) ≡ length items → (s : FailsInFaults io beginning to items (map answers_in front))
      → Rose (io.write_faults from) (io.write_faults to) → EndsInFaults io disk only_reads from to old ran.ended.disk left
  ends_in_faults to items front has as_many s rose =
      let replies = map answers_in front in
      let written : List ℕ = said (opened_pair c.opened) items replies ++ take s.some (fault_lines s.item) in
      record {
        items = items;
        item = s.item;
        served = served to (phases_in items) (front ++ []) has items (s.item ∷ s.more) replies written s.stopped items replies (replied items front [] (phases_in items) has as_many)
            (was_prompt io beginning to s.stopped.got replies written s.stopped.talked);
        more = s.more;
        front = s.stopped.items_are;
        some = s.some;
        written = (rose, s.stopped.talked.appended);
      }

  -- ---- a write of replies failed

  ends_in_replies : (p : LinePhases) (mid to : X) (items : List Item) (item : Item) (front : List (List Step)) (steps : List Step) → Has (phases_in (items ++ item ∷ [])) (front ++ steps ∷ [])
      → IsAsked io beginning p mid items item (map answers_in front) → PutsSome io mid to (reply_lines (answers_in steps)) → EndsInReplies io disk only_reads from to old ran.ended.disk left
  ends_in_replies p mid to items item front steps has a put =
      let replies = map answers_in front in
      let last = answers_in steps in
      let said_so : List ℕ = said (opened_pair c.opened) items replies ++ fault_lines item in
      let bytes : List ℕ = take put.1.0 (reply_lines last) in
      let s = stopped io beginning p mid (items ++ item ∷ []) replies said_so a.is in
      let after = stopped_puts io beginning mid to (items ++ item ∷ []) s.0 replies said_so bytes s.1 put.1.1 in
      let all = phases_in (items ++ item ∷ []) in
      let both = front ++ steps ∷ [] in
      let same : map answers_in both ≡ replies ++ last ∷ [] = map-append answers_in front (steps ∷ []) in
      let whole : Has all (both ++ []) = subst (λ (l : List (List Step)). Has all l) (sym (append-nil both)) has in
      let as_many : length (map answers_in both) ≡ length (items ++ item ∷ []) = ap length same ∙ as_many_more items replies item last a.as_many in
      let r : AreReplies (length (items ++ item ∷ [])) (answers_of (both ++ [])) (replies ++ last ∷ []) =
      subst (λ (l : List (List Answered)). AreReplies (length (items ++ item ∷ [])) (answers_of (both ++ [])) l) same (replied (items ++ item ∷ []) both [] all whole as_many) in
      record {
        items = items;
        item = item;
        served = served to all (both ++ []) whole (items ++ item ∷ []) s.0 replies (said_so ++ bytes) after (items ++ item ∷ []) (replies ++ last ∷ []) r
            (was_prompt io beginning to after.got (replies ++ last ∷ []) (said_so ++ bytes) (talked_more io beginning to after.got replies (said_so ++ bytes) last after.talked));
        more = s.0;
        front = after.items_are ∙ append_assoc items (item ∷ []) s.0;
        replies = replies;
        last = last;
        replies_are = refl;
        some = put.1.0;
        written = (subst (λ (n : ℕ). Rose n (io.write_faults to)) a.is.still.writes put.0, after.talked.appended);
      }

  -- ---- however it ended

  -- the sessions ended so, by the status, and what is known of the counts of faults
  abbrev EndsAs : X → Status → Type 0
  EndsAs to status = LivesAs io disk only_reads from to old ran.ended.disk left status

  reads_put : (mid to : X) (line : List ℕ) → PutsLine io mid to line → io.read_faults to ≡ io.read_faults mid
  reads_put mid to line put = (some_put io beginning mid to line put).1.read_faults

  short_as : (mid to : X) (status : Status) → status ≡ NoMemory → io.read_faults mid ≡ io.read_faults from → PutsLine io mid to (status_line NoMemory) → LivesShort io disk only_reads from to old ran.ended.disk left → EndsAs to status
  short_as mid to status is still put short = subst (λ (s : Status). EndsAs to s) (sym is) (short, reads_put mid to (status_line NoMemory) put ∙ still)

  module _ (begun : IsLiveAt io beginning start.phases (io_of start.out) [] []) (to : X) (status : Status) where
    -- all phases were given
    after_all : (e : EndsAfter phases output Has start end) → Closes io (io_of end.out) to last_bytes (Ok tt) status → EndsAs to status
    after_all e closes =
        let front = e.before.ran in
        let a = answers_at begun e.now e.before [] [] (subst (λ (all : List (List Order)). Has all (front ++ [])) (sym (append-nil e.before.all)) (subst (λ (l : List (List Step)). Has e.before.all l) (sym (append-nil front)) e.ran)) in
        let replies = map answers_in front in
        let items = a.items in
        let over = ends e.now.phases e.now.out end.phases end.out e.ended beginning items replies a.live in
        let live = over.0 in
        let s = over_at io beginning end.phases (io_of end.out) items replies (said (opened_pair c.opened) items replies) live.is over.1 over.2 in
        let has = whole_has items (front ++ []) a.has in
        let still = live.is.still in
        ⊎_elim
        (λ d. subst (λ (t : Status). EndsAs to t) (sym d.0) (
          lives_whole (io_of end.out) to items front has live.as_many s.0 s.1 still.writes d.1,
          d.1.1 ∙ still.writes,
          d.1.0.read_faults ∙ still.reads,
        ))
        (λ other. ⊎_elim
        (λ w. subst (λ (t : Status). EndsAs to t) (sym w.0) (
          inr (inr (inr (inr (ends_in_last (io_of end.out) to items front has live.as_many s.0 s.1 still.writes w.1)))),
          subst (λ (n : ℕ). Rose n (io.write_faults to)) still.writes w.1.0,
          w.1.1.1.read_faults ∙ still.reads,
        ))
        (λ n. short_as (io_of end.out) to status n.0 still.reads n.1 (lives_short_behind (io_of end.out) to items [] front a.has live.as_many s.0 still.writes n.1)) other)
        closes

    -- the next phase could not be given
    after_failure : (fault : PhaseFault) (e : FailsAfter phases output Has start end fault) → Closes io (io_of end.out) to last_bytes (Err fault) status → EndsAs to status
    after_failure fault e closes =
        let front = e.before.ran in
        let a = answers_at begun e.now e.before [] [] (subst (λ (all : List (List Order)). Has all (front ++ [])) (sym (append-nil e.before.all)) (subst (λ (l : List (List Step)). Has e.before.all l) (sym (append-nil front)) e.ran)) in
        by fault front a.items (fails e.now.phases e.now.out end.phases end.out fault e.failed beginning a.items (map answers_in front) a.live) closes a.has a.live.as_many
      where
        by : (fault : PhaseFault) (front : List (List Step)) (items : List Item) → FailsBy io beginning (io_of end.out) items (map answers_in front) fault → Closes io (io_of end.out) to last_bytes (Err fault) status
            → Has (phases_in items ++ []) (front ++ []) → length (map answers_in front) ≡ length items → EndsAs to status
        by faults.Read front items f closes has as_many = subst (λ (t : Status). EndsAs to t) (sym closes.0) (
          lives_unread (io_of end.out) to items front (whole_has items (front ++ []) has) as_many f.2 f.1 closes.1,
          subst (λ (n : ℕ). Rose (io.read_faults from) n) (sym (reads_put (io_of end.out) to (status_line ReadFault) closes.1)) f.0,
        )
        by faults.Write front items f closes has as_many = subst (λ (t : Status). EndsAs to t) (sym closes.0)
            (subst (λ (x : X). EndsAs x WriteFault) (sym closes.1) (
              ⊎_elim (λ all. inr (inr (inr (inl (ends_in_flush (io_of end.out) items front (whole_has items (front ++ []) has) as_many all f.0)))))
                  (λ some. inr (inl (ends_in_faults (io_of end.out) items front (whole_has items (front ++ []) has) as_many some f.0))) f.2,
              f.0,
              f.1,
            ))
        by faults.NoMemory front items f closes has as_many =
            short_as (io_of end.out) to status closes.0 f.0.reads closes.1 (lives_short_behind (io_of end.out) to items f.1.0 front has as_many f.1.1 f.0.writes closes.1)

    -- handing over the replies to the last phase failed
    after_break : (fault : PhaseFault) (e : BreaksAfter phases output Has start end fault) → Closes io (io_of end.out) to last_bytes (Err fault) status → EndsAs to status
    after_break fault e closes =
        let front = e.before.ran in
        let t = took_items io beginning io_of phases output gives flushes start e.now e.before.all (map answers_in front) [] [] e.before.took begun in
        let items : List Item = t.0 in
        let given = gives e.now.phases e.now.out e.given.phases e.given.out e.orders e.gave beginning items (map answers_in front) t.2 in
        let item : Item = given.0 in
        let phases_are : e.before.all ++ e.orders ∷ [] ≡ phases_in (items ++ item ∷ []) =
        (λ i. sym t.1 i ++ sym given.1 i ∷ []) ∙ sym (map-append (λ (x : Item). x.orders) items (item ∷ [])) in
        let has : Has (phases_in (items ++ item ∷ [])) (front ++ e.steps ∷ []) = subst (λ (all : List (List Order)). Has all (front ++ e.steps ∷ [])) phases_are e.ran in
        let put = breaks e.given.out end.out (answers_in e.steps) e.broke in
        let closes_so : Closes io (io_of end.out) to last_bytes (Err faults.Write) status = subst (λ (f : PhaseFault). Closes io (io_of end.out) to last_bytes (Err f) status) e.is closes in
        subst (λ (t : Status). EndsAs to t) (sym closes_so.0)
        (subst (λ (x : X). EndsAs x WriteFault) (sym closes_so.1) (
          inr (inr (inl (ends_in_replies e.given.phases (io_of e.given.out) (io_of end.out) items item front e.steps has given.2 put))),
          subst (λ (n : ℕ). Rose n (io.write_faults (io_of end.out))) given.2.is.still.writes put.0,
          put.1.1.read_faults ∙ given.2.is.still.reads,
        ))

    -- there was no memory for the last phase
    after_stop : (fault : PhaseFault) (e : StopsAfter phases output Has start end fault) → Closes io (io_of end.out) to last_bytes (Err fault) status → EndsAs to status
    after_stop fault e closes =
        let front = e.before.ran in
        let a = answers_at begun e.now e.before (e.cut ∷ []) (e.steps ∷ []) e.ran in
        let items = a.items in
        let replies = map answers_in front in
        let given = gives e.now.phases e.now.out end.phases end.out e.orders e.gave beginning items replies a.live in
        let item : Item = given.0 in
        let s = stopped io beginning end.phases (io_of end.out) (items ++ item ∷ []) replies (said (opened_pair c.opened) items replies ++ fault_lines item) given.2.is in
        let split : IsStopped io beginning (io_of end.out) items (item ∷ s.0) replies (said (opened_pair c.opened) items replies ++ fault_lines item) = record {
          got = s.1.got;
          rest = s.1.rest;
          read = s.1.read;
          items_are = s.1.items_are ∙ append_assoc items (item ∷ []) s.0;
          talked = s.1.talked;
        } in
        let first_of : HasFirstOf item.orders e.cut = subst (λ (l : List Order). HasFirstOf l e.cut) (sym given.1) e.first in
        let closes_so : Closes io (io_of end.out) to last_bytes (Err faults.NoMemory) status = subst (λ (f : PhaseFault). Closes io (io_of end.out) to last_bytes (Err f) status) e.is closes in
        short_as (io_of end.out) to status closes_so.0 given.2.is.still.reads closes_so.1
        (lives_short (io_of end.out) to items (item ∷ s.0) (e.cut ∷ []) front (e.steps ∷ []) (fault_lines item) a.has given.2.as_many split (item, s.0, refl, refl, first_of) given.2.is.still.writes closes_so.1)

    -- there was no memory for the sessions
    after_nothing : (fault : PhaseFault) (e : NeverBegins phases output Has start end fault) → Closes io (io_of end.out) to last_bytes (Err fault) status → EndsAs to status
    after_nothing fault e closes =
        let live : IsLiveAt io beginning end.phases (io_of end.out) [] [] = subst (λ (m : At LinePhases O). IsLiveAt io beginning m.phases (io_of m.out) [] []) (sym e.same) begun in
        let s = stopped io beginning end.phases (io_of end.out) [] [] (said (opened_pair c.opened) [] []) live.is in
        let closes_so : Closes io (io_of end.out) to last_bytes (Err faults.NoMemory) status = subst (λ (f : PhaseFault). Closes io (io_of end.out) to last_bytes (Err f) status) e.is closes in
        short_as (io_of end.out) to status closes_so.0 live.is.still.reads closes_so.1 (lives_short_behind (io_of end.out) to [] s.0 [] e.ran refl s.1 live.is.still.writes closes_so.1)

    by_result : (result : Result (Unit {0}) PhaseFault) → EndsBy phases output Has start end result → Closes io (io_of end.out) to last_bytes result status → EndsAs to status
    by_result (Ok u) e closes = after_all e closes
    by_result (Err fault) (inl e) closes = after_failure fault e closes
    by_result (Err fault) (inr (inl e)) closes = after_break fault e closes
    by_result (Err fault) (inr (inr (inl e))) closes = after_stop fault e closes
    by_result (Err fault) (inr (inr (inr e))) closes = after_nothing fault e closes

    pub ended : Closes io (io_of end.out) to (line_of pair.0 pair.1 ran.ended.trace.labels (drop pair.0 ran.ended.trace.sessions.items)) ran.result status → EndsAs to status
    ended closes =
        let at_pair : Closes io (io_of end.out) to (line_of (length c.opened.docs) (length c.opened.labels) ran.ended.trace.labels (drop (length c.opened.docs) ran.ended.trace.sessions.items)) ran.result status =
        subst (λ (p : ℕ × ℕ). Closes io (io_of end.out) to (line_of p.0 p.1 ran.ended.trace.labels (drop p.0 ran.ended.trace.sessions.items)) ran.result status) c.pair_is closes in
        by_result ran.result c.ended (subst (λ (l : List ℕ). Closes io (io_of end.out) to l ran.result status) (line_is c.opened ran.ended.trace c.last c.traced) at_pair)

    pub runs : Closes io (io_of end.out) to (line_of pair.0 pair.1 ran.ended.trace.labels (drop pair.0 ran.ended.trace.sessions.items)) ran.result status → RunsLive io disk only_reads from to old ran.ended.disk left status
    runs closes = lives io disk only_reads from to old ran.ended.disk left status (ended closes) ran.ended.trace left_is
