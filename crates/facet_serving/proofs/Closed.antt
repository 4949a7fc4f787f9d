-- How sessions end, by what their phases and the last line have written.
use Rattle.std.proofs.Common.{◌≡◌, ◌∙◌, inl, inr, ℕ, ◌+◌, List, [], ◌∷◌, ◌++◌, length, map, take, drop, Option, Some, Result, Ok, Err, sym, ap, subst, append-nil, rules}
use Rattle.std.specs.Prelude.{All}
use Rattle.std.specs.Io.KnownBytes.{Appends}
use Rattle.commit_turns.specs.Frames.{HasNumbers}
use Rattle.facet_disk.specs.Images.{Told}
use Rattle.std.proofs.lemmas.List.{drop-map, take_all}
use Rattle.std.proofs.lemmas.List.Concat.{flat_map-append}
use Rattle.facet_disk.specs.declared.disk.Disk.{Ghosts}
use Rattle.facet_engine.specs.declared.ending.Trace.{Trace}
use Rattle.facet_io.specs.Faults.{Rose}
use Rattle.facet_io.specs.declared.sink.Sink.{Ghosts as SinkGhosts}
use Rattle.facet_model.specs.Histories.{Operation}
use Rattle.facet_output.specs.Answered.{Answered, in_writing_order}
use Rattle.facet_output.specs.Output.{Opened}
use Rattle.facet_output.specs.OutputLines.{last_line, reply_lines}
use Rattle.facet_output.specs.Seen.{Seen, history_of, labels_of}
use Rattle.facet_output.specs.Sessions.{answers_of, steps_of}
use Rattle.facet_output.specs.Steps.{Step}
use Rattle.facet_phases.specs.Ending.{BreaksBehind}
use Rattle.facet_phases.specs.Moments.{Moment, Writes, WritesSome, moment}
use Rattle.facet_phases.specs.Phases.{asked}
use Rattle.facet_phases.specs.Runs.{EndedSo, HasRun, IsCutOff, StoppedWith}
use Rattle.facet_phases.specs.declared.fault.PhaseFault.{PhaseFault}
use Rattle.facet_phases.specs.declared.fault.PhaseFault.TheVariants as phases
use Rattle.facet_replies.specs.LastLine.{last_line as line_of}
use Rattle.facet_words.specs.Commands.{Settings, Order, Script}
use Rattle.facet_phases.specs.declared.outcome.RanToEnd.{RanToEnd}
use Rattle.facet_serving.proofs.Opened.{HasOpened, HasRoom, has_opened, has_room}
use Rattle.pair_manager.specs.declared.pass.Pass.{Pass}
use Rattle.store_opening.specs.Files.{greatest_number}
use Rattle.store_opening.specs.Newest.{next_after}
use Rattle.facet_serving.proofs.Sessions.{ran_so, spends}
use Rattle.facet_serving.proofs.Whole.{lines_before_last, lines_in_last, lines_whole}
use Rattle.facet_serving.specs.Closing.{Closes, IsWithoutMemory}
use Rattle.facet_serving.specs.Ends.{EndsPartly}
use Rattle.facet_serving.specs.Sessions.{IsTraceOf, Ran, SpendsFrom, lines_before, lines_in}
use Rattle.facet_serving.specs.Stores.{Keeps, Opens}
use Rattle.facet_serving.specs.Writing.{WritesBehind, WritesLine}
use Rattle.facet_serving.specs.Serving.{EndsAs, IsCarried, Serves}
use Rattle.facet_serving.specs.Statuses.{status_line}
use Rattle.facet_serving.specs.declared.status.Status.{Status}
use Rattle.facet_serving.specs.declared.status.Status.TheVariants.{NoMemory}
use Rattle.facet_io.proofs.Pieces.{appends_then}

-- in each case some phases ran
pub some_ran : (settings : Settings) (opened : Opened) (first : Pass) (last : Seen) (Flushes : List Answered → Type 0) (Breaks : List Answered → List Answered → Type 0) (all : List (List Order)) (result : Result (Unit {0}) PhaseFault)
    → EndedSo (HasRun settings opened first last) Flushes Breaks all result → HasOpened opened last
some_ran settings opened first last Flushes Breaks all (Ok u) e = has_opened settings all opened e.0 last e.1.all
some_ran settings opened first last Flushes Breaks all (Err phases.Write) e = has_opened settings (take (e.0 + 1) all) opened (e.1 ++ e.2 ∷ []) last e.3.carried.all
some_ran settings opened first last Flushes Breaks all (Err phases.NoMemory) e = has_opened settings (take e.0 all ++ e.2.short) opened (e.1 ++ e.2.steps) last e.2.carried.all
some_ran settings opened first last Flushes Breaks all (Err phases.Read) e = absurd e

-- the last line may begin behind what was opened
pub carried_room : {D : Type 0} (ghosts : Ghosts D) (s : Script) (start : D) (Flushes : List Answered → Type 0) (Breaks : List Answered → List Answered → Type 0) (pair : ℕ × ℕ) (ran : RanToEnd D) → IsCarried ghosts s start Flushes Breaks pair ran → HasRoom pair ran.ended.trace
carried_room ghosts s start Flushes Breaks pair ran c =
    has_room c.opened c.last ran.ended.trace pair c.pair_is c.traced c.rooted (some_ran s.settings c.opened c.first c.last Flushes Breaks s.phases ran.result c.ended)

-- the lines of the replies
abbrev lines_of : List Step → List ℕ
lines_of steps = reply_lines (map (λ (x : Step). x.answered) steps)

-- the last line as the trace has it
pub line_is : (opened : Opened) (trace : Trace) (last : Seen) → IsTraceOf trace last → line_of (length opened.docs) (length opened.labels) trace.labels (drop (length opened.docs) trace.sessions.items) ≡ last_line opened (labels_of last) (history_of last)
line_is opened trace last is =
    let session : Operation → ℕ = λ o. o.session in
    (λ i. line_of (length opened.docs) (length opened.labels) (is.labels i) (drop (length opened.docs) (is.sessions i)))
    ∙ ap (line_of (length opened.docs) (length opened.labels) (labels_of last)) (drop-map session (length opened.docs) (history_of last))

module _ {K : Type 0} (sink : SinkGhosts K) where
  abbrev pub at_sink : K → Moment
  at_sink k = moment (sink.faults k) (sink.written k)

  -- between two moments of the sink all lines of these replies were written
  abbrev pub Handed : K → K → List Answered → Type 0
  Handed before now answered = Writes (at_sink before) (at_sink now) (reply_lines answered)

  -- or a beginning of them, at a fault
  abbrev pub Failed : K → K → List Answered → Type 0
  Failed before now answered = WritesSome (at_sink before) (at_sink now) (reply_lines answered)

module _ {D K : Type 0} (ghosts : Ghosts D) (s : Script) (opened : Opened) (trace : Trace) (last : Seen) (old new : D) (sink : SinkGhosts K) (before middle now : K)
    (opens : Opens ghosts s.settings.config old opened) (traced : IsTraceOf trace last) (keeps : Keeps ghosts s.settings.config last old new)
    (first : Pass) (next at faults failures : ℕ) (numbers : HasNumbers next at faults failures first.commits.frame)
    (next_is : (t : Told) → ghosts.told old ≡ Some t → next ≡ next_after (greatest_number t.files)) where
  abbrev start : Moment
  start = at_sink sink before

  abbrev between : Moment
  between = at_sink sink middle

  abbrev ran_by : (phases : List (List Order)) (ran : List (List Step)) → HasRun s.settings opened first last phases ran → Ran ghosts s.settings phases trace old new
  ran_by phases ran has = ran_so s.settings phases opened ran last has.all ghosts trace old new opens traced
      (λ t tells. subst (λ (n : ℕ). All (SpendsFrom n last) (answers_of ran)) (next_is t tells) (spends s.settings phases opened ran last has.all next (has.spent next at faults failures numbers))) keeps

  -- a line behind the lines of phases
  behind : (lines line : List ℕ) → Writes start between lines → WritesLine sink middle now line → WritesBehind sink before now lines line
  behind lines line w (inl l) = inl (appends_then (sink.written before) (sink.written middle) (sink.written now) lines line w.0 l.0, l.1 ∙ w.1)
  behind lines line w (inr l) = inr (subst (λ (n : ℕ). Rose n (sink.faults now)) w.1 l.0, (l.1.0, appends_then (sink.written before) (sink.written middle) (sink.written now) lines (take l.1.0 line) w.0 l.1.1))

  -- want of memory behind whole phases
  without : (many : ℕ) (short : List (List Order)) (ran steps : List (List Step)) (status : Status) → IsCutOff s.phases many short → HasRun s.settings opened first last (take many s.phases ++ short) (ran ++ steps)
      → asked (steps_of ran) ≡ in_writing_order (take many s.phases) → Writes start between (lines_of (steps_of ran)) → IsWithoutMemory sink middle now status → EndsAs ghosts s old new sink before now trace status
  without many short ran steps status cut has whole w none =
      let joined : steps_of (ran ++ steps) ≡ steps_of ran ++ steps_of steps = flat_map-append (λ (l : List Step). l) ran steps in
      let both : asked (steps_of ran ++ steps_of steps) ≡ in_writing_order (take many s.phases ++ short) = ap asked (sym joined) ∙ has.all.asked in
      let lines : lines_before many (answers_of (ran ++ steps)) ≡ lines_of (steps_of ran) =
      ap (λ (l : List Step). lines_before many (map (λ (x : Step). x.answered) l)) joined ∙ lines_whole s.phases many short (steps_of ran) (steps_of steps) cut whole both in
      subst (λ (t : Status). EndsAs ghosts s old new sink before now trace t) (sym none.0)
      (record {
        many = many;
        cut = short;
        is_cut = cut;
        ran = ran_by (take many s.phases ++ short) (ran ++ steps) has;
        written = subst (λ (l : List ℕ). WritesBehind sink before now l (status_line NoMemory)) (sym lines) (behind (lines_of (steps_of ran)) (status_line NoMemory) w none.1);
      })

  -- the last line behind all phases
  done : (ran : List (List Step)) (line : List ℕ) (status : Status) → HasRun s.settings opened first last s.phases ran → line ≡ last_line opened (labels_of last) (history_of last) → Writes start between (lines_of (steps_of ran))
      → Closes line (Ok tt) sink middle now status → EndsAs ghosts s old new sink before now trace status
  done ran line status has is w (inl (inl written)) =
      let r = ran_by s.phases ran has in
      subst (λ (t : Status). EndsAs ghosts s old new sink before now trace t) (sym written.0) (
        r,
        subst (λ (l : List ℕ). Appends (sink.written before) (sink.written now) (lines_of (steps_of ran) ++ l)) is
            (appends_then (sink.written before) (sink.written middle) (sink.written now) (lines_of (steps_of ran)) line w.0 written.1),
        written.2 ∙ w.1,
      )
  done ran line status has is w (inl (inr failed)) =
      let lines : List ℕ = lines_of (steps_of ran) in
      let n = failed.2.0 in
      subst (λ (t : Status). EndsAs ghosts s old new sink before now trace t) (sym failed.0) (
        subst (λ (n : ℕ). Rose n (sink.faults now)) w.1 failed.1,
        inr (record {
          ran = ran_by s.phases ran has;
          some = n;
          written = subst (λ (l : List ℕ). Appends (sink.written before) (sink.written now) (lines ++ take n l)) is
              (appends_then (sink.written before) (sink.written middle) (sink.written now) lines (take n line) w.0 failed.2.1);
        }),
      )
  done ran line status has is w (inr none) =
      let whole : take (length s.phases) s.phases ≡ s.phases = take_all (length s.phases) s.phases (search rules) in
      let same : take (length s.phases) s.phases ++ [] ≡ s.phases = append-nil (take (length s.phases) s.phases) ∙ whole in
      without (length s.phases) [] ran [] status tt
      (subst (λ (l : List (List Step)). HasRun s.settings opened first last (take (length s.phases) s.phases ++ []) l) (sym (append-nil ran)) (subst (λ (p : List (List Order)). HasRun s.settings opened first last p ran) (sym same) has))
      (has.all.asked ∙ ap in_writing_order (sym whole)) w none

  -- a fault behind the phases before the last one
  broken : (many : ℕ) (ran : List (List Step)) (steps : List Step) → StoppedWith (HasRun s.settings opened first last) s.phases many ran steps → (half : K) → Writes start (at_sink sink half) (lines_of (steps_of ran))
      → WritesSome (at_sink sink half) between (lines_of steps) → EndsPartly ghosts s trace old new sink before middle
  broken many ran steps stopped half w failed =
      let joined : steps_of (ran ++ steps ∷ []) ≡ steps_of ran ++ steps =
      flat_map-append (λ (l : List Step). l) ran (steps ∷ []) ∙ ap (λ (l : List Step). steps_of ran ++ l) (append-nil steps) in
      let both : asked (steps_of ran ++ steps) ≡ in_writing_order (take (many + 1) s.phases) = ap asked (sym joined) ∙ stopped.carried.all.asked in
      let fore : lines_before many (answers_of (ran ++ steps ∷ [])) ≡ lines_of (steps_of ran) =
      ap (λ (l : List Step). lines_before many (map (λ (x : Step). x.answered) l)) joined ∙ lines_before_last s.phases many stopped.next (steps_of ran) steps stopped.before both in
      let own : lines_in many (answers_of (ran ++ steps ∷ [])) ≡ lines_of steps =
      ap (λ (l : List Step). lines_in many (map (λ (x : Step). x.answered) l)) joined ∙ lines_in_last s.phases many stopped.next (steps_of ran) steps stopped.before both in
      let n = failed.1.0 in
      let written : Appends (sink.written before) (sink.written middle) (lines_of (steps_of ran) ++ take n (lines_of steps)) =
      appends_then (sink.written before) (sink.written half) (sink.written middle) (lines_of (steps_of ran)) (take n (lines_of steps)) w.0 failed.1.1 in (
        subst (λ (n : ℕ). Rose n (sink.faults middle)) w.1 failed.0,
        inl (record {
          many = many;
          one_more = stopped.next;
          ran = ran_by (take (many + 1) s.phases) (ran ++ steps ∷ []) stopped.carried;
          some = n;
          written = subst (λ (l : List ℕ). Appends (sink.written before) (sink.written middle) (l ++ take n (lines_in many (answers_of (ran ++ steps ∷ []))))) (sym fore)
              (subst (λ (l : List ℕ). Appends (sink.written before) (sink.written middle) (lines_of (steps_of ran) ++ take n l)) (sym own) written);
        }),
      )

  -- however the phases ended
  ended : (line : List ℕ) (result : Result (Unit {0}) PhaseFault) (status : Status) → line ≡ last_line opened (labels_of last) (history_of last) → EndedSo (HasRun s.settings opened first last) (Handed sink before middle) (BreaksBehind (Handed sink) (Failed sink) before middle) s.phases result
      → Closes line result sink middle now status → EndsAs ghosts s old new sink before now trace status
  ended line (Ok u) status is e closes = done e.0 line status e.1 is e.2 closes
  ended line (Err phases.Write) status is e closes =
      let b = e.4 in
      subst (λ (t : Status). EndsAs ghosts s old new sink before now trace t) (sym closes.0)
      (subst (λ (k : K). EndsPartly ghosts s trace old new sink before k) (sym closes.1) (broken e.0 e.1 e.2 e.3 b.0 b.1 b.2))
  ended line (Err phases.NoMemory) status is e closes = without e.0 e.2.short e.1 e.2.steps status e.2.cut e.2.carried e.2.whole e.3 closes
  ended line (Err phases.Read) status is e closes = absurd e

  pub serves : (result : Result (Unit {0}) PhaseFault) (left : Option Trace) (status : Status) → left ≡ Some trace → EndedSo (HasRun s.settings opened first last) (Handed sink before middle) (BreaksBehind (Handed sink) (Failed sink) before middle) s.phases result
      → Closes (line_of (length opened.docs) (length opened.labels) trace.labels (drop (length opened.docs) trace.sessions.items)) result sink middle now status → Serves ghosts s old new sink before now left status
  serves result left status is e closes = record {
    trace = trace;
    trace_is = is;
    ended = ended (line_of (length opened.docs) (length opened.labels) trace.labels (drop (length opened.docs) trace.sessions.items)) result status (line_is opened trace last traced) e closes;
  }

-- the sessions of a script ended, and what was written behind them
pub serves_carried : {D K : Type 0} (ghosts : Ghosts D) (s : Script) (start new : D) (sink : SinkGhosts K) (before middle now : K) (pair : ℕ × ℕ) (ran : RanToEnd D) (left : Option Trace) (status : Status)
    → IsCarried ghosts s start (Handed sink before middle) (BreaksBehind (Handed sink) (Failed sink) before middle) pair ran → left ≡ Some ran.ended.trace → new ≡ ran.ended.disk → Closes (line_of pair.0 pair.1 ran.ended.trace.labels (drop pair.0 ran.ended.trace.sessions.items)) ran.result sink middle now status
    → Serves ghosts s start new sink before now left status
serves_carried ghosts s start new sink before middle now pair ran left status c trace disk closes =
    let closed = subst (λ (p : ℕ × ℕ). Closes (line_of p.0 p.1 ran.ended.trace.labels (drop p.0 ran.ended.trace.sessions.items)) ran.result sink middle now status) c.pair_is closes in
    subst (λ d. Serves ghosts s start d sink before now left status) (sym disk)
    (serves ghosts s c.opened ran.ended.trace c.last start ran.ended.disk sink before middle now c.opens c.traced c.keeps c.first c.next c.at c.faults c.failures c.numbers c.next_is ran.result left status trace c.ended closed)
