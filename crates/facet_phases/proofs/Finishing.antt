-- A run from what was opened to its end.
use Rattle.std.proofs.Common.{◌≡◌, ◌∙◌, ℕ, ◌+◌, ◌-◌, ◌<◌, List, [], ◌∷◌, ◌++◌, inl, inr, length, get_or, refl, sym, subst, arith, append-nil}
use Rattle.std.specs.Prelude.{Result, Ok, Err, All}
use Rattle.std.specs.List.{AllZip}
use Rattle.std.proofs.lemmas.List.Elements.{All-nil, All-weaker, AllZip-get_or}
use native.Mathlib.Decide.{dec_lt}
use mathlib.Core.Logic.{dite}
use Rattle.chronicle.specs.Frame.{Frame}
use Rattle.facet_names.specs.Labels.{IsLabelList}
use Rattle.pair_manager.specs.declared.pass.Pass.{Pass}
use Rattle.facet_words.specs.Commands.{Settings, Order}
use Rattle.facet_output.specs.Output.{Opened}
use Rattle.facet_output.specs.Seen.{Seen, Sees, IsTold, labels_of, opened_seen}
use Rattle.facet_output.specs.Sessions.{PhasesRan, RanSoFar, own_steps, steps_of}
use Rattle.facet_output.specs.Steps.{Step}
use Rattle.facet_output.proofs.Gluing.{none_ran, one_more_phase, phases_append, ran_whole, session_told, unused}
use Rattle.facet_engine.specs.Ending.{ArePublished, AreUpTo}
use Rattle.facet_engine.specs.declared.notes.Notes.{Notes}
use Rattle.facet_engine.specs.Notes.{noted}
use Rattle.facet_engine.specs.Steps.{seen_of}
use Rattle.facet_engine.specs.Systems.{Engine, BelongsTo}
use Rattle.facet_engine.specs.Exchange.{HaveMade}
use Rattle.facet_phases.specs.declared.collector.Output.{Ghosts as OutputGhosts}
use Rattle.facet_phases.specs.declared.fault.PhaseFault.{PhaseFault}
use Rattle.facet_phases.specs.declared.fault.PhaseFault.TheVariants.{NoMemory}
use Rattle.facet_phases.specs.declared.lane.Lane.{Lane}
use Rattle.facet_phases.specs.declared.phases.Phases.{Ghosts as PhasesGhosts}
use Rattle.facet_phases.specs.Ending.{AreBehind, BreaksThen, EndsPhases, FailsBehind, PhasesEnded, StopsThen}
use Rattle.facet_phases.specs.Lanes.{LaneTold}
use Rattle.facet_phases.specs.Phases.{AreSpentWithin}
use Rattle.facet_phases.specs.Running.{AreReady, BeginsUnderway, IsFirst, at_start}
use Rattle.facet_phases.specs.Runs.{BreaksAfter, Carried, EndsBy, FailsAfter, HasRun, HasRunSoFar, NeverBegins, RunsSoFar, RunsToEnd, StopsAfter}
use Rattle.facet_phases.specs.Taking.{At}
use Rattle.facet_phases.proofs.Cutting.{cut, cut_asked, cut_rises, cut_sessions, cut_spent, cut_steps, has_first}
use Rattle.facet_phases.proofs.Spent.{spent_none, spent_more}

-- ---- what is known is told at the end

pub told_all : (settings : Settings) (phases : List (List Order)) (opened : Opened) (ran : List (List Step)) (known last : Seen) → RanSoFar settings phases opened ran known → ((session : ℕ) → IsTold session known last) → RanSoFar settings phases opened ran last
told_all settings phases opened ran known last so_far told = record {
  as_many = so_far.as_many;
  asked = so_far.asked;
  in_line_order = so_far.in_line_order;
  sessions = λ session. session_told settings session [] (opened_seen opened) (own_steps session (steps_of ran)) known last (so_far.sessions session) (told session);
  told = subst (λ (l : List (List Step)). PhasesRan 0 (opened_seen opened) l last) (append-nil ran) (phases_append 0 (opened_seen opened) ran [] known last so_far.told (told 0).sees);
}

module _ {C : Type 0} where
  pub lane_at : (P : Lane C → Lane C → Type 0) (T : Type 0) (old new : List (Lane C)) (i : ℕ) → AllZip P old new → i < length old → ((d : Lane C) → P (get_or old i d) (get_or new i d) → T) → T
  lane_at P T [] new i z lt then = absurd (omega arith)
  lane_at P T (x ∷ xs) new i z lt then = then x (AllZip-get_or P (x ∷ xs) new i x x z lt)

  -- each session, and whoever has no number, was told of no entry of its own that it had not seen
  pub each_told : (engine : Engine) (first : Pass) (old new : List (Lane C)) (last : Seen) → AreReady engine first old → AllZip (LaneTold last) old new → IsTold 0 (seen_of first) last → ((made : ℕ) → HaveMade made first → AreUpTo made last)
      → (session : ℕ) → IsTold session (seen_of first) last
  each_told engine first old new last ready z told numbers session =
      dite (dec_lt 0 session)
      (λ above. dite (dec_lt (length old) session)
      (λ beyond.
      let up = numbers (length old) ready.made.made in
      unused (length old) session (seen_of first) last told.sees beyond up.labels up.operations up.pairs up.commits)
      (λ within.
      let lt : session - 1 < length old = omega arith in
      lane_at (LaneTold last) (IsTold session (seen_of first) last) old new (session - 1) z lt
      (λ d t.
      let number : (get_or old (session - 1) d).session.number ≡ session = ready.numbered (session - 1) d lt ∙ (let e : 1 + (session - 1) ≡ session = omega arith in e) in
      subst (λ (s : Seen). IsTold session s last) (ready.seen (session - 1) d lt)
      (subst (λ (n : ℕ). IsTold n (seen_of (get_or old (session - 1) d).session.pass) last) number t.told))))
      (λ none. let zero : 0 ≡ session = omega arith in subst (λ (n : ℕ). IsTold n (seen_of first) last) zero told)

-- ---- a weaker statement of how it ended

module _ {C P O : Type 0} (phases : PhasesGhosts P O) (output : OutputGhosts O C) where
  module _ (R S : List (List Order) → List (List Step) → Type 0) (start end : At P O) where
    -- it was carried out, whatever that is
    abbrev again : (now : At P O) → Carried phases output R start end now → Carried phases output S start end now
    again now c = record { all = c.all; ran = c.ran; took = c.took; asked = c.asked }

    module _ (weaker : (all : List (List Order)) (ran : List (List Step)) → R all ran → S all ran) where
      fails_weaker : (fault : PhaseFault) → FailsAfter phases output R start end fault → FailsAfter phases output S start end fault
      fails_weaker fault e = record { now = e.now; before = again e.now e.before; ran = weaker e.before.all e.before.ran e.ran; failed = e.failed }

      breaks_weaker : (fault : PhaseFault) → BreaksAfter phases output R start end fault → BreaksAfter phases output S start end fault
      breaks_weaker fault e = record {
        is = e.is;
        now = e.now;
        before = again e.now e.before;
        orders = e.orders;
        given = e.given;
        gave = e.gave;
        steps = e.steps;
        ran = weaker (e.before.all ++ e.orders ∷ []) (e.before.ran ++ e.steps ∷ []) e.ran;
        same = e.same;
        broke = e.broke;
      }

      stops_weaker : (fault : PhaseFault) → StopsAfter phases output R start end fault → StopsAfter phases output S start end fault
      stops_weaker fault e = record {
        is = e.is;
        now = e.now;
        before = again e.now e.before;
        orders = e.orders;
        gave = e.gave;
        cut = e.cut;
        first = e.first;
        steps = e.steps;
        ran = weaker (e.before.all ++ e.cut ∷ []) (e.before.ran ++ e.steps ∷ []) e.ran;
      }

      never_weaker : (fault : PhaseFault) → NeverBegins phases output R start end fault → NeverBegins phases output S start end fault
      never_weaker fault e = record { is = e.is; same = e.same; ran = weaker [] [] e.ran }

      pub ends_weaker : (result : Result (Unit {0}) PhaseFault) → EndsBy phases output R start end result → EndsBy phases output S start end result
      ends_weaker (Ok u) e = record { now = e.now; before = again e.now e.before; ran = weaker e.before.all e.before.ran e.ran; ended = e.ended }
      ends_weaker (Err fault) (inl e) = inl (fails_weaker fault e)
      ends_weaker (Err fault) (inr (inl e)) = inr (inl (breaks_weaker fault e))
      ends_weaker (Err fault) (inr (inr (inl e))) = inr (inr (inl (stops_weaker fault e)))
      ends_weaker (Err fault) (inr (inr (inr e))) = inr (inr (inr (never_weaker fault e)))

  pub runs_to_end : (engine : Engine) (start end : At P O) (first known : Pass) (last : Seen) (result : Result (Unit {0}) PhaseFault) → RunsSoFar phases output engine start end first known result
      → known.commits.frame ≡ first.commits.frame → ((session : ℕ) → IsTold session (seen_of known) last) → IsLabelList (labels_of last) → ArePublished last → RunsToEnd phases output engine start end first last result
  runs_to_end engine start end first known last result so_far frame told list published settings opened set seen rooted =
      ends_weaker (HasRunSoFar settings opened known) (HasRun settings opened first last) start end
      (λ all ran r. record {
        all = ran_whole settings all opened ran last (told_all settings all opened ran (seen_of known) last r.so_far told) rooted list published;
        spent = subst (λ (f : Frame). AreSpentWithin f (steps_of ran)) frame r.spent;
      }) result (so_far settings opened set seen)

module _ {C : Type 0} where
  -- with what the sessions were told, by notes that stay
  pub runs_to_end_at : {P O : Type 0} (phases : PhasesGhosts P O) (output : OutputGhosts O C) (engine : Engine) (start end : At P O) (first known : Pass) (old new : List (Lane C)) (notes still : Notes) (result : Result (Unit {0}) PhaseFault) → RunsSoFar phases output engine start end first known result → known.commits.frame ≡ first.commits.frame
      → AreReady engine known old → AllZip (LaneTold (noted notes)) old new → still ≡ notes → IsTold 0 (seen_of known) (noted notes) → ((made : ℕ) → HaveMade made known → AreUpTo made (noted notes)) → IsLabelList (labels_of (noted notes))
      → ArePublished (noted notes) → RunsToEnd phases output engine start end first (noted still) result
  runs_to_end_at phases output engine start end first known old new notes still result so_far frame ready z same told numbers list published =
      subst (λ (n : Notes). RunsToEnd phases output engine start end first (noted n) result) (sym same)
      (runs_to_end phases output engine start end first known (noted notes) result so_far frame (each_told engine known old new (noted notes) ready z told numbers) list published)

  pub all_see : (engine : Engine) (first : Pass) (lanes : List (Lane C)) (last : Seen) → AreReady engine first lanes → Sees (seen_of first) last → All (λ (l : Lane C). Sees (seen_of l.session.pass) last) lanes
  all_see engine first lanes last ready sees = All-weaker (λ (l : Lane C). seen_of l.session.pass ≡ seen_of first) (λ (l : Lane C). Sees (seen_of l.session.pass) last) (λ l is. subst (λ (s : Seen). Sees s last) (sym is) sees) lanes ready.seen

-- ---- the phases

module _ {C P O : Type 0} (phases : PhasesGhosts P O) (output : OutputGhosts O C) (engine : Engine) (start end : At P O) where
  module _ (settings : Settings) (opened : Opened) (new : Pass) where
    abbrev Ran : List (List Order) → List (List Step) → Type 0
    Ran = HasRunSoFar settings opened new

    abbrev carried : (now : At P O) (middle : Pass) (between : List (Lane C)) → AreBehind phases output engine start (at_start settings opened) now middle between → Carried phases output Ran start end now
    carried now middle between b = record { all = b.all; ran = b.more; took = b.took; asked = b.under.so_far.asked }

    stopped : (fault : PhaseFault) → StopsThen phases output engine start (at_start settings opened) end new fault → StopsAfter phases output Ran start end fault
    stopped fault s =
        let more : List (List Step) = s.behind.more in
        let n : ℕ = length s.behind.all in
        let f : Frame = s.middle.commits.frame in
        let known : Seen = seen_of s.middle in
        let some : List Order = cut settings f more n known (seen_of new) s.orders s.steps s.short in
        let steps : List Step = cut_steps settings f more n known (seen_of new) s.orders s.steps s.short 64 in
        record {
          is = s.is;
          now = s.now;
          before = carried s.now s.middle s.between s.behind;
          orders = s.orders;
          gave = s.gave;
          cut = some;
          first = has_first settings f more n known (seen_of new) s.orders s.steps s.short;
          steps = steps;
          ran = record {
            so_far = one_more_phase settings s.behind.all opened more known some steps (seen_of new) s.behind.under.so_far
                (cut_rises (λ session. (s.short.asked session).0) s.orders s.rise)
                (cut_asked settings f more n known (seen_of new) s.orders s.steps s.short 64 (omega arith) s.within)
                (cut_sessions settings f more n known (seen_of new) s.orders s.steps s.short 64 (omega arith) s.within);
            spent = subst (λ (g : Frame). AreSpentWithin g (steps_of (more ++ steps ∷ []))) (sym s.frame)
                (spent_more f more steps s.behind.under.spent (cut_spent settings f more n known (seen_of new) s.orders s.steps s.short 64));
          };
        }

    failed : (lanes : List (Lane C)) (fault : PhaseFault) → FailsBehind phases output engine start (at_start settings opened) end new lanes fault → FailsAfter phases output Ran start end fault
    failed lanes fault e = record {
      now = e.now;
      before = carried e.now new lanes e.behind;
      ran = record { so_far = e.behind.under.so_far; spent = e.behind.under.spent };
      failed = e.failed;
    }

    broken : (lanes : List (Lane C)) (fault : PhaseFault) → BreaksThen phases output engine start (at_start settings opened) end new lanes fault → BreaksAfter phases output Ran start end fault
    broken lanes fault e = record {
      is = e.is;
      now = e.now;
      before = carried e.now e.middle e.between e.behind;
      orders = e.orders;
      given = e.given;
      gave = e.gave;
      steps = e.steps;
      ran = record { so_far = e.last.so_far; spent = e.last.spent };
      same = e.same;
      broke = e.broke;
    }

    phases_ended : (lanes : List (Lane C)) (result : Result (Unit {0}) PhaseFault) → PhasesEnded phases output engine start (at_start settings opened) end new lanes result → EndsBy phases output Ran start end result
    phases_ended lanes (Ok u) e = record {
      now = e.now;
      before = carried e.now new lanes e.behind;
      ran = record { so_far = e.behind.under.so_far; spent = e.behind.under.spent };
      ended = e.ended;
    }
    phases_ended lanes (Err fault) (inl e) = inl (failed lanes fault e)
    phases_ended lanes (Err fault) (inr (inl e)) = inr (inl (broken lanes fault e))
    phases_ended lanes (Err fault) (inr (inr e)) = inr (inr (inl (stopped fault e)))

  pub runs_so_far : (first begun new : Pass) (begin lanes : List (Lane C)) (result : Result (Unit {0}) PhaseFault) → BeginsUnderway engine first begun begin → EndsPhases phases output engine start end begun new begin lanes result
      → RunsSoFar phases output engine start end first new result
  runs_so_far first begun new begin lanes result under ends settings opened set seen =
      phases_ended settings opened new lanes result (ends (at_start settings opened) (under settings opened set seen))

-- no phase began
pub runs_none : {C P O : Type 0} (phases : PhasesGhosts P O) (output : OutputGhosts O C) (engine : Engine) (start : At P O) (first new : Pass) → seen_of new ≡ seen_of first → RunsSoFar phases output engine start start first new (Err NoMemory)
runs_none phases output engine start first new same settings opened set seen = inr (inr (inr (record {
  is = refl;
  same = refl;
  ran = record { so_far = subst (λ (s : Seen). RanSoFar settings [] opened [] s) (sym (same ∙ seen)) (none_ran settings opened); spent = spent_none new.commits.frame };
})))

module _ {C : Type 0} where
  -- no session was made
  pub lanes_none : (engine : Engine) (first new : Pass) (lanes : List (Lane C)) → new ≡ first → lanes ≡ [] → BelongsTo engine first → IsFirst 0 first → AreReady engine new lanes
  lanes_none engine first new lanes same none own begins = subst (λ (l : List (Lane C)). AreReady engine new l) (sym none) (subst (λ (p : Pass). AreReady {C = C} engine p []) (sym same) (record {
    own = own;
    made = begins;
    many = (let none : length {A = Lane C} [] ≡ 0 = refl in omega arith);
    numbered = λ i d lt. absurd (omega arith);
    all = All-nil (λ (l : Lane C). BelongsTo engine l.session.pass);
    seen = All-nil (λ (l : Lane C). seen_of l.session.pass ≡ seen_of first);
  }))
