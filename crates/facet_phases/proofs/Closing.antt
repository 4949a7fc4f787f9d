-- Phases that end, one after the other.
use Rattle.std.proofs.Common.{◌≡◌, ◌≤◌, List, [], ◌∷◌, ◌++◌, length, map, refl, inl, inr, sym, subst, append_assoc, append-nil}
use Rattle.std.specs.Prelude.{All, IsTrue, Result, Ok, Err}
use Rattle.std.proofs.lemmas.List.{map-append}
use Rattle.pair_manager.specs.declared.pass.Pass.{Pass}
use Rattle.facet_words.specs.Commands.{Order}
use Rattle.facet_words.specs.ScriptOrder.{lines_rise}
use Rattle.facet_output.specs.Answered.{Answered}
use Rattle.facet_output.specs.Steps.{Step}
use Rattle.facet_engine.specs.Systems.{Engine}
use Rattle.facet_phases.specs.declared.collector.Output.{Ghosts as OutputGhosts}
use Rattle.facet_phases.specs.declared.fault.PhaseFault.{PhaseFault}
use Rattle.facet_phases.specs.declared.fault.PhaseFault.TheVariants.{Read, Write, NoMemory}
use Rattle.facet_phases.specs.declared.lane.Lane.{Lane}
use Rattle.facet_phases.specs.declared.phases.Phases.{Ghosts as PhasesGhosts}
use Rattle.facet_phases.specs.Ending.{AreBehind, EndsPhase, PhasesEnded}
use Rattle.facet_phases.specs.Lanes.{Each, IsFlushed, KeepAll}
use Rattle.facet_phases.specs.Phases.{answers_in}
use Rattle.facet_phases.specs.Running.{AreUnderway, CarriesOut, Course, further}
use Rattle.facet_phases.specs.Taking.{At, at, Gives, Took}
use Rattle.facet_phases.proofs.Flushed.{flushed_under}
use Rattle.facet_phases.proofs.Taking.{took_one_more}

-- ---- one phase

module _ {C O : Type 0} (Holds : List Answered → C → Type 0) (output : OutputGhosts O C) (before now : O) (engine : Engine) (orders : List Order) (a b : Pass) (xs ys zs : List (Lane C)) where
  pub phase_flushed : {E : Type 0} → CarriesOut Holds {E = E} engine orders a b xs ys (Ok tt) → length zs ≡ length ys → Each IsFlushed ys zs → ((answered : List Answered) → KeepAll Holds ys answered → output.flushes before now answered)
      → EndsPhase output engine orders before now a b xs zs (Ok tt)
  phase_flushed out many each flushes course under =
      let d = out course under in
      (d.steps, flushed_under engine b ys zs many each (further course (orders ∷ []) (d.steps ∷ [])) d.whole.0, flushes (answers_in d.steps) d.whole.1)

  pub phase_failed : {E : Type 0} → CarriesOut Holds {E = E} engine orders a b xs ys (Ok tt) → length zs ≡ length ys → Each IsFlushed ys zs → ((answered : List Answered) → KeepAll Holds ys answered → output.breaks before now answered)
      → EndsPhase output engine orders before now a b xs zs (Err Write)
  phase_failed out many each breaks course under =
      let d = out course under in
      (d.steps, flushed_under engine b ys zs many each (further course (orders ∷ []) (d.steps ∷ [])) d.whole.0, breaks (answers_in d.steps) d.whole.1)

  pub phase_short : {E : Type 0} (result : Result (Unit {0}) E) → now ≡ before → CarriesOut Holds engine orders a b xs ys result → EndsPhase output engine orders before now a b xs zs (Err NoMemory)
  phase_short result still out course under =
      let d = out course under in
      (d.steps, d.phase, still)

-- ---- several phases

module _ {C P O : Type 0} (phases : PhasesGhosts P O) (output : OutputGhosts O C) (engine : Engine) (start : At P O) where
  -- whatever was done, these were
  abbrev pub Behind : At P O → Pass → Pass → List (Lane C) → List (Lane C) → Type 0
  Behind now old new xs ys = (course : Course) → AreUnderway engine course old xs → AreBehind phases output engine start course now new ys

  pub behind_none : (a : Pass) (xs : List (Lane C)) → Behind start a a xs xs
  behind_none a xs course under =
      let same : course ≡ further course [] [] = λ i. record { settings = course.settings; opened = course.opened; phases = sym (append-nil course.phases) i; ran = sym (append-nil course.ran) i } in
      record { all = []; more = []; took = refl; under = subst (λ (c : Course). AreUnderway engine c a xs) same under }

  -- one more behind some more
  one_more : (course : Course) (done : List (List Order)) (orders : List Order) (more : List (List Step)) (steps : List Step) (b : Pass) (ys : List (Lane C))
      → AreUnderway engine (further (further course done more) (orders ∷ []) (steps ∷ [])) b ys → AreUnderway engine (further course (done ++ orders ∷ []) (more ++ steps ∷ [])) b ys
  one_more course done orders more steps b ys under =
      let same : further (further course done more) (orders ∷ []) (steps ∷ []) ≡ further course (done ++ orders ∷ []) (more ++ steps ∷ []) =
      λ i. record { settings = course.settings; opened = course.opened; phases = append_assoc course.phases done (orders ∷ []) i; ran = append_assoc course.ran more (steps ∷ []) i } in
      subst (λ (c : Course). AreUnderway engine c b ys) same under

  module _ (now given : At P O) (out : O) (orders : List Order) (a b c : Pass) (xs ys zs : List (Lane C)) (gave : Gives phases now given orders) (first : Behind now a b xs ys) where
    pub behind_more : EndsPhase output engine orders given.out out b c ys zs (Ok tt) → Behind (at given.phases out) a c xs zs
    behind_more second course under =
        let d = first course under in
        let e = second (further course d.all d.more) d.under in
        record {
          all = d.all ++ orders ∷ [];
          more = d.more ++ e.0 ∷ [];
          took = subst (λ (l : List (List Answered)). Took phases output start (at given.phases out) (d.all ++ orders ∷ []) l) (sym (map-append answers_in d.more (e.0 ∷ [])))
              (took_one_more phases output start now given out d.all orders (map answers_in d.more) (answers_in e.0) d.took gave e.2);
          under = one_more course d.all orders d.more e.0 c zs e.1;
        }

    -- that one is the last
    pub phases_stop : (fault : PhaseFault) → c.commits.frame ≡ b.commits.frame → All (λ (o : Order). (1 ≤ o.session) × (o.session ≤ 64)) orders → IsTrue (lines_rise orders) → EndsPhase output engine orders given.out out b c ys zs (Err fault)
        → (course : Course) → AreUnderway engine course a xs → PhasesEnded phases output engine start course (at given.phases out) c zs (Err fault)
    phases_stop Write frame within rise second course under =
        let d = first course under in
        let e = second (further course d.all d.more) d.under in
        inr (inl (record {
          is = refl;
          now = now;
          middle = b;
          between = ys;
          behind = d;
          orders = orders;
          given = given;
          gave = gave;
          steps = e.0;
          last = one_more course d.all orders d.more e.0 c zs e.1;
          same = refl;
          broke = e.2;
        }))
    phases_stop NoMemory frame within rise second course under =
        let d = first course under in
        let e = second (further course d.all d.more) d.under in
        inr (inr (record {
          is = refl;
          now = now;
          middle = b;
          between = ys;
          behind = d;
          orders = orders;
          within = within;
          rise = rise;
          gave = subst (λ (o : O). Gives phases now (at given.phases o) orders) (sym e.2) gave;
          steps = e.0;
          frame = frame;
          short = e.1;
        }))
    phases_stop Read frame within rise second course under = absurd (let d = first course under in second (further course d.all d.more) d.under)
