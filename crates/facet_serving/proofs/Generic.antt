-- Sessions that were carried out on a store, whatever gave their phases.
use Rattle.std.proofs.Common.{◌≡◌, ℕ, List, [], ◌∷◌, ◌++◌, inl, inr, Result, Ok, Err, subst}
use Rattle.std.specs.Prelude.{IfOk}
use Rattle.std.proofs.lemmas.Result.{IfOk-weaker}
use Rattle.facet_disk.specs.declared.disk.Disk.{Ghosts}
use Rattle.facet_output.specs.Answered.{Answered}
use Rattle.facet_output.specs.Output.{Opened}
use Rattle.facet_output.specs.Seen.{Seen}
use Rattle.facet_phases.proofs.Listing.{listed_ended}
use Rattle.facet_phases.specs.Ending.{BreaksBehind}
use Rattle.facet_phases.specs.Listing.{Listing, IsGiven, IsOver, phases_of}
use Rattle.facet_phases.specs.Runs.{EndedSo, EndsBy, HasRun}
use Rattle.facet_phases.specs.Taking.{At, Ends, Fails, Gives}
use Rattle.facet_phases.specs.declared.collector.Output.{Ghosts as OutputGhosts}
use Rattle.facet_phases.specs.declared.fault.PhaseFault.{PhaseFault}
use Rattle.facet_phases.specs.declared.outcome.RanToEnd.{RanToEnd}
use Rattle.facet_phases.specs.declared.phases.Phases.{Ghosts as PhasesGhosts}
use Rattle.facet_words.specs.Commands.{Order, Script, Settings}
use Rattle.pair_manager.specs.declared.pass.Pass.{Pass}
use Rattle.facet_serving.proofs.Opened.{HasOpened, HasRoom, has_opened, has_room}
use Rattle.facet_serving.specs.Serving.{IsCarried, IsCarriedOut}

-- ---- the last line may begin behind what was opened

module _ {C P O : Type 0} (phases : PhasesGhosts P O) (output : OutputGhosts O C) where
  -- in each case some phases ran
  some_ran_by : (settings : Settings) (opened : Opened) (first : Pass) (last : Seen) (before now : At P O) (result : Result (Unit {0}) PhaseFault) → EndsBy phases output (HasRun settings opened first last) before now result → HasOpened opened last
  some_ran_by settings opened first last before now (Ok u) e = has_opened settings e.before.all opened e.before.ran last e.ran.all
  some_ran_by settings opened first last before now (Err fault) (inl e) = has_opened settings e.before.all opened e.before.ran last e.ran.all
  some_ran_by settings opened first last before now (Err fault) (inr (inl e)) = has_opened settings (e.before.all ++ e.orders ∷ []) opened (e.before.ran ++ e.steps ∷ []) last e.ran.all
  some_ran_by settings opened first last before now (Err fault) (inr (inr (inl e))) = has_opened settings (e.before.all ++ e.cut ∷ []) opened (e.before.ran ++ e.steps ∷ []) last e.ran.all
  some_ran_by settings opened first last before now (Err fault) (inr (inr (inr e))) = has_opened settings [] opened [] last e.ran.all

  pub carried_out_room : {D : Type 0} (ghosts : Ghosts D) (settings : Settings) (start : D) (before now : At P O) (pair : ℕ × ℕ) (ran : RanToEnd D) → IsCarriedOut ghosts settings start phases output before now pair ran → HasRoom pair ran.ended.trace
  carried_out_room ghosts settings start before now pair ran c =
      has_room c.opened c.last ran.ended.trace pair c.pair_is c.traced c.rooted (some_ran_by settings c.opened c.first c.last before now ran.result c.ended)

-- ---- the phases of a script

pub from_ok : {T E : Type 0} (r : Result T E) {P Q : T → Type 0} → IfOk r P → ((x : T) → P x → Q x) → IfOk r Q
from_ok r {P = P} {Q = Q} is then = IfOk-weaker r P Q then is

pub carried_listed : {C D O : Type 0} {phases : PhasesGhosts Listing O} (output : OutputGhosts O C) (ghosts : Ghosts D) (s : Script) (start : D) (before now : At Listing O) (pair : ℕ × ℕ) (ran : RanToEnd D) → IsCarriedOut ghosts s.settings start phases output before now pair ran → phases_of before.phases ≡ s.phases
    → ((a b : At Listing O) (orders : List Order) → Gives phases a b orders → IsGiven a.phases b.phases orders × (b.out ≡ a.out)) → ((a b : At Listing O) → Ends phases a b → IsOver a.phases b.phases × (b.out ≡ a.out)) → ((a b : At Listing O) (fault : PhaseFault) → Fails phases a b fault → ⊥)
    → ((o : O) → output.flushes o o []) → ((a b c : O) (xs ys : List Answered) → output.flushes a b xs → output.flushes b c ys → output.flushes a c (xs ++ ys))
    → IsCarried ghosts s start (output.flushes before.out now.out) (BreaksBehind output.flushes output.breaks before.out now.out) pair ran
carried_listed {phases = phases} output ghosts s start before now pair ran c is gives ends fails flushes_none flushes_then = record {
  opened = c.opened;
  last = c.last;
  first = c.first;
  next = c.next;
  at = c.at;
  faults = c.faults;
  failures = c.failures;
  numbers = c.numbers;
  next_is = c.next_is;
  pair_is = c.pair_is;
  rooted = c.rooted;
  opens = c.opens;
  traced = c.traced;
  keeps = c.keeps;
  ended = subst (λ (all : List (List Order)). EndedSo (HasRun s.settings c.opened c.first c.last) (output.flushes before.out now.out) (BreaksBehind output.flushes output.breaks before.out now.out) all ran.result) is
      (listed_ended phases output gives ends fails flushes_none flushes_then (HasRun s.settings c.opened c.first c.last) before now ran.result c.ended);
}
