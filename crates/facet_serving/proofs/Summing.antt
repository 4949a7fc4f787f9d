-- How sessions end that generate documents, by what was tallied and what was written behind their phases.
use Rattle.std.proofs.Common.{◌≡◌, ◌∙◌, inl, inr, ℕ, ◌+◌, List, [], ◌∷◌, ◌++◌, length, take, Option, Some, Result, Ok, Err, refl, sym, subst, append-nil, rules}
use Rattle.std.specs.Prelude.{All}
use Rattle.std.specs.Io.KnownBytes.{Appends}
use Rattle.std.proofs.lemmas.List.{take_all}
use Rattle.facet_disk.specs.declared.disk.Disk.{Ghosts}
use Rattle.facet_engine.specs.declared.ending.Trace.{Trace}
use Rattle.facet_io.specs.declared.sink.Sink.{Ghosts as SinkGhosts}
use Rattle.facet_output.specs.Answered.{Answered}
use Rattle.facet_output.specs.Sessions.{answers_of}
use Rattle.facet_output.specs.Steps.{Step}
use Rattle.facet_phases.specs.Runs.{EndedSo, HasRun, IsCutOff}
use Rattle.facet_phases.specs.declared.fault.PhaseFault.{PhaseFault}
use Rattle.facet_phases.specs.declared.fault.PhaseFault.TheVariants as phases
use Rattle.facet_phases.specs.declared.outcome.RanToEnd.{RanToEnd}
use Rattle.facet_replies.specs.Summaries.{summary_line}
use Rattle.facet_words.specs.Commands.{Order, Script}
use Rattle.generator.specs.Tallies.{IsTallyOf}
use Rattle.generator.specs.declared.tally.Tally.{Tally}
use Rattle.facet_serving.proofs.Sessions.{ran_so, spends}
use Rattle.facet_serving.specs.Alike.{replies_of}
use Rattle.facet_serving.specs.Closing.{IsWithoutMemory, IsWritten}
use Rattle.facet_serving.specs.Counting.{GoesOn}
use Rattle.facet_serving.specs.Generating.{ClosesSummed, Generates, IsLineOf, SummedAs}
use Rattle.facet_serving.specs.Sessions.{Ran, SpendsFrom}
use Rattle.facet_serving.specs.Serving.{IsCarried}
use Rattle.facet_serving.specs.declared.status.Status.{Status}

module _ {D : Type 0} (ghosts : Ghosts D) (s : Script) (start : D) (Flushes : List Answered → Type 0) (Breaks : List Answered → List Answered → Type 0) (pair : ℕ × ℕ) (ran : RanToEnd D) (c : IsCarried ghosts s start Flushes Breaks pair ran) where
  -- phases that were carried out
  abbrev pub carried_by : (phases : List (List Order)) (steps : List (List Step)) → HasRun s.settings c.opened c.first c.last phases steps → Ran ghosts s.settings phases ran.ended.trace start ran.ended.disk
  carried_by phases steps has = ran_so s.settings phases c.opened steps c.last has.all ghosts ran.ended.trace start ran.ended.disk c.opens c.traced
      (λ t tells. subst (λ (n : ℕ). All (SpendsFrom n c.last) (answers_of steps)) (c.next_is t tells) (spends s.settings phases c.opened steps c.last has.all c.next (has.spent c.next c.at c.faults c.failures c.numbers))) c.keeps

module _ {D K : Type 0} (ghosts : Ghosts D) (s : Script) (start : D) (sink : SinkGhosts K) (before now : K) (old total : Tally) (Breaks : List Answered → List Answered → Type 0) (pair : ℕ × ℕ) (ran : RanToEnd D) (status : Status)
    (c : IsCarried ghosts s start (GoesOn old total) Breaks pair ran) (empty : IsTallyOf [] old) where
  abbrev As : Status → Type 0
  As t = SummedAs ghosts s start ran.ended.disk sink before now ran.ended.trace t

  unsummed : (many : ℕ) (cut : List (List Order)) (steps : List (List Step)) → IsCutOff s.phases many cut → HasRun s.settings c.opened c.first c.last (take many s.phases ++ cut) steps → IsWithoutMemory sink before now status → As status
  unsummed many cut steps is has none =
      subst As (sym none.0) (record { many = many; cut = cut; is_cut = is; ran = carried_by ghosts s start (GoesOn old total) Breaks pair ran c (take many s.phases ++ cut) steps has; written = none.1 })

  summed_line : (steps : List (List Step)) (line : List ℕ) → HasRun s.settings c.opened c.first c.last s.phases steps → GoesOn old total (answers_of steps) → IsLineOf total line → IsWritten line sink before now status → As status
  summed_line steps line has goes of (inl written) =
      let sum = of (replies_of (answers_of steps)) (goes [] empty) in
      subst As (sym written.0)
      (carried_by ghosts s start (GoesOn old total) Breaks pair ran c s.phases steps has, sum.0, sum.1, (subst (λ (l : List ℕ). Appends (sink.written before) (sink.written now) l) sum.2 written.1, written.2))
  summed_line steps line has goes of (inr failed) =
      let sum = of (replies_of (answers_of steps)) (goes [] empty) in
      let line_is : (n : ℕ) × Appends (sink.written before) (sink.written now) (take n (summary_line sum.0)) = (failed.2.0, subst (λ (l : List ℕ). Appends (sink.written before) (sink.written now) (take failed.2.0 l)) sum.2 failed.2.1) in
      subst As (sym failed.0) (failed.1, (carried_by ghosts s start (GoesOn old total) Breaks pair ran c s.phases steps has, sum.0, sum.1, line_is))

  whole : (steps : List (List Step)) (many : ℕ) (some : List (List Order)) → take many s.phases ≡ some → HasRun s.settings c.opened c.first c.last some steps → IsWithoutMemory sink before now status → As status
  whole steps many some is has none =
      unsummed many [] steps tt (subst (λ (p : List (List Order)). HasRun s.settings c.opened c.first c.last p steps) (sym (append-nil (take many s.phases) ∙ is)) has) none

  summed : (steps : List (List Step)) → HasRun s.settings c.opened c.first c.last s.phases steps → GoesOn old total (answers_of steps) → ClosesSummed total sink before now status (Ok tt) → As status
  summed steps has goes (inl l) = summed_line steps l.0 has goes l.1 l.2
  summed steps has goes (inr none) = whole steps (length s.phases) s.phases (take_all (length s.phases) s.phases (search rules)) has none

  ended : (result : Result (Unit {0}) PhaseFault) → EndedSo (HasRun s.settings c.opened c.first c.last) (GoesOn old total) Breaks s.phases result → ClosesSummed total sink before now status result → As status
  ended (Ok u) e closes = summed e.0 e.1 e.2 closes
  ended (Err phases.Write) e closes = whole (e.1 ++ e.2 ∷ []) (e.0 + 1) (take (e.0 + 1) s.phases) refl e.3.carried closes
  ended (Err phases.NoMemory) e closes = unsummed e.0 e.2.short (e.1 ++ e.2.steps) e.2.cut e.2.carried closes
  ended (Err phases.Read) e closes = absurd e

  pub generates : (new : D) (left : Option Trace) → left ≡ Some ran.ended.trace → new ≡ ran.ended.disk → ClosesSummed total sink before now status ran.result → Generates ghosts s start new sink before now left status
  generates new left trace disk closes =
      subst (λ d. Generates ghosts s start d sink before now left status) (sym disk) (record { trace = ran.ended.trace; trace_is = trace; ended = ended ran.result c.ended closes })
