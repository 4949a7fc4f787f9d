-- What the sessions of an invocation return, and the law that their output is right.
use Rattle.std.specs.Prelude.{◌≡◌, ◌+◌, ℕ, List, [], ◌∷◌, take, map, filter, flat_map, fold, length, All, Bool, IsTrue}
use Rattle.std.specs.List.{list_all}
use Rattle.facet_names.specs.Labels.{IsLabelList}
use Rattle.facet_model.specs.Histories.{are_publications}
use Rattle.facet_words.specs.Commands.{Settings, Order}
use Rattle.facet_words.specs.ScriptOrder.{lines_rise}
use Rattle.facet_output.specs.Answered.{Answered, is_of, in_writing_order}
use Rattle.facet_output.specs.Held.{Held, held_after}
use Rattle.facet_output.specs.Output.{Opened, IsOutput}
use Rattle.facet_output.specs.Seen.{Seen, Sees, IsTold, labels_of, history_of, opened_seen}
use Rattle.facet_output.specs.Steps.{Step, IsStep}

-- all steps, phase by phase
abbrev pub steps_of : List (List Step) → List Step
steps_of phases = flat_map (λ steps. steps) phases

abbrev pub is_by : ℕ → Step → Bool
is_by session x = is_of session x.answered

-- the replies of the steps
abbrev pub answers_of : List (List Step) → List Answered
answers_of phases = map (λ (x : Step). x.answered) (steps_of phases)

-- those of a session, in line order
abbrev pub own_steps : ℕ → List Step → List Step
own_steps session steps = filter (is_by session) steps

-- A session that holds these pairs and has seen so much carries out its steps, one after the other. Between two of
-- them, and after the last, it learns what others entered.
abbrev pub SessionRan : Settings → ℕ → Held → Seen → List Step → Seen → Type 0
SessionRan settings session held seen [] last = IsTold session seen last
SessionRan settings session held seen (x ∷ xs) last = IsTold session seen x.before × IsStep settings held x
    × SessionRan settings session (held_after held x.answered) x.after xs last

-- The phases from a number on. Each step of a phase begins with what is known there, and everything seen in it is known
-- in the next.
abbrev pub PhasesRan : ℕ → Seen → List (List Step) → Seen → Type 0
PhasesRan phase known [] last = Sees known last
PhasesRan phase known (steps ∷ later) last = (next : Seen) × Sees known next
    × All (λ (x : Step). (x.answered.phase ≡ phase) × Sees known x.before × Sees x.after next) steps
    × PhasesRan (phase + 1) next later last

-- what a session holds after these steps
abbrev pub held_by : Held → List Step → Held
held_by held steps = fold (λ h (x : Step). held_after h x.answered) held steps

-- These phases were carried out, from what was opened, and now this is known.
pub record RanSoFar (settings : Settings) (phases : List (List Order)) (opened : Opened) (ran : List (List Step))
    (known : Seen) : Type 0 where
  pub as_many : length ran ≡ length phases
  pub asked : map {B = ℕ × Order} (λ (x : Step). (x.answered.phase, x.answered.order)) (steps_of ran)
      ≡ in_writing_order phases
  pub in_line_order : IsTrue (list_all lines_rise phases)
  pub sessions : (session : ℕ)
      → SessionRan settings session [] (opened_seen opened) (own_steps session (steps_of ran)) known
  pub told : PhasesRan 0 (opened_seen opened) ran known

-- All commands of the phases were carried out, from what was opened to the state at the end.
pub record AllRan (settings : Settings) (phases : List (List Order)) (opened : Opened) (ran : List (List Step))
    (last : Seen) : Type 0 where
  pub asked : map (λ (x : Step). (x.answered.phase, x.answered.order)) (steps_of ran) ≡ in_writing_order phases
  pub in_line_order : IsTrue (list_all lines_rise phases)
  pub sessions : (session : ℕ)
      → SessionRan settings session [] (opened_seen opened) (own_steps session (steps_of ran)) last
  pub told : PhasesRan 0 (opened_seen opened) ran last
  pub rooted : take 1 opened.labels ≡ [] ∷ []
  pub label_list : IsLabelList (labels_of last)
  pub publications : IsTrue (are_publications (labels_of last) (history_of last) (map (λ e. e.1) last.pairs))

-- their output is right
abbrev pub SessionsGiveOutput : Type 0
SessionsGiveOutput = (settings : Settings) (phases : List (List Order)) (opened : Opened) (ran : List (List Step))
    (last : Seen) → AllRan settings phases opened ran last
    → IsOutput settings phases opened (labels_of last) (history_of last) last.pairs (answers_of ran)
