-- Steps that tell of spent file numbers.
use Rattle.std.proofs.Common.{◌∙◌, ℕ, List, [], ◌∷◌, ◌++◌, sym, subst, append-nil}
use Rattle.std.proofs.lemmas.List.Elements.{All-nil, All-append, All-filter}
use Rattle.std.proofs.lemmas.List.Concat.{flat_map-append}
use Rattle.chronicle.specs.Frame.{Frame}
use Rattle.facet_output.specs.Sessions.{own_steps, is_by, steps_of}
use Rattle.facet_output.specs.Steps.{Step}
use Rattle.facet_engine.specs.Calls.{IsSpentWithin}
use Rattle.facet_phases.specs.Phases.{AreSpentWithin}

pub spent_none : (frame : Frame) → AreSpentWithin frame []
spent_none frame next moment faults failures has = All-nil (λ (x : Step). IsSpentWithin next x.answered.reply x.after)

pub spent_append : (frame : Frame) (xs ys : List Step) → AreSpentWithin frame xs → AreSpentWithin frame ys → AreSpentWithin frame (xs ++ ys)
spent_append frame xs ys p q next moment faults failures has = All-append (λ (x : Step). IsSpentWithin next x.answered.reply x.after) xs ys (p next moment faults failures has) (q next moment faults failures has)

-- the steps of one session
pub spent_own : (frame : Frame) (session : ℕ) (xs : List Step) → AreSpentWithin frame xs → AreSpentWithin frame (own_steps session xs)
spent_own frame session xs p next moment faults failures has = All-filter (is_by session) (λ (x : Step). IsSpentWithin next x.answered.reply x.after) xs (p next moment faults failures has)

-- those of one more phase
pub spent_more : (frame : Frame) (ran : List (List Step)) (steps : List Step) → AreSpentWithin frame (steps_of ran) → AreSpentWithin frame steps → AreSpentWithin frame (steps_of (ran ++ steps ∷ []))
spent_more frame ran steps p q = subst (AreSpentWithin frame) (sym (flat_map-append (λ (l : List Step). l) ran (steps ∷ []) ∙ (λ i. steps_of ran ++ append-nil steps i))) (spent_append frame (steps_of ran) steps p q)
