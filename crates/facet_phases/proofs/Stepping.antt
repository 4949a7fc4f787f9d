-- The steps of one session, one after the other.
use Rattle.std.proofs.Common.{◌≡◌, ◌∙◌, ℕ, List, [], ◌∷◌, ◌++◌, get_or, drop, refl, sym, ap, subst, eq-eqb, ne_eqb}
use Rattle.std.specs.Prelude.{All, ◌≢◌}
use Rattle.std.proofs.lemmas.List.{map-append}
use Rattle.std.proofs.lemmas.List.Elements.{All-nil, All-cons, All-head, All-tail}
use Rattle.facet_words.specs.Commands.{Settings, Order}
use Rattle.facet_output.specs.Held.{Held, held_after}
use Rattle.facet_output.specs.Answered.{Answered}
use Rattle.facet_output.specs.Seen.{Seen, IsTold}
use Rattle.facet_output.specs.Sessions.{SessionRan, held_by, own_steps}
use Rattle.facet_output.specs.Steps.{Step, IsStep}
use Rattle.facet_output.proofs.Gluing.{session_append, told_itself}
use Rattle.facet_phases.specs.Phases.{answers_in, asked, in_phase}

-- one step more, which begins with what was seen
pub ran_more : (settings : Settings) (session : ℕ) (held : Held) (seen now : Seen) (xs : List Step) (x : Step) → SessionRan settings session held seen xs now → x.before ≡ now → IsStep settings (held_by held xs) x
    → SessionRan settings session held seen (xs ++ x ∷ []) x.after
ran_more settings session held seen now xs x ran begins step = session_append settings session held seen xs (x ∷ []) now x.after ran
    (subst (λ (s : Seen). IsTold session now s) (sym begins) (told_itself session now), step, told_itself session x.after)

pub held_append : (held : Held) (xs ys : List Step) → held_by held (xs ++ ys) ≡ held_by (held_by held xs) ys
held_append held [] ys = refl
held_append held (x ∷ xs) ys = held_append (held_after held x.answered) xs ys

pub asked_append : (xs ys : List Step) → asked (xs ++ ys) ≡ asked xs ++ asked ys
asked_append xs ys = map-append (λ (x : Step). (x.answered.phase, x.answered.order)) xs ys

pub answers_append : (xs ys : List Step) → answers_in (xs ++ ys) ≡ answers_in xs ++ answers_in ys
answers_append xs ys = map-append {B = Answered} (λ (x : Step). x.answered) xs ys

pub in_phase_append : (phase : ℕ) (os ps : List Order) → in_phase phase (os ++ ps) ≡ in_phase phase os ++ in_phase phase ps
in_phase_append phase os ps = map-append (λ (o : Order). (phase, o)) os ps

-- ---- whose steps they are

-- each is of this session
abbrev pub AreBy : ℕ → List Step → Type 0
AreBy session steps = All (λ (x : Step). x.answered.order.session ≡ session) steps

-- steps for orders of a session are its steps
pub are_by : (session phase : ℕ) (xs : List Step) (os : List Order) → asked xs ≡ in_phase phase os → All (λ (o : Order). o.session ≡ session) os → AreBy session xs
are_by session phase [] os is all = All-nil (λ (x : Step). x.answered.order.session ≡ session)
are_by session phase (x ∷ xs) [] is all = absurd (cc)
are_by session phase (x ∷ xs) (o ∷ os) is all =
    let same : x.answered.order ≡ o = ap (λ (l : List (ℕ × Order)). (get_or l 0 (phase, o)).1) is in
    All-cons (λ (x : Step). x.answered.order.session ≡ session) x xs (ap (λ (p : Order). p.session) same ∙ All-head (λ (o : Order). o.session ≡ session) o os all)
    (are_by session phase xs os (ap (drop 1) is) (All-tail (λ (o : Order). o.session ≡ session) o os all))

pub own_all : (session : ℕ) (xs : List Step) → AreBy session xs → own_steps session xs ≡ xs
own_all session [] all = refl
own_all session (x ∷ xs) all =
    rw (eq-eqb x.answered.order.session session (All-head (λ (x : Step). x.answered.order.session ≡ session) x xs all))
    (ap (λ (l : List Step). x ∷ l) (own_all session xs (All-tail (λ (x : Step). x.answered.order.session ≡ session) x xs all)))

pub own_none : (session other : ℕ) (xs : List Step) → session ≢ other → AreBy other xs → own_steps session xs ≡ []
own_none session other [] ne all = refl
own_none session other (x ∷ xs) ne all =
    let apart : x.answered.order.session ≢ session = λ e. ne (sym e ∙ All-head (λ (x : Step). x.answered.order.session ≡ other) x xs all) in
    rw (ne_eqb x.answered.order.session session apart) (own_none session other xs ne (All-tail (λ (x : Step). x.answered.order.session ≡ other) x xs all))
