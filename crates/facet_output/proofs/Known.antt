-- What is known of the steps of all sessions.
use Rattle.std.proofs.Common.{◌≡◌, ◌⊎◌, inl, inr, ⊎_elim, ℕ, ◌+◌, ◌≤◌, ◌<◌, true, List, [], ◌∷◌, length, Some, slice_get, refl, arith}
use Rattle.std.specs.Prelude.{◌==◌, ◌&&◌, nat_lt, AllPairs, IsTrue}
use Rattle.std.proofs.lemmas.Bool.{and_parts, or_cases, eqb-true, eq-eqb, ltb-true}
use mathlib.Core.List.{IsPrefix}
use Rattle.facet_words.specs.Commands.{Settings, Order}
use Rattle.facet_output.specs.Answered.{Answered, comes_after}
use Rattle.facet_output.specs.Held.{Held}
use Rattle.facet_output.specs.Output.{Opened}
use Rattle.facet_output.specs.Seen.{Entries, Seen, Sees, IsTold, entered_by, opened_seen}
use Rattle.facet_output.specs.Steps.{Step, IsStep}
use Rattle.facet_output.specs.Sessions.{PhasesRan, AllRan, steps_of, own_steps, is_by}
use Rattle.facet_output.proofs.Among.{In, all_at, of_append, in_filter, of_filter}
use Rattle.facet_output.proofs.Ordered.{steps_in_order}
use Rattle.facet_output.proofs.HeldPairs.{HeldIn}
use Rattle.facet_output.proofs.Chain.{sees_trans, each_step, in_turn, origin}

-- ---- the order of answers

-- in a later phase, or in a later line of the session
pub after_parts : (a b : Answered) → comes_after a b ≡ true → (b.phase < a.phase) ⊎ ((b.phase ≡ a.phase) × (b.order.session ≡ a.order.session) × (b.order.line < a.order.line))
after_parts a b after = ⊎_elim
    (λ e. inl (ltb-true b.phase a.phase e))
    (λ e. let both = and_parts (b.phase == a.phase && b.order.session == a.order.session) (nat_lt b.order.line a.order.line) e in
    let first = and_parts (b.phase == a.phase) (b.order.session == a.order.session) both.0 in
    inr (eqb-true b.phase a.phase first.0, eqb-true b.order.session a.order.session first.1, ltb-true b.order.line a.order.line both.1))
    (or_cases (nat_lt b.phase a.phase) ((b.phase == a.phase && b.order.session == a.order.session) && nat_lt b.order.line a.order.line) after)

pub apart : (a b : Answered) → comes_after a b ≡ true → comes_after b a ≡ true → ⊥
apart a b p q = ⊎_elim
    (λ x. ⊎_elim (λ y. omega arith) (λ y. let e = y.0 in omega arith) (after_parts b a q))
    (λ x. ⊎_elim (λ y. let e = x.0 in omega arith) (λ y. let e = x.2 in let f = y.2 in omega arith) (after_parts b a q))
    (after_parts a b p)

-- ---- phases

known_before : (phase : ℕ) (known : Seen) (ran : List (List Step)) (last : Seen) (y : Step) → PhasesRan phase known ran last → In y (steps_of ran) → Sees known y.before × (phase ≤ y.answered.phase)
known_before phase known [] last y told there = absurd there
known_before phase known (steps ∷ later) last y told there = ⊎_elim
    (λ here. let h = all_at (λ (x : Step). (x.answered.phase ≡ phase) × Sees known x.before × Sees x.after told.0) steps y told.2 here in (h.1, (let e = h.0 in omega arith)))
    (λ behind. let rest = known_before (phase + 1) told.0 later last y told.3 behind in (sees_trans known told.0 y.before told.1 rest.0, (let e = rest.1 in omega arith)))
    (of_append steps (steps_of later) y there)

phases_turn : (phase : ℕ) (known : Seen) (ran : List (List Step)) (last : Seen) (x y : Step) → PhasesRan phase known ran last → In x (steps_of ran) → In y (steps_of ran)
    → x.answered.phase < y.answered.phase → Sees x.after y.before
phases_turn phase known [] last x y told there there' lt = absurd there
phases_turn phase known (steps ∷ later) last x y told there there' lt = ⊎_elim
    (λ x_here. let h = all_at (λ (x : Step). (x.answered.phase ≡ phase) × Sees known x.before × Sees x.after told.0) steps x told.2 x_here in ⊎_elim
    (λ y_here. let g = all_at (λ (x : Step). (x.answered.phase ≡ phase) × Sees known x.before × Sees x.after told.0) steps y told.2 y_here in let e = h.0 in let f = g.0 in absurd (omega arith))
    (λ y_behind. sees_trans x.after told.0 y.before h.2 (known_before (phase + 1) told.0 later last y told.3 y_behind).0)
    (of_append steps (steps_of later) y there'))
    (λ x_behind. let h = known_before (phase + 1) told.0 later last x told.3 x_behind in ⊎_elim
    (λ y_here. let g = all_at (λ (x : Step). (x.answered.phase ≡ phase) × Sees known x.before × Sees x.after told.0) steps y told.2 y_here in let e = h.1 in let f = g.0 in absurd (omega arith))
    (λ y_behind. phases_turn (phase + 1) told.0 later last x y told.3 x_behind y_behind lt)
    (of_append steps (steps_of later) y there'))
    (of_append steps (steps_of later) x there)

-- ---- all steps

module _ (settings : Settings) (phases : List (List Order)) (opened : Opened) (ran : List (List Step)) (last : Seen) (all : AllRan settings phases opened ran last) where
  pub own_in : (x : Step) → In x (steps_of ran) → In x (own_steps x.answered.order.session (steps_of ran))
  own_in x there = in_filter (is_by x.answered.order.session) (steps_of ran) x there (eq-eqb x.answered.order.session x.answered.order.session refl)

  -- the steps of a session come after one another
  pub in_order : (session : ℕ) → AllPairs (λ (x y : Step). IsTrue (comes_after y.answered x.answered)) (own_steps session (steps_of ran))
  in_order session = steps_in_order session phases (steps_of ran) all.asked all.in_line_order

  -- each step lies between what was opened and the end
  pub facts : (x : Step) → In x (steps_of ran) → Sees (opened_seen opened) x.before × Sees x.after last × ((h : Held) × IsStep settings h x × HeldIn h x.before)
  facts x there = each_step settings x.answered.order.session [] (opened_seen opened) (own_steps x.answered.order.session (steps_of ran)) last x (all.sessions x.answered.order.session) (λ h none. absurd none) (own_in x there)

  -- what a step has seen is seen before each one that comes after it
  pub after_sees : (x y : Step) → In x (steps_of ran) → In y (steps_of ran) → comes_after y.answered x.answered ≡ true → Sees x.after y.before
  after_sees x y there there' after = ⊎_elim
      (λ lt. phases_turn 0 (opened_seen opened) ran last x y all.told there there' lt)
      (λ same. let session = y.answered.order.session in
      in_turn settings session [] (opened_seen opened) (own_steps session (steps_of ran)) last x y (all.sessions session) (in_order session)
      (in_filter (is_by session) (steps_of ran) x there (eq-eqb x.answered.order.session session same.1)) (own_in y there') after (λ a b. apart a.answered b.answered))
      (after_parts y.answered x.answered after)

  -- each entry of a session was opened, or is entered by one of its steps
  pub entered : {A : Type 0} (part : Seen → Entries A) → ((a b : Seen) → Sees a b → IsPrefix (part a) (part b)) → ((n : ℕ) (a b : Seen) → IsTold n a b → entered_by n (part b) ≡ entered_by n (part a))
      → (k n : ℕ) (e : A) → slice_get (part last) k ≡ Some (n, e) → length (part (opened_seen opened)) ≤ k
      → (x : Step) × In x (steps_of ran) × (x.answered.order.session ≡ n) × (length (part x.before) ≤ k) × (slice_get (part x.after) k ≡ Some (n, e))
  entered part begins told k n e there behind = ⊎_elim
      (λ lt. absurd (omega arith))
      (λ r. let kept = of_filter (is_by n) (steps_of ran) r.0 r.1 in (r.0, kept.0, eqb-true r.0.answered.order.session n kept.1, r.2, r.3))
      (origin settings n part begins (told n) [] (opened_seen opened) (own_steps n (steps_of ran)) last (all.sessions n) k e there)
