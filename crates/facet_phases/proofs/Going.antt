-- A session's orders, one after the other.
use Rattle.std.proofs.Common.{◌≡◌, ◌∙◌, ℕ, List, [], ◌∷◌, ◌++◌, length, take, map, refl, ap, sym, subst, arith}
use Rattle.std.specs.Prelude.{Result, Ok, Err, IsErr}
use Rattle.std.proofs.lemmas.List.{take_all, map-append}
use Rattle.std.proofs.lemmas.List.Elements.{All-nil, All-push}
use Rattle.chronicle.specs.Frame.{Frame}
use Rattle.commit_turns.specs.Frames.{HasNumbers}
use Rattle.facet_words.specs.Commands.{Settings}
use Rattle.facet_output.specs.Answered.{Answered}
use Rattle.facet_output.specs.Held.{Held, held_after}
use Rattle.facet_replies.specs.Replies.{Reply}
use Rattle.facet_output.specs.Sessions.{SessionRan, held_by}
use Rattle.facet_output.specs.Steps.{Step, IsStep}
use Rattle.facet_engine.specs.declared.session.Session.{Session}
use Rattle.facet_words.specs.CommandViews.{command_view, order_view}
use Rattle.facet_engine.specs.Calls.{SameSession, IsCarriedOut, IsSpentWithin}
use Rattle.facet_engine.specs.HeldPairs.{numbers_held}
use Rattle.facet_engine.specs.Steps.{seen_of, step_of}
use Rattle.facet_engine.specs.Systems.{Engine, HasSettings}
use Rattle.facet_words.specs.declared.command.Order.{Order}
use Rattle.facet_phases.specs.Orders.{Answers}
use Rattle.facet_phases.specs.Phases.{AreSpentWithin, answers_in, asked, in_phase}
use Rattle.facet_phases.proofs.Belonging.{still_set}
use Rattle.facet_phases.proofs.Stepping.{ran_more, held_append, answers_append, asked_append, in_phase_append}
use Rattle.facet_output.proofs.Gluing.{told_itself}

-- these orders were carried out, by these steps
pub record HasGone (settings : Settings) (phase : ℕ) (old now : Session) (orders : List Order) (steps : List Step) : Type 0 where
  pub asked : asked steps ≡ in_phase phase (map order_view orders)
  pub ran : SessionRan settings old.number (numbers_held old.held) (seen_of old.pass) steps (seen_of now.pass)
  pub held : numbers_held now.held ≡ held_by (numbers_held old.held) steps
  pub spent : AreSpentWithin old.pass.commits.frame steps

-- and what is kept of their replies is so
abbrev pub IsGoing : Engine → Session → Session → List Order → (List Answered → Type 0) → Type 0
IsGoing engine old now orders Kept = (settings : Settings) (phase : ℕ) → HasSettings engine old.pass settings → (steps : List Step) × HasGone settings phase old now orders steps × Kept (answers_in steps)

pub going_none : (engine : Engine) (old : Session) (Kept : List Answered → Type 0) → Kept [] → IsGoing engine old old [] Kept
going_none engine old Kept kept settings phase has =
    ([], record { asked = refl; ran = told_itself old.number (seen_of old.pass); held = refl; spent = λ next moment faults failures has. All-nil (λ (x : Step). IsSpentWithin next x.answered.reply x.after) }, kept)

pub going_more : (engine : Engine) (old now new : Session) (orders : List Order) (o : Order) (reply : Reply) (Kept More : List Answered → Type 0) → SameSession old now → o.session ≡ old.number → IsGoing engine old now orders Kept
    → IsCarriedOut engine now new (command_view o.command) reply
    → ((answered : List Answered) (a : Answered) → Kept answered → a.order.session ≡ o.session → a.order.line ≡ o.line → a.reply ≡ reply → More (answered ++ a ∷ [])) → IsGoing engine old new (orders ++ o ∷ []) More
going_more engine old now new orders o reply Kept More same own going done adds settings phase has =
    let so_far = going settings phase has in
    let steps : List Step = so_far.0 in
    let gone = so_far.1 in
    let x : Step = step_of (command_view o.command) done.took done.place done.saw reply now.pass new.pass phase o.line in
    let number : now.pass.labels.number ≡ o.session = now.numbers.0 ∙ same.0 ∙ sym own in
    let order : x.answered.order ≡ order_view o = λ i. record { session = number i; line = o.line; command = command_view o.command } in
    let step : IsStep settings (numbers_held now.held) x = done.step settings phase o.line (still_set engine old.pass now.pass settings same.1 has) in (
      steps ++ x ∷ [],
      record {
        asked = asked_append steps (x ∷ []) ∙ (λ i. gone.asked i ++ (phase, order i) ∷ []) ∙ sym (in_phase_append phase (map order_view orders) (order_view o ∷ []))
            ∙ ap (in_phase phase) (sym (map-append order_view orders (o ∷ [])));
        ran = ran_more settings old.number (numbers_held old.held) (seen_of old.pass) (seen_of now.pass) steps x gone.ran refl (subst (λ (h : Held). IsStep settings h x) gone.held step);
        held = done.holds phase o.line ∙ ap (λ (h : Held). held_after h x.answered) gone.held ∙ sym (held_append (numbers_held old.held) steps (x ∷ []));
        spent = λ next moment faults failures has. All-push (λ (x : Step). IsSpentWithin next x.answered.reply x.after) steps x (gone.spent next moment faults failures has)
            (done.spent next moment faults failures (subst (λ (f : Frame). HasNumbers next moment faults failures f) (sym same.1.commits.4) has));
      },
      subst More (sym (answers_append steps (x ∷ []))) (adds (answers_in steps) x.answered so_far.2 number refl refl),
    )

-- all orders were carried out
pub answers_all : {C E : Type 0} (Holds : List Answered → C → Type 0) (engine : Engine) (old new : Session) (orders : List Order) (replies : C) → SameSession old new → IsGoing engine old new orders (λ answered. Holds answered replies)
    → Answers Holds {E = E} engine old new orders (Ok replies)
answers_all Holds engine old new orders replies same going = record {
  same = same;
  ran = λ settings phase has.
      let s = going settings phase has in
      let all : take (length orders) orders ≡ orders = take_all (length orders) orders (omega arith) in
      record { many = length orders; steps = s.0; asked = s.1.asked ∙ ap (λ (l : List Order). in_phase phase (map order_view l)) (sym all); ran = s.1.ran; held = s.1.held; spent = s.1.spent; replies = (all, s.2) };
}

-- the first of them were
pub answers_some : {C E : Type 0} (Holds : List Answered → C → Type 0) (engine : Engine) (old new : Session) (orders done : List Order) (many : ℕ) (Kept : List Answered → Type 0) (result : Result C E) → IsErr result → take many orders ≡ done → SameSession old new
    → IsGoing engine old new done Kept → Answers Holds engine old new orders result
answers_some Holds engine old new orders done many Kept (Ok v) fails first same going = absurd (cc)
answers_some Holds engine old new orders done many Kept (Err fault) fails first same going = record {
  same = same;
  ran = λ settings phase has.
      let s = going settings phase has in
      record { many = many; steps = s.0; asked = s.1.asked ∙ ap (λ (l : List Order). in_phase phase (map order_view l)) (sym first); ran = s.1.ran; held = s.1.held; spent = s.1.spent; replies = tt };
}
