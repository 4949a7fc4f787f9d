-- What a session holds after a call, and that a call is carried out.
use Rattle.std.proofs.Common.{◌≡◌, ◌∙◌, ℕ, Bool, true, false, cond, List, [], ◌∷◌, ◌++◌, Option, option_map, Ok, refl, sym, ap, subst}
use Rattle.std.specs.Prelude.{option_to_list}
use Rattle.std.proofs.lemmas.List.{map-append}
use Rattle.chronicle.specs.History.{entries}
use Rattle.pair_manager.specs.declared.pass.Pass.{Pass}
use Rattle.pair_manager.specs.Published.{Published, publication_of, IsLast}
use Rattle.facet_words.specs.Commands.{Command}
use Rattle.facet_output.specs.Held.{Held, held_after, after_command, is_numbered}
use Rattle.facet_output.specs.Replies.{Reply}
use Rattle.facet_engine.specs.declared.session.Session.{Session}
use Rattle.facet_engine.specs.Calls.{SameSession, IsCall, HoldsAfter, SpendsWithin, IsCarriedOut}
use Rattle.facet_engine.specs.Systems.{Engine}
use Rattle.facet_engine.specs.HeldPairs.{HeldPair, without, numbers_of, numbers_held}
use Rattle.facet_engine.specs.Steps.{step_of, pair_held, released}
use Rattle.facet_engine.proofs.Naming.{numbers_without}
use Rattle.facet_engine.proofs.Taking.{last_is}

-- a hold that is answered with a number holds the last pair too
pub held_more : (name : List ℕ) (held : List HeldPair) (old new : Pass) (pair : Published) (n phase line : ℕ) → IsLast (publication_of pair) (entries new.pairs.seen)
    → numbers_held (held ++ record { name = name; pair = pair } ∷ []) ≡ held_after (numbers_held held) (pair_held name old new (Ok n) phase line).answered
held_more name held old new pair n phase line last =
    let number : HeldPair → List ℕ × (ℕ × ℕ) = λ h. (h.name, numbers_of h.pair) in
    let named : ℕ × ℕ → List ℕ × (ℕ × ℕ) = λ p. (name, p) in
    let more : List (List ℕ × (ℕ × ℕ)) → Held = λ l. numbers_held held ++ l in
    map-append number held (record { name = name; pair = pair } ∷ [])
    ∙ ap more (ap (λ (o : Option (ℕ × ℕ)). option_to_list (option_map named o)) (sym (last_is new (publication_of pair) last)))

-- a release that is answered with a number lets go what is under the name
pub held_less : (E : Type 0) (name : List ℕ) (held : List HeldPair) (pass : Pass) (n phase line : ℕ) → numbers_held (without held name) ≡ held_after (numbers_held held) (released {E = E} name pass (Ok n) phase line).answered
held_less E name held pass n phase line = numbers_without held name

module _ (engine : Engine) (old new : Session) where
  -- a command that holds and releases nothing leaves what is held
  pub holds_still : (command : Command) (took : Option (ℕ × ℕ)) (place saw : Option ℕ) (reply : Reply) → after_command command took (numbers_held old.held) ≡ numbers_held old.held → new.held ≡ old.held
      → HoldsAfter old new (step_of command took place saw reply old.pass new.pass)
  holds_still command took place saw reply leaves is phase line = ap numbers_held is ∙ by (is_numbered reply)
    where
      by : (b : Bool) → numbers_held old.held ≡ cond b (after_command command took (numbers_held old.held)) (numbers_held old.held)
      by true = sym leaves
      by false = refl

  -- a call was carried out that is such a step
  pub carried : (command : Command) (took : Option (ℕ × ℕ)) (place saw : Option ℕ) (reply given : Reply) → given ≡ reply → SameSession old new → HoldsAfter old new (step_of command took place saw reply old.pass new.pass)
      → IsCall engine old (step_of command took place saw reply old.pass new.pass) → SpendsWithin old.pass new.pass reply → IsCarriedOut engine old new command given
  carried command took place saw reply given is same holds step spent = subst (λ (r : Reply). IsCarriedOut engine old new command r) (sym is) (record { same = same; took = took; place = place; saw = saw; step = step; holds = holds; spent = spent })
