-- What each call of a session says.
use Rattle.std.specs.Prelude.{◌≡◌, ◌<◌, ◌+◌, ◌*◌, ℕ, length, Option}
use Rattle.commit_turns.specs.Frames.{HasNumbers}
use Rattle.facet_output.specs.Held.{held_after}
use Rattle.facet_output.specs.Replies.{Reply, refused, numbers_spent}
use Rattle.facet_output.specs.Seen.{Seen}
use Rattle.facet_output.specs.Steps.{Step, IsStep}
use Rattle.facet_words.specs.Commands.{Settings, Command}
use Rattle.pair_manager.specs.declared.pass.Pass.{Pass}
use Rattle.pair_manager.specs.Passes.{SamePass}
use Rattle.facet_engine.specs.declared.session.Session.{Session}
use Rattle.facet_engine.specs.HeldPairs.{numbers_held}
use Rattle.facet_engine.specs.Steps.{seen_of, step_of}
use Rattle.facet_engine.specs.Systems.{Engine, HasSettings}

-- the same session, whose tokens may have seen more
abbrev pub SameSession : Session → Session → Type 0
SameSession old new = (new.number ≡ old.number) × SamePass old.pass new.pass

-- In whatever phase and line it is called, it is this step of the session, given what that held.
abbrev pub IsCall : Engine → Session → (ℕ → ℕ → Step) → Type 0
IsCall engine old step = (settings : Settings) (phase line : ℕ) → HasSettings engine old.pass settings
    → IsStep settings (numbers_held old.held) (step phase line)

-- the session then holds what it holds after such a step
abbrev pub HoldsAfter : Session → Session → (ℕ → ℕ → Step) → Type 0
HoldsAfter old new step = (phase line : ℕ)
    → numbers_held new.held ≡ held_after (numbers_held old.held) (step phase line).answered

-- Where a reply says that the file numbers are spent, so many commits may have taken them, from the first on that a
-- commit may take.
abbrev pub IsSpentWithin : ℕ → Reply → Seen → Type 0
IsSpentWithin next reply after =
    (number : ℕ) → reply ≡ refused (numbers_spent number) → number < next + 1000003 * length after.commits

-- the first such number is that which the chronicle of commits began with
abbrev pub SpendsWithin : Pass → Pass → Reply → Type 0
SpendsWithin old new reply =
    (next moment faults failures : ℕ) → HasNumbers next moment faults failures old.commits.frame
    → IsSpentWithin next reply (seen_of new)

-- A command was carried out with this reply: with the pair that it took and its place, and with how many operations it
-- saw when it was refused for documents, it is a step of the same session, which then holds what it has to.
pub record IsCarriedOut (engine : Engine) (old new : Session) (command : Command) (reply : Reply) : Type 0 where
  pub same : SameSession old new
  pub took : Option (ℕ × ℕ)
  pub place : Option ℕ
  pub saw : Option ℕ
  pub step : IsCall engine old (step_of command took place saw reply old.pass new.pass)
  pub holds : HoldsAfter old new (step_of command took place saw reply old.pass new.pass)
  pub spent : SpendsWithin old.pass new.pass reply
