-- The pair at which a session looks.
use Rattle.std.specs.Prelude.{◌≡◌, ℕ, List, Option, Some, None}
use Rattle.chronicle.specs.History.{entries}
use Rattle.facet_output.specs.Effects.{looks, effect}
use Rattle.facet_output.specs.Replies.{Reply}
use Rattle.facet_output.specs.Replying.{IsLooked}
use Rattle.facet_output.specs.Seen.{history_of, labels_of}
use Rattle.facet_output.specs.Steps.{IsStep}
use Rattle.facet_words.specs.Commands.{Settings, Command}
use Rattle.pair_manager.specs.declared.pass.Pass.{Pass}
use Rattle.pair_manager.specs.Published.{Published, IsLast, publication_of}
use Rattle.facet_engine.specs.declared.session.Session.{Session}
use Rattle.facet_engine.specs.HeldPairs.{pair_under, numbers_held, numbers_of}
use Rattle.facet_engine.specs.Sessions.{HasSeen}
use Rattle.facet_engine.specs.Steps.{last_pair, seen_of, taking}
use Rattle.facet_engine.specs.Systems.{Engine, HasSettings}

-- with a name, the session holds the pair under it; without one, the pair was published last
abbrev pub IsNamed : Option (List ℕ) → Session → Pass → Published → Type 0
IsNamed (Some name) session pass pair = pair_under session.held name ≡ Some pair
IsNamed None session pass pair = IsLast (publication_of pair) (entries pass.pairs.seen)

-- The session looks at this pair. Its operations and labels are the first that the session has seen by then.
abbrev pub IsPairAt : Option (List ℕ) → Session → Pass → Published → Type 0
IsPairAt on session pass pair = IsNamed on session pass pair × HasSeen pass pair

-- without a name a command takes the last pair
abbrev pub took_at : Option (List ℕ) → Pass → Option (ℕ × ℕ)
took_at (Some name) pass = None
took_at None pass = last_pair pass

-- A command that looks there is a step of the session, if its reply is right for the pair.
abbrev pub IsLook : Engine → Option (List ℕ) → Session → Pass → Published → Type 0
IsLook engine on session pass pair = (settings : Settings) (phase line : ℕ) (command : Command) (reply : Reply)
    → HasSettings engine session.pass settings → effect command ≡ looks on
    → IsLooked settings (labels_of (seen_of pass)) (history_of (seen_of pass)) command (numbers_of pair) reply
    → IsStep settings (numbers_held session.held)
    (taking command (took_at on pass) reply session.pass pass phase line)

-- the session holds nothing under the name
abbrev pub IsNotHeld : Option (List ℕ) → Session → Type 0
IsNotHeld on session = (name : List ℕ) × (on ≡ Some name) × (pair_under session.held name ≡ None)
