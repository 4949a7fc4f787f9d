-- What a pass keeps that has only seen more.
use Rattle.std.proofs.Common.{◌∙◌, ℕ, ap}
use Rattle.chronicle.specs.Frame.{Frame}
use Rattle.chronicle.specs.Shown.{Shown, SameToken}
use Rattle.pair_manager.specs.declared.pass.Pass.{Pass}
use Rattle.pair_manager.specs.Passes.{SamePass}
use Rattle.facet_words.specs.Commands.{Settings}
use Rattle.facet_engine.specs.declared.session.Session.{Session}
use Rattle.facet_engine.specs.Calls.{SameSession}
use Rattle.facet_engine.specs.Sessions.{HaveOneNumber}
use Rattle.facet_engine.specs.Systems.{Engine, HasSettings}
use Rattle.facet_engine.specs.Exchange.{HaveMade}

pub still_set : (engine : Engine) (old new : Pass) (settings : Settings) → SamePass old new → HasSettings engine old settings → HasSettings engine new settings
still_set engine old new settings same has = record { config = has.config; max_docs = ap (λ (f : Frame). f.numbers) same.operations.4 ∙ has.max_docs; max_labels = has.max_labels }

pub still_numbered : (n : ℕ) (old new : Pass) → SamePass old new → HaveOneNumber n old → HaveOneNumber n new
still_numbered n old new same have = (same.labels.0 ∙ have.0, same.operations.0 ∙ have.1, same.pairs.0 ∙ have.2, same.commits.0 ∙ have.3)

pub still_made : (n : ℕ) (old new : Pass) → SamePass old new → HaveMade n old → HaveMade n new
still_made n old new same have = (same.labels.1 ∙ have.0, same.operations.1 ∙ have.1, same.pairs.1 ∙ have.2, same.commits.1 ∙ have.3)

token_then : {E : Type 0} (a b c : Shown E) → SameToken a b → SameToken b c → SameToken a c
token_then a b c p q = (q.0 ∙ p.0, q.1 ∙ p.1, q.2 ∙ p.2, q.3 ∙ p.3, q.4 ∙ p.4, q.5 ∙ p.5)

pub pass_then : (a b c : Pass) → SamePass a b → SamePass b c → SamePass a c
pass_then a b c p q = record {
  labels = token_then a.labels b.labels c.labels p.labels q.labels;
  operations = token_then a.operations b.operations c.operations p.operations q.operations;
  pairs = token_then a.pairs b.pairs c.pairs p.pairs q.pairs;
  commits = token_then a.commits b.commits c.commits p.commits q.commits;
}

pub session_then : (a b c : Session) → SameSession a b → SameSession b c → SameSession a c
session_then a b c p q = (q.0 ∙ p.0, pass_then a.pass b.pass c.pass p.1 q.1)
