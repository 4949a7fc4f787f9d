-- What a session's tokens are, and what they have seen of its pairs.
use Rattle.std.specs.Prelude.{◌≡◌, ℕ, List, All, length, take}
use Rattle.chronicle.specs.Shown.{mine}
use Rattle.facet_model.specs.ConfigTexts.{config_texts}
use Rattle.pair_manager.specs.declared.pass.Pass.{Pass}
use Rattle.pair_manager.specs.Published.{Published}

-- each token has the session's number
abbrev pub HaveOneNumber : ℕ → Pass → Type 0
HaveOneNumber number pass = (pass.labels.number ≡ number) × (pass.operations.number ≡ number)
    × (pass.pairs.number ≡ number) × (pass.commits.number ≡ number)

-- each operation that its token has entered has the session's number
abbrev pub NamesSession : ℕ → Pass → Type 0
NamesSession number pass = All (λ e. e.1.session ≡ number) (mine pass.operations)

-- these are the first of those
abbrev pub AreFirst : {A : Type 0} → List A → List A → Type 0
AreFirst some all = take (length some) all ≡ some

-- The operations and the labels of a pair are the first that the pass has seen, and its config is that of the pass.
pub record HasSeen (pass : Pass) (pair : Published) : Type 0 where
  pub operations : AreFirst pair.history.seen pass.operations.seen
  pub labels : AreFirst pair.labels.seen pass.labels.seen
  pub texts : config_texts pair.config ≡ pass.operations.frame.texts
