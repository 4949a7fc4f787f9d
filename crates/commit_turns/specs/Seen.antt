-- What tokens have seen.
use Rattle.std.specs.Prelude.{◌≡◌, ℕ, false, List}
use Rattle.chronicle.specs.History.{entries}
use Rattle.chronicle.specs.Shown.{Shown, SameToken, SeesOn}
use Rattle.facet_model.specs.Documents.{Doc}
use Rattle.facet_model.specs.Histories.{Operation, docs}

-- the documents that the operations leave that a token has seen
abbrev pub docs_of : List (ℕ × Operation) → List Doc
docs_of seen = docs (entries seen)

-- the same token, which may have seen more of others, and holds no turn
abbrev pub ComesBack : {E : Type 0} → Shown E → Shown E → Type 0
ComesBack old new = SameToken old new × SeesOn old new × (new.holds_turn ≡ false)
