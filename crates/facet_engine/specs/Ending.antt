-- What there is at the end.
use Rattle.std.specs.Prelude.{◌≡◌, ◌≤◌, ℕ, All, IsTrue, map}
use Rattle.chronicle.specs.History.{entered_by}
use Rattle.facet_model.specs.Histories.{are_publications}
use Rattle.facet_output.specs.Seen.{Seen, labels_of, history_of}
use Rattle.facet_engine.specs.declared.notes.Notes.{Notes}

-- No entry is under a greater number.
pub record AreUpTo (made : ℕ) (seen : Seen) : Type 0 where
  pub labels : All (λ e. e.0 ≤ made) seen.labels
  pub operations : All (λ e. e.0 ≤ made) seen.operations
  pub pairs : All (λ e. e.0 ≤ made) seen.pairs
  pub commits : All (λ e. e.0 ≤ made) seen.commits

-- each operation that was entered under a number names the session of that number
abbrev pub NamesOwn : ℕ → Notes → Type 0
NamesOwn number notes = All (λ e. e.1.session ≡ number) (entered_by number notes.operations.seen)

-- no number of the pairs ever fell, and the labels of each cover its operations
abbrev pub ArePublished : Seen → Type 0
ArePublished seen = IsTrue (are_publications (labels_of seen) (history_of seen) (map (λ e. e.1) seen.pairs))
