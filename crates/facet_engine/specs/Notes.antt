-- What notes show, and whose they are.
use Rattle.std.specs.Prelude.{◌≡◌, map}
use Rattle.facet_output.specs.Seen.{Seen}
use Rattle.pair_manager.specs.Published.{numbers}
use Rattle.facet_engine.specs.declared.notes.Notes.{Notes}
use Rattle.facet_engine.specs.Steps.{point_of}
use Rattle.facet_engine.specs.Systems.{Engine}

-- what the pass had seen of which they are notes
abbrev pub noted : Notes → Seen
noted notes = record {
  labels = notes.labels.seen;
  operations = map (λ e. (e.0, e.1.change)) notes.operations.seen;
  pairs = map (λ e. (e.0, numbers e.1)) notes.pairs.seen;
  commits = map (λ e. (e.0, point_of e.1)) notes.commits.seen;
}

-- They are notes of the system's chronicles.
pub record AreOf (engine : Engine) (notes : Notes) : Type 0 where
  pub labels : notes.labels.identity ≡ engine.manager.writer.labels
  pub operations : notes.operations.identity ≡ engine.manager.operations
  pub pairs : notes.pairs.identity ≡ engine.manager.pairs
  pub commits : notes.commits.identity ≡ engine.commits
