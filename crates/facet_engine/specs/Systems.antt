-- A system as contracts see it, and whose a pass is.
use Rattle.std.specs.Prelude.{◌≡◌, [], ◌∷◌, ℕ}
use Rattle.atomic_table.specs.Seated.{TableId}
use Rattle.facet_model.specs.ConfigTexts.{config_texts}
use Rattle.facet_model.specs.Flags.{Config}
use Rattle.facet_words.specs.Commands.{Settings}
use Rattle.pair_manager.specs.declared.pass.Pass.{Pass}
use Rattle.pair_manager.specs.Passes.{Managed, IsOf}

-- its chronicles, the config of its documents, and how many documents and labels were opened
pub record Engine : Type 0 where
  pub manager : Managed
  pub commits : TableId
  pub config : Config
  pub opened : ℕ × ℕ

-- The tokens are of the system's chronicles, whose values have its config.
pub record BelongsTo (engine : Engine) (pass : Pass) : Type 0 where
  pub manager : IsOf engine.manager pass
  pub commits : pass.commits.identity ≡ engine.commits
  pub config : config_texts engine.config ≡ pass.operations.frame.texts

-- The system was opened with these settings.
pub record HasSettings (engine : Engine) (pass : Pass) (settings : Settings) : Type 0 where
  pub config : settings.config ≡ engine.config
  pub max_docs : pass.operations.frame.numbers ≡ settings.max_docs ∷ []
  pub max_labels : settings.max_labels ≡ engine.manager.writer.limit
