-- What never changes of an index.
use Rattle.std.specs.Prelude.{ℕ, [], ◌∷◌}
use Rattle.atomic_table.specs.Seated.{TableId}
use Rattle.chronicle.specs.Frame.{Frame}
use Rattle.facet_model.specs.ConfigTexts.{config_texts}
use Rattle.facet_model.specs.Flags.{Config}
use Rattle.index_state.specs.Index.{Index}

-- the texts of its config, how many documents there may be, and its labels chronicle
abbrev pub index_frame : Config → ℕ → TableId → Frame
index_frame config max_docs labels = record {
  numbers = max_docs ∷ [];
  texts = config_texts config;
  identities = labels ∷ [];
}

abbrev pub frame_of : Index → Frame
frame_of index = index_frame index.config index.max_docs index.labels.identity
