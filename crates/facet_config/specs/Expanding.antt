-- What expanding a document's labels needs and returns.
use Rattle.std.specs.Prelude.{◌≡◌, ℕ, List, length, nat_eq}
use Rattle.std.specs.List.{AllZip, list_any}
use Rattle.facet_names.specs.Labels.{IsLabelList}
use Rattle.facet_model.specs.Flags.{Config}
use Rattle.facet_model.specs.CountedPaths.{AreResolved, counted_ordinals, ordinals_of_labels}

-- each label has as many ordinals as components
abbrev pub AreAsLong : List (List (List ℕ)) → List (List ℕ) → Type 0
AreAsLong labels resolved = AllZip (λ label ords. length ords ≡ length label) labels resolved

-- The ordinals that are counted for the labels, each once. In a label list with the prefixes at these ordinals they are
-- those of the counted paths.
pub record AreExpanded (config : Config) (labels : List (List (List ℕ))) (resolved : List (List ℕ))
    (ords : List ℕ) : Type 0 where
  pub members : (ord : ℕ) → list_any (nat_eq ord) ords
      ≡ list_any (nat_eq ord) (ordinals_of_labels config labels resolved)
  pub paths : (known : List (List (List ℕ))) → IsLabelList known → AreResolved known labels resolved
      → ords ≡ counted_ordinals known config labels
