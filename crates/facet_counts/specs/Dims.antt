-- The results of dimensions, in any order.
use Rattle.std.specs.Prelude.{◌≡◌, ◌==◌, ℕ, Bool, true, false, not, List, [], ◌∷◌, length, filter, Option, None}
use Rattle.std.specs.Prelude.{option_to_list}
use Rattle.facet_names.specs.Paths.{path_eq}
use Rattle.facet_model.specs.Documents.{Doc}
use Rattle.facet_model.specs.Flags.{Config}
use Rattle.facet_model.specs.Results.{Listed, IsTop}

-- Each dimension that passes has its result once, if it has one, over its own documents. No other dimension has any.
pub record AreDims (among : List ℕ → Bool) (config : Config) (docs_of : List ℕ
    → List Doc) (n : ℕ) (results : List Listed) : Type 0 where
  pub each : (dim : List ℕ) → (r : Option Listed) × (among dim ≡ true → IsTop config (docs_of dim) (dim ∷ []) n r)
      × (among dim ≡ false → r ≡ None)
      × (filter (λ x. path_eq x.path (dim ∷ [])) results ≡ option_to_list r)
  pub alone : filter (λ x. not (length x.path == 1)) results ≡ []
