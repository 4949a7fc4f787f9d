-- What the value of the config line is: the settings.
use Rattle.std.specs.Prelude.{ℕ, not, Bool, false, List, [], ◌∷◌, codes, map, take, Option}
use Rattle.std.specs.List.{list_any, list_all, enumerate_from}
use Rattle.std.specs.Str.{bytes_eq}
use Rattle.serde_json.specs.Data.{Data}
use Rattle.serde_json.specs.Find.{as_bool}
use Rattle.facet_model.specs.declared.flags.DimFlags.{DimFlags}
use Rattle.facet_model.specs.Flags.{Config}
use Rattle.facet_words.specs.Commands.{Settings}
use Rattle.facet_words.specs.Shapes.{◌>>=◌, when, text_within, whole_within, list_of, key, key_or, keys_among}

-- a dimension and its flags
unfoldable pub dimension_of : Data → Option (List ℕ × DimFlags)
dimension_of d = do
  dim ← key (codes "dim") (text_within 1 1024) d
  hierarchical ← key_or (codes "hierarchical") false as_bool d
  multi_valued ← key_or (codes "multi_valued") false as_bool d
  require_dim_count ← key_or (codes "require_dim_count") false as_bool d
  when (keys_among (codes "dim" ∷ codes "hierarchical" ∷ codes "multi_valued" ∷ codes "require_dim_count" ∷ []) d)
      (dim, record { hierarchical = hierarchical; multi_valued = multi_valued; require_dim_count = require_dim_count })

-- the name at a place differs from all before it
abbrev pub is_new : List (List ℕ) → ℕ × List ℕ → Bool
is_new names e = not (list_any (bytes_eq e.1) (take e.0 names))

-- these declarations, if no two have one name
abbrev pub config_from : Config → Option Config
config_from dims = when (list_all (is_new (map (λ d. d.0) dims)) (enumerate_from 0 (map (λ d. d.0) dims))) dims

unfoldable pub settings_of : Data → Option Settings
settings_of d = do
  dims ← key_or (codes "dims") [] (list_of dimension_of) d
  config ← config_from dims
  max_docs ← key_or (codes "max_docs") 1000000 (whole_within 1 1000000) d
  max_labels ← key_or (codes "max_labels") 1000000 (whole_within 1 1000000) d
  stripes ← key_or (codes "stripes") 16 (whole_within 1 64) d
  cache ← key_or (codes "cache") 4096 (whole_within 1 65536) d
  auto_merge ← key_or (codes "auto_merge") false as_bool d
  when (keys_among (codes "cmd" ∷ codes "dims" ∷ codes "max_docs" ∷ codes "max_labels" ∷ codes "stripes" ∷ codes "cache"
      ∷ codes "auto_merge" ∷ []) d)
      (record {
        config = config;
        max_docs = max_docs;
        max_labels = max_labels;
        stripes = stripes;
        cache = cache;
        auto_merge = auto_merge;
      })
