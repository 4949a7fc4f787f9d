-- Lists of ordinals, one for each document, and how many of them count for an ordinal.
use Rattle.std.specs.Prelude.{◌≡◌, ◌≢◌, ◌<◌, ◌&&◌, ◌||◌, ℕ, zero, suc, Bool, true, false, not, nat_eq, if◌then◌else◌}
use Rattle.std.specs.Prelude.{List, [], length, slice_index_or, count_by, All, IsTrue}
use Rattle.std.specs.List.{list_any, AllPairs}
use Rattle.std.specs.Option.{option_map_or}
use Rattle.facet_names.specs.Arrays.{parent_at}
use Rattle.facet_model.specs.Flags.{Config, flags}
use Rattle.facet_model.specs.Documents.{Doc, dim_of}
use Rattle.facet_model.specs.Accepts.{Accepts}
use Rattle.facet_model.specs.Histories.{knows}
use Rattle.facet_model.specs.CountedPaths.{counted_ordinals}

-- the dimension of the label at an ordinal
abbrev pub dim_at : List (List (List ℕ)) → ℕ → List ℕ
dim_at labels ord = dim_of (slice_index_or labels ord [])

-- counts are rolled up in dimensions that are hierarchical and not multi-valued
abbrev pub is_rolled : Config → List (List (List ℕ)) → ℕ → Bool
is_rolled config labels ord = (flags config (dim_at labels ord)).hierarchical
    && not (flags config (dim_at labels ord)).multi_valued

-- the ordinal is the other one, or among its parent, that one's parent and so on, that many steps up
abbrev pub is_above : List (List (List ℕ)) → ℕ → ℕ → ℕ → Bool
is_above labels zero ord other = nat_eq ord other
is_above labels (suc steps) ord other = nat_eq ord other
    || option_map_or (is_above labels steps ord) (parent_at labels other) false

-- Whether a list counts for an ordinal. Where counts are rolled up it has an ordinal that is this one or has it among
-- its ancestors; elsewhere it has this one. A parent is smaller than its child, so as many steps as the ordinal says
-- lead to the root.
abbrev pub counts_for : Config → List (List (List ℕ)) → ℕ → List ℕ → Bool
counts_for config labels ord list =
    if is_rolled config labels ord then list_any (λ other. is_above labels other ord other) list
    else list_any (nat_eq ord) list

-- how many lists count for the ordinal
abbrev pub lists_at : Config → List (List (List ℕ)) → List (List ℕ) → ℕ → ℕ
lists_at config labels lists ord = count_by (counts_for config labels ord) lists

-- Ordinals that may be counted for one document: distinct, of labels after the root, and at most one in a dimension
-- that is not multi-valued.
pub record IsCounted (config : Config) (labels : List (List (List ℕ))) (list : List ℕ) : Type 0 where
  pub within : All (λ ord. (0 < ord) × (ord < length labels)) list
  pub distinct : AllPairs (λ a b. a ≢ b) list
  pub alone : AllPairs (λ a b. dim_at labels a ≡ dim_at labels b
      → (flags config (dim_at labels a)).multi_valued ≡ true) list

-- The config accepts the document, its labels and all their prefixes are known, and the list has the ordinals that are
-- counted for it.
pub record IsListOf (config : Config) (labels : List (List (List ℕ))) (list : List ℕ) (doc : Doc) : Type 0 where
  pub accepted : Accepts config doc
  pub known : IsTrue (knows labels doc)
  pub counted : list ≡ counted_ordinals labels config doc.labels
