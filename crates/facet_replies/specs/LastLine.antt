-- The last line of an output.
use Rattle.std.specs.Prelude.{ℕ, List, [], ◌∷◌, codes, drop, unwrap_or}
use Rattle.serde_json.specs.Data.{Data, string, array, no_items, item}
use Rattle.facet_names.specs.Labels.{place, above}
use Rattle.facet_names.specs.Paths.{last_part}
use Rattle.facet_replies.specs.ReplyLines.{fields, whole_data, list_data, json_line}

-- [a, b]
abbrev pub two_data : Data → Data → Data
two_data a b = array (item a (item b no_items))

-- [the parent's ordinal, the last component]
abbrev pub label_data : List (List (List ℕ)) → List (List ℕ) → Data
label_data labels path = two_data (whole_data (unwrap_or (place labels (above path)) 0)) (string (last_part path))

-- the labels after those that were opened, how many documents and labels were opened, and the sessions of the
-- operations
unfoldable pub last_data : ℕ → ℕ → List (List (List ℕ)) → List ℕ → Data
last_data documents opened labels sessions = fields (
    (codes "labels", list_data (label_data labels) (drop opened labels))
    ∷ (codes "opened", two_data (whole_data documents) (whole_data opened))
    ∷ (codes "order", list_data whole_data sessions)
    ∷ [])

-- their line
unfoldable pub last_line : ℕ → ℕ → List (List (List ℕ)) → List ℕ → List ℕ
last_line documents opened labels sessions = json_line (last_data documents opened labels sessions)
