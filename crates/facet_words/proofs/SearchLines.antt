-- A search of a session, of its two parts.
use Rattle.std.proofs.Common.{◌≡◌, ℕ, List, [], ◌∷◌, Option, Some, option_map}
use Rattle.std.specs.Prelude.{codes}
use Rattle.serde_json.specs.Data.{Data}
use Rattle.facet_words.specs.Commands.{Search, search}
use Rattle.facet_words.specs.CommandLines.{search_with, on_of, search_of}
use Rattle.facet_words.specs.Shapes.{◌>>=◌}

pub searched : (d : Data) (on : Option (List ℕ)) (s : Option Search) → Some on ≡ on_of d
    → s ≡ search_with (codes "cmd" ∷ codes "s" ∷ codes "on" ∷ codes "query" ∷ codes "drill" ∷ codes "sideways" ∷ codes "ask" ∷ codes "newest" ∷ codes "show" ∷ codes "from" ∷ codes "hits" ∷ []) d → option_map (search on) s ≡ search_of d
unfolding search_of
searched d on s e f = λ i. e i >>= (λ on. option_map (search on) (f i))
