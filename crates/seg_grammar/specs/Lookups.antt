-- What a segment has of one document and of one term.
use Rattle.std.specs.Prelude.{ℕ, List, [], Option, slice_index_or}
use Rattle.std.specs.Option.{option_map}
use Rattle.std.specs.List.{find}
use Rattle.std.specs.Str.{bytes_eq}
use Rattle.facet_model.specs.Stored.{Stored, Records}

-- the record of a document, if it is there
abbrev pub record_of : Records → ℕ → Stored
record_of r doc = slice_index_or r.records doc (record { id = []; text = []; leaves = []; counted = [] })

-- the places of a term; none if there is no such term
abbrev pub places_of_term : List (List ℕ × List ℕ) → List ℕ → Option (List ℕ)
places_of_term terms term = option_map (λ t. t.1) (find (λ t. bytes_eq term t.0) terms)
