-- The leaves of the hits of a search.
use Rattle.std.specs.Prelude.{ℕ, List, map, flat_map}
use Rattle.facet_model.specs.Stored.{Records}
use Rattle.seg_grammar.specs.Lookups.{record_of}
use Rattle.sideways.specs.Counted.{PartLeft}

-- the leaves of the records at these places
abbrev pub leaves_at : Records → List ℕ → List (List ℕ)
leaves_at segment places = map (λ place. (record_of segment place).leaves) places

-- those of the records that the parts have left
abbrev pub leaves_of : List PartLeft → List (List ℕ)
leaves_of parts = flat_map (λ p. leaves_at p.segment p.left) parts
