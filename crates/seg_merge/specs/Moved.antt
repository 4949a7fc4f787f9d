-- The places of a segment's records in the segment that it becomes a part of.
use Rattle.std.specs.Prelude.{ℕ, ◌+◌, List, [], ◌∷◌, ◌++◌, length, if◌then◌else◌}
use Rattle.std.specs.List.{flat_map}
use Rattle.std.specs.Str.{bytes_eq}
use Rattle.facet_model.specs.Stored.{Records, is_dead, live_before, alive}

-- those of live records among these places, where so many live records come before the segment's
abbrev pub moved : ℕ → List ℕ → List ℕ → List ℕ
moved base dead [] = []
moved base dead (p ∷ ps) =
    if is_dead dead p then moved base dead ps else (base + live_before dead p) ∷ moved base dead ps

-- the places under each entry of this text
abbrev pub all_places : List (List ℕ × List ℕ) → List ℕ → List ℕ
all_places terms text = flat_map (λ t. if bytes_eq text t.0 then t.1 else []) terms

-- the places of the live records that have a term, one segment after the other
abbrev pub places_in : ℕ → List Records → List ℕ → List ℕ
places_in base [] text = []
places_in base (s ∷ ss) text = moved base s.dead (all_places s.terms text)
    ++ places_in (base + length (alive s.dead s.records)) ss text
