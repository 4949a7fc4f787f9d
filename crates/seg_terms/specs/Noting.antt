-- Noting documents under terms, in a table of terms with their places.
use Rattle.std.specs.Prelude.{◌≡◌, ◌-◌, ◌++◌, ℕ, List, [], ◌∷◌, Bool, false, String, string_bytes, Option, Some, None}
use Rattle.std.specs.Prelude.{unwrap_or, map, filter, codes, length, nat_eq, nat_lt, slice_get, if◌then◌else◌}
use Rattle.std.specs.declared.alloc.Global.{Global}
use Rattle.std.specs.declared.vec.Vec.{Vec}
use Rattle.std.specs.List.{list_any}
use Rattle.std.specs.Map.{lookup}
use Rattle.std.specs.Option.{option_map_or}
use Rattle.std.specs.Str.{bytes_eq}
use Rattle.facet_names.specs.Terms.{term_text}

-- terms, each once, with their places
abbrev pub Table : Type 0
Table = List (List ℕ × List ℕ)

-- the entries of a map as plain data
abbrev pub table_of : List (String Global × Vec ℕ Global) → Table
table_of entries = map (λ e. (string_bytes e.0, e.1.items)) entries

-- the places of a term
abbrev pub found : Table → List ℕ → Option (List ℕ)
found table term = lookup (bytes_eq term) table

-- the last of these is the place
abbrev pub ends_with : List ℕ → ℕ → Bool
ends_with places place = option_map_or (nat_eq place) (slice_get places (length places - 1)) false

-- these places, and after them the place unless it is the last one
abbrev pub put_place : List ℕ → ℕ → List ℕ
put_place places place = if ends_with places place then places else places ++ place ∷ []

-- the places of a term that the document at this place has
abbrev pub with_place : Option (List ℕ) → ℕ → Option (List ℕ)
with_place None place = Some (place ∷ [])
with_place (Some places) place = Some (put_place places place)

-- the new table is the old one with the place under each of the terms
abbrev pub AreNoted : ℕ → List (List ℕ) → Table → Table → Type 0
AreNoted place terms old new = (t : List ℕ) → found new t ≡ (if list_any (bytes_eq t) terms
    then with_place (found old t) place else found old t)

-- these places after those of a term, if there are any
abbrev pub behind : Option (List ℕ) → List ℕ → Option (List ℕ)
behind places [] = places
behind places (p ∷ ps) = Some (unwrap_or places [] ++ p ∷ ps)

-- the new table is the old one with these places after those of the term
abbrev pub AreNotedBehind : List ℕ → List ℕ → Table → Table → Type 0
AreNotedBehind term places old new = (t : List ℕ) → found new t
    ≡ (if bytes_eq t term then behind (found old t) places else found old t)

-- the terms of the pieces of a text between blanks
abbrev pub piece_terms : List (List ℕ) → List (List ℕ)
piece_terms pieces = map (λ w. codes "w" ++ w) (filter (λ w. nat_lt 0 (length w)) pieces)

-- the terms of label paths
abbrev pub path_terms : List (List (List ℕ)) → List (List ℕ)
path_terms paths = map (λ p. codes "f" ++ term_text p) paths
