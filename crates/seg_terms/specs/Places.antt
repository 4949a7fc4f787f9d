-- Terms with their places as plain data.
use Rattle.std.specs.Prelude.{ℕ, ◌≤◌, List, length, string_bytes}
use Rattle.seg_terms.specs.declared.term_places.TermPlaces.{TermPlaces}

-- the term's bytes, and the places
abbrev pub term_view : TermPlaces → List ℕ × List ℕ
term_view t = (string_bytes t.term, t.places.items)

-- the term has at most 65,568 bytes: `f` and the longest text of a path
abbrev pub IsShortTerm : List ℕ → Type 0
IsShortTerm term = length term ≤ 65568
