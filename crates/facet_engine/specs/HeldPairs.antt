-- The pairs that a session holds.
use Rattle.std.specs.Prelude.{◌≢◌, ℕ, if◌then◌else◌, not, List, map, filter, filter_map, slice_get, AllPairs, Option}
use Rattle.std.specs.Prelude.{Some, None}
use Rattle.std.specs.Str.{bytes_eq}
use Rattle.facet_output.specs.Held.{Held}
use Rattle.pair_manager.specs.Published.{Published, publication_of, numbers}

-- a pair under a name
pub record HeldPair : Type 0 where
  pub name : List ℕ
  pub pair : Published

-- no two have one name
abbrev pub AreNamedApart : List HeldPair → Type 0
AreNamedApart held = AllPairs (λ a b. a.name ≢ b.name) held

-- the pair under a name
abbrev pub pair_under : List HeldPair → List ℕ → Option Published
pair_under held name = slice_get (filter_map (λ h. if bytes_eq h.name name then Some h.pair else None) held) 0

-- those under other names
abbrev pub without : List HeldPair → List ℕ → List HeldPair
without held name = filter (λ h. not (bytes_eq h.name name)) held

-- how many operations and labels a pair has
abbrev pub numbers_of : Published → ℕ × ℕ
numbers_of pair = numbers (publication_of pair)

-- the numbers of all pairs, under their names
abbrev pub numbers_held : List HeldPair → Held
numbers_held held = map {B = List ℕ × (ℕ × ℕ)} (λ h. (h.name, numbers_of h.pair)) held
