-- The list of a clock, given its list before its last tick.
use Rattle.std.specs.Prelude.{ℕ, List, [], ◌∷◌, ◌++◌, Option, Some, None}
use Rattle.std.specs.declared.snapshot.Snapshot.{Snapshot}

abbrev pub ticks : Option (Snapshot (List ℕ)) → ℕ → List ℕ
ticks None last = []
ticks (Some before) last = before.value ++ last ∷ []
