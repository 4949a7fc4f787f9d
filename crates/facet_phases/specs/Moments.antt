-- What is written to a sink between two moments.
use Rattle.std.specs.Prelude.{◌≡◌, ℕ, List, take, Option}
use Rattle.std.specs.Io.KnownBytes.{Appends}
use Rattle.facet_io.specs.Faults.{Rose}

-- a sink's count of faults, and what was written to it, where it reports that
pub record Moment : Type 0 where
  pub faults : ℕ
  pub written : Option (List ℕ)

abbrev pub moment : ℕ → Option (List ℕ) → Moment
moment faults written = record { faults = faults; written = written }

-- these bytes were written, and there was no fault
abbrev pub Writes : Moment → Moment → List ℕ → Type 0
Writes before now bytes = Appends before.written now.written bytes × (now.faults ≡ before.faults)

-- a beginning of them was written, and there was a fault
abbrev pub WritesSome : Moment → Moment → List ℕ → Type 0
WritesSome before now bytes =
    Rose before.faults now.faults × ((n : ℕ) × Appends before.written now.written (take n bytes))
