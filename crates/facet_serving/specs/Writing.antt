-- What a run writes at its end.
use Rattle.std.specs.Prelude.{◌≡◌, ◌++◌, ◌⊎◌, ℕ, List, take}
use Rattle.std.specs.Io.KnownBytes.{Appends}
use Rattle.facet_io.specs.Faults.{Rose}
use Rattle.facet_io.specs.declared.sink.Sink.{Ghosts as SinkGhosts}
use Rattle.store_opening.specs.declared.fault.OpenFault.{OpenFault}
use Rattle.facet_serving.specs.Statuses.{IsOpenLine}

-- the line was written and no fault counted, or where the count of faults rose a prefix of it
abbrev pub WritesLine : {K : Type 0} → SinkGhosts K → K → K → List ℕ → Type 0
WritesLine sink before now line =
    (Appends (sink.written before) (sink.written now) line × (sink.faults now ≡ sink.faults before))
    ⊎ (Rose (sink.faults before) (sink.faults now)
    × ((n : ℕ) × Appends (sink.written before) (sink.written now) (take n line)))

-- the lines were written and then one more, and no fault counted, or where the count of faults rose a prefix of that
-- one
abbrev pub WritesBehind : {K : Type 0} → SinkGhosts K → K → K → List ℕ → List ℕ → Type 0
WritesBehind sink before now lines line =
    (Appends (sink.written before) (sink.written now) (lines ++ line) × (sink.faults now ≡ sink.faults before))
    ⊎ (Rose (sink.faults before) (sink.faults now)
    × ((n : ℕ) × Appends (sink.written before) (sink.written now) (lines ++ take n line)))

-- a line that says why a store was not opened was written and no fault counted, or where the count of faults rose a
-- prefix of it
pub record WritesOpenLine {K : Type 0} (sink : SinkGhosts K) (before now : K) (fault : OpenFault) : Type 0 where
  pub line : List ℕ
  pub is : IsOpenLine fault line
  pub written : WritesLine sink before now line
