-- What was got of the first line.
use Rattle.std.specs.Prelude.{◌≡◌, ◌∷◌, ◌⊎◌, ℕ, List}
use Rattle.std.specs.Io.KnownBytes.{Consumes, IsAtEnd}
use Rattle.facet_words.specs.Lines.{lines_of}
use Rattle.live_io.specs.declared.duplex.Duplex.{Ghosts}
use Rattle.live_serving.specs.Lines.{whole_lines}

-- These bytes were got, of which this is the first line and these are the lines behind it. The first line is whole.
pub record ReadsFirst {X : Type 0} (io : Ghosts X) (from to : X) (got first : List ℕ) (rest : List (List ℕ)) : Type 0
  where
    pub taken : Consumes (io.left from) (io.left to) got
    pub lines : lines_of got ≡ first ∷ rest
    pub whole : ((more : List (List ℕ)) × (whole_lines got ≡ first ∷ more)) ⊎ IsAtEnd (io.left to)
