-- What a run reads.
use Rattle.std.specs.Prelude.{◌≡◌, ◌≤◌, ◌+◌, ℕ, List, length, Ok}
use Rattle.std.specs.Io.KnownBytes.{Consumes, IsAtEnd}
use Rattle.facet_io.specs.declared.source.Source.{Ghosts as SourceGhosts}
use Rattle.facet_words.specs.Commands.{Script}
use Rattle.facet_words.specs.Scripts.{script}

-- the bytes that a script has at most
abbrev pub script_limit : ℕ
script_limit = 67108864

-- these bytes were read, which are not too long, and none is left
pub record ReadsWhole {S : Type 0} (source : SourceGhosts S) (from to : S) (input : List ℕ) : Type 0 where
  pub read : Consumes (source.left from) (source.left to) input
  pub end : IsAtEnd (source.left to)
  pub fits : length input ≤ script_limit

-- some bytes were read, at most one more than a script has
abbrev pub ReadsSome : {S : Type 0} → SourceGhosts S → S → S → Type 0
ReadsSome source from to = (input : List ℕ) × (length input ≤ script_limit + 1)
    × Consumes (source.left from) (source.left to) input

-- some bytes were read, at most as many as a script has
abbrev pub ReadsWithin : {S : Type 0} → SourceGhosts S → S → S → Type 0
ReadsWithin source from to =
    (input : List ℕ) × (length input ≤ script_limit) × Consumes (source.left from) (source.left to) input

-- one byte more than a script has was read
abbrev pub ReadsTooMuch : {S : Type 0} → SourceGhosts S → S → S → Type 0
ReadsTooMuch source from to =
    (input : List ℕ) × (length input ≡ script_limit + 1) × Consumes (source.left from) (source.left to) input

-- what was read is a script
abbrev pub ReadsScript : {S : Type 0} → SourceGhosts S → S → S → Type 0
ReadsScript source from to = (input : List ℕ) × (is : Script) × ReadsWhole source from to input × (script input ≡ Ok is)
