-- The declarations of a config as plain data.
use Rattle.std.specs.Prelude.{◌≤◌, ℕ, List, length, map, String, string_bytes}
use Rattle.std.specs.List.{AllByRecursion}
use Rattle.std.specs.declared.alloc.Global.{Global}
use Rattle.facet_model.specs.declared.flags.DimFlags.{DimFlags}
use Rattle.facet_model.specs.Flags.{Config}

-- each dimension's name and flags
abbrev pub declarations : List (String Global × DimFlags) → Config
declarations entries = map (λ e. (string_bytes e.0, e.1)) entries

-- the name of a declared dimension has 1 to 1,024 bytes
abbrev pub IsDimension : List ℕ → Type 0
IsDimension dim = (1 ≤ length dim) × (length dim ≤ 1024)

-- each declared dimension has such a name
abbrev pub AreDimensions : Config → Type 0
AreDimensions config = AllByRecursion (λ d. IsDimension d.0) config
