-- The names that changes give files. A file's number is below 2^64.
use Rattle.std.specs.Prelude.{List, [], ◌∷◌, Bool, nat_lt, ◌^◌}
use Rattle.std.specs.List.{list_all}
use Rattle.facet_disk.specs.declared.name.FileName.{FileName}
use Rattle.facet_disk.specs.declared.change.Change.{Change}
use Rattle.facet_disk.specs.declared.change.Change.TheVariants.{Put, Renamed}

-- the new name of a change, if it gives one
abbrev pub made : Change → List FileName
made (Put name bytes) = name ∷ []
made (Renamed from to) = to ∷ []
made _ = []

-- its number fits
abbrev pub are_numbered : Change → Bool
are_numbered change = list_all (λ (name : FileName). nat_lt name.number (2 ^ 64)) (made change)
