-- What a commit guarantees.
use Rattle.std.specs.Prelude.{◌≡◌, ◌⊎◌, ℕ, List, Ok}
use Rattle.facet_disk.specs.Images.{Image}
use Rattle.facet_model.specs.Flags.{Config}
use Rattle.facet_model.specs.Stored.{Records}
use Rattle.store_opening.specs.Files.{files}

-- the files of an image are those of these labels and segments
abbrev pub HasFiles : Config → List (List (List ℕ)) → List Records → Image → Type 0
HasFiles config labels segments c = files config c ≡ Ok (record { labels = labels; segments = segments })

-- the pair before, the old segments under the new labels, or the pair after
abbrev pub HasOneOfThree : Config → List (List (List ℕ)) → List Records → List (List (List ℕ)) → List Records → Image
    → Type 0
HasOneOfThree config labels old_segments view segments c = HasFiles config labels old_segments c
    ⊎ HasFiles config view old_segments c ⊎ HasFiles config view segments c
