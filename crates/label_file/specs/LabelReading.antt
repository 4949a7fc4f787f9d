-- Reading the labels of a taxonomy segment from left to right. A fault is its place.
use Rattle.std.specs.Prelude.{◌≡◌, ◌≤◌, ◌⊎◌, ℕ, zero, suc, ◌||◌, List, [], ◌∷◌, ◌++◌, length, Option, Some, None}
use Rattle.std.specs.Prelude.{is_some, slice_get, option_and_then, Result, Ok, Err, ◌==◌, nat_lt, if◌then◌else◌}
use Rattle.std.specs.Option.{option_map}
use Rattle.facet_names.specs.Faults.{path_fault}
use Rattle.facet_names.specs.Labels.{stands}
use Rattle.facet_codec.specs.declared.fault.CodecFault.{CodecFault}
use Rattle.facet_codec.specs.Places.{Place}
use Rattle.facet_codec.specs.Faults.{fault_at, told_as}
use Rattle.facet_codec.specs.Reading.{◌>>=◌, u32_at, text_at}
use Rattle.label_file.specs.declared.fault.LabelsFault.{LabelsFault}
use Rattle.label_file.specs.declared.fault.LabelsFault.TheVariants.{Malformed, NoMemory}

-- ---- what a call returns

-- Unless memory ran out, the fault is that of reading.
abbrev pub Fails : {Y : Type 0} → LabelsFault → Result Y ℕ → Type 0
Fails (Malformed at) read = read ≡ Err at
Fails NoMemory read = Unit {0}

-- ---- numbers and paths

-- a value of the codec; its fault is its place
abbrev pub codec : {A : Type 0} → Result A CodecFault → Result A ℕ
codec read = told_as fault_at read

-- the place after four bytes that are this number
unfoldable pub behind : ℕ → Place → Result Place ℕ
behind wanted p = do
  number ← codec (u32_at p)
  if number.0 == wanted then Ok number.1 else Err p.at

-- a component below the label at an ordinal, if there is such a label
abbrev pub joined : List (List (List ℕ)) → ℕ → List ℕ → Option (List (List ℕ))
joined labels parent part = option_map (λ above. above ++ part ∷ []) (slice_get labels parent)

-- a path that may be added; none if it is not a path or is there already
abbrev pub addable : List (List (List ℕ)) → List (List ℕ) → Option (List (List ℕ))
addable labels path = if is_some (path_fault path) || stands labels path then None else Some path

-- the path of a component below the label at an ordinal, if it may be added
unfoldable pub path_below : List (List (List ℕ)) → ℕ → List ℕ → Option (List (List ℕ))
path_below labels parent part = option_and_then (addable labels) (joined labels parent part)

-- a value with the place after it, or a fault if there is none
abbrev pub or_fault : {A : Type 0} → ℕ → Place → Option A → Result (A × Place) ℕ
or_fault at p (Some x) = Ok (x, p)
or_fault at p None = Err at

-- ---- labels

-- the ordinal of a parent, which has to be below the number of labels
unfoldable pub parent_at : ℕ → Place → Result (ℕ × Place) ℕ
parent_at known p = do
  parent ← codec (u32_at p)
  if nat_lt parent.0 known then Ok parent else Err p.at

-- the path of the next label
unfoldable pub label_at : List (List (List ℕ)) → Place → Result (List (List ℕ) × Place) ℕ
label_at labels p = do
  parent ← parent_at (length labels) p
  part ← codec (text_at 4294967295 parent.1)
  or_fault p.at part.1 (path_below labels parent.0 part.0)

-- the labels with so many more
unfoldable pub labels_at : ℕ → List (List (List ℕ)) → Place → Result (List (List (List ℕ)) × Place) ℕ
labels_at zero labels p = Ok (labels, p)
labels_at (suc n) labels p = do
  first ← label_at labels p
  labels_at n (labels ++ first.0 ∷ []) first.1

-- These labels are the known ones and at most so many that are read from a place on.
pub record AreFirst (count : ℕ) (known : List (List (List ℕ))) (start : Place)
    (labels : List (List (List ℕ))) : Type 0 where
  pub number : ℕ
  pub few : number ≤ count
  pub end : Place
  pub read : labels_at number known start ≡ Ok (labels, end)

-- ---- all of it

-- `FTAX`, the version, the ordinal of the first label, and how many there are, which is not 0
unfoldable pub head_at : ℕ → ℕ → Place → Result Place ℕ
head_at first count p = do
  magic ← behind 0x46544158 p
  version ← behind 1 magic
  number ← behind first version
  many ← behind count number
  if count == 0 then Err number.at else Ok many

-- The known labels and those of the segment after them, or the place of the first fault. The segment has `count`
-- labels,
-- the first of them with the ordinal `first`.
unfoldable pub stored_labels : List (List (List ℕ)) → ℕ → ℕ → List ℕ → Result (List (List (List ℕ))) ℕ
stored_labels known first count bytes = do
  start ← head_at first count (record { at = 0; rest = bytes })
  labels ← labels_at count known start
  if length labels.1.rest == 0 then Ok labels.0 else Err labels.1.at

-- The labels after a fault: the known ones, and those of the segment that were read before it.
abbrev pub StandBefore : List (List (List ℕ)) → ℕ → ℕ → List ℕ → List (List (List ℕ)) → Type 0
StandBefore known first count bytes labels = (labels ≡ known)
    ⊎ ((start : Place) × (head_at first count (record { at = 0; rest = bytes }) ≡ Ok start)
    × AreFirst count known start labels)
