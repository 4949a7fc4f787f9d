-- Lists of labels that are cut into pieces.
use Rattle.std.specs.Prelude.{◌≡◌, ◌<◌, ◌≤◌, ◌*◌, ℕ, false, List, [], length, take, get_or}
use Rattle.std.specs.List.{flat_map, list_any}
use Rattle.facet_names.specs.Paths.{path_eq}

-- the labels of the pieces, one piece after the other
abbrev pub joined : {X : Type 0} → List (List X) → List X
joined pieces = flat_map (λ piece. piece) pieces

-- No label is the same as one before it.
abbrev pub AllDiffer : List (List (List ℕ)) → Type 0
AllDiffer labels = (k : ℕ) → k < length labels → list_any (path_eq (get_or labels k [])) (take k labels) ≡ false

-- Up to a size, a piece begins at each multiple of 4,096: the pieces before it are as many as the multiple says.
abbrev pub IsCut : {X : Type 0} → List (List X) → ℕ → Type 0
IsCut pieces size = (k : ℕ) → k * 4096 ≤ size → (k ≤ length pieces) × (length (joined (take k pieces)) ≡ k * 4096)

-- What the list keeps true of its pieces and of its size.
pub record AreLabelPieces {X : Type 0} (pieces : List (List X)) (size : ℕ) : Type 0 where
  pub as_many : size ≡ length (joined pieces)
  pub few : size < 1000000
  pub cut : IsCut pieces size
