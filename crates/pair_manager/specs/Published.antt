-- A published pair as contracts see it, and the publications that it is the last of.
use Rattle.std.specs.Prelude.{◌≡◌, ◌≤◌, ◌++◌, ℕ, List, [], ◌∷◌, All, IsTrue, length, map}
use Rattle.atomic_table.specs.Seated.{TableId}
use Rattle.facet_model.specs.ConfigTexts.{config_texts}
use Rattle.facet_model.specs.Flags.{Config}
use Rattle.facet_model.specs.Histories.{Operation, are_publications}
use Rattle.facet_model.specs.Stored.{Records}
use Rattle.chronicle.specs.Frame.{Frame}
use Rattle.chronicle.specs.History.{entries}
use Rattle.chronicle.specs.Shown.{Shown}
use Rattle.taxo_cache.specs.Seen.{labels_of}
use Rattle.pair_manager.specs.declared.publication.Publication.{Publication}

-- the index side and the taxonomy side, with a note of the operations and one of the labels that were taken with them
pub record Published : Type 0 where
  pub history : Shown Operation
  pub labels : Shown (List (List ℕ))
  pub config : Config
  pub segments : List Records

abbrev pub published : Shown Operation → Shown (List (List ℕ)) → Config → List Records → Published
published history labels config segments = record {
  history = history;
  labels = labels;
  config = config;
  segments = segments;
}

-- all operations and labels that tokens have seen, the root among the labels
abbrev pub seen_of : Shown Operation → Shown (List (List ℕ)) → Publication
seen_of operations labels = record { operations = length operations.seen; labels = length (labels_of labels.seen) }

-- how many operations and labels it has
abbrev pub publication_of : Published → Publication
publication_of pair = seen_of pair.history pair.labels

-- the two numbers of a publication
abbrev pub numbers : Publication → ℕ × ℕ
numbers p = (p.operations, p.labels)

-- No number ever fell, and the labels of each cover its operations, in these labels and this history.
abbrev pub ArePublications : List (ℕ × List (List ℕ)) → List (ℕ × Operation) → List Publication → Type 0
ArePublications labels history publications = IsTrue (are_publications (labels_of labels) (entries history)
    (map numbers publications))

-- the last publication is this one
abbrev pub IsLast : Publication → List Publication → Type 0
IsLast p publications = (before : List Publication) × (publications ≡ before ++ p ∷ [])

-- The pair is the last of the publications.
pub record StandsFor (pair : Published) (publications : List Publication) : Type 0 where
  pub right : ArePublications pair.labels.seen pair.history.seen publications
  pub last : IsLast (publication_of pair) publications

-- no publication is newer
abbrev pub IsNewest : Publication → List Publication → Type 0
IsNewest newest publications = All (λ p. (p.operations ≤ newest.operations) × (p.labels ≤ newest.labels)) publications

-- the config of all pairs, and the chronicles of their operations and labels
abbrev pub pair_frame : Config → TableId → TableId → Frame
pair_frame config operations labels = record {
  numbers = [];
  texts = config_texts config;
  identities = operations ∷ labels ∷ [];
}

abbrev pub frame_of : Published → Frame
frame_of pair = pair_frame pair.config pair.history.identity pair.labels.identity
