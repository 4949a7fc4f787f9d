-- What is true of each segment that is read.
use Rattle.std.specs.Prelude.{◌≡◌, ◌<◌, ℕ, ◌+◌, List, length, Ok}
use Rattle.facet_names.specs.Labels.{IsLabelList, GoesOn}
use Rattle.facet_codec.specs.Places.{IsBytes}
use Rattle.label_file.specs.LabelBytes.{labels_bytes}
use Rattle.label_file.specs.LabelReading.{stored_labels}

-- a label list stays a label list
abbrev pub GoesOnToList : Type 0
GoesOnToList = (known labels : List (List (List ℕ))) (first count : ℕ) (bytes : List ℕ) → IsLabelList known
    → stored_labels known first count bytes ≡ Ok labels → IsLabelList labels × GoesOn known labels

-- it has as many labels more as the segment says
abbrev pub HasSoManyMore : Type 0
HasSoManyMore = (known labels : List (List (List ℕ))) (first count : ℕ) (bytes : List ℕ)
    → stored_labels known first count bytes ≡ Ok labels → length labels ≡ length known + count

-- it has at least one
abbrev pub HasSome : Type 0
HasSome = (known labels : List (List (List ℕ))) (first count : ℕ) (bytes : List ℕ)
    → stored_labels known first count bytes ≡ Ok labels → 0 < count

-- the bytes are the only spelling of its labels after the known ones
abbrev pub HasOneSpelling : Type 0
HasOneSpelling = (known labels : List (List (List ℕ))) (count : ℕ) (bytes : List ℕ) → IsBytes bytes → IsLabelList known
    → stored_labels known (length known) count bytes ≡ Ok labels → bytes ≡ labels_bytes labels (length known)
