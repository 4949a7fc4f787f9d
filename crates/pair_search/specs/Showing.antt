-- What is shown of a pair.
use Rattle.std.specs.Prelude.{ℕ, List, length, slice_get}
use Rattle.chronicle.specs.History.{entries}
use Rattle.facet_model.specs.Histories.{docs}
use Rattle.facet_names.specs.Labels.{GoesOn, IsLabelList}
use Rattle.facet_output.specs.Replies.{Reply}
use Rattle.facet_output.specs.Replying.{IsShown}
use Rattle.pair_manager.specs.Published.{Published}
use Rattle.taxo_cache.specs.Seen.{labels_of}

-- The reply shows a place of the pair's documents, under any label list that continues its own.
abbrev pub IsShownIn : Published → ℕ → Reply → Type 0
IsShownIn pair at reply = (labels : List (List (List ℕ))) → IsLabelList labels
    → GoesOn (labels_of pair.labels.seen) labels
    → IsShown labels (length pair.history.seen) (docs (entries pair.history.seen)) at
    (slice_get (docs (entries pair.history.seen)) at) reply
