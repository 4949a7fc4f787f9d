-- Ranges and sums over the documents of a pair.
use Rattle.std.specs.Prelude.{◌≡◌, ℕ, List, length}
use Rattle.chronicle.specs.History.{entries}
use Rattle.facet_model.specs.Histories.{docs}
use Rattle.facet_output.specs.Replies.{Reply}
use Rattle.facet_words.specs.Answers.{IsSummed, ranged_of}
use Rattle.facet_words.specs.Commands.{Counted}
use Rattle.number_facets.specs.Values.{Range}
use Rattle.pair_manager.specs.Published.{Published}

-- the reply is right over the documents of the pair
abbrev pub IsRangedIn : Published → Counted → List Range → Reply → Type 0
IsRangedIn pair c rs reply = reply ≡ ranged_of (length pair.history.seen) (docs (entries pair.history.seen)) c rs

abbrev pub IsSummedIn : Published → Counted → ℕ → Reply → Type 0
IsSummedIn pair c n reply = IsSummed (length pair.history.seen) (docs (entries pair.history.seen)) c n reply
