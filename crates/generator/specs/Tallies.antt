-- What a tally keeps of replies.
use Rattle.std.specs.Prelude.{◌≡◌, ℕ, List, count_by, map, option_map}
use Rattle.std.specs.List.{list_any}
use Rattle.facet_model.specs.Results.{Answer}
use Rattle.facet_model.specs.ResultViews.{answer_view}
use Rattle.facet_replies.specs.Replies.{Found, Numbers, Reply}
use Rattle.generator.specs.Summaries.{is_placed, is_uncommitted, wants_memory, first_numbers, first_found}
use Rattle.generator.specs.declared.tally.Counts.{Counts}
use Rattle.generator.specs.declared.tally.Sizes.{Sizes}
use Rattle.generator.specs.declared.tally.Tally.{Tally}

-- how many documents and labels there are
abbrev pub sizes_told : Sizes → ℕ × ℕ
sizes_told s = (s.documents, s.labels)

abbrev pub sizes_of : Numbers → ℕ × ℕ
sizes_of n = (n.documents, n.labels)

-- how many documents were found, and the answers to the asks
abbrev pub counts_told : Counts → ℕ × List Answer
counts_told c = (c.hit_count, map answer_view c.results.items)

abbrev pub counts_of : Found → ℕ × List Answer
counts_of f = (f.hit_count, f.answers)

-- A tally of these replies, in their order.
pub record IsTallyOf (replies : List Reply) (tally : Tally) : Type 0 where
  pub added : tally.added ≡ count_by is_placed replies
  pub uncommitted : tally.uncommitted ≡ list_any is_uncommitted replies
  pub starved : tally.starved ≡ list_any wants_memory replies
  pub sizes : option_map sizes_told tally.sizes ≡ option_map sizes_of (first_numbers replies)
  pub counts : option_map counts_told tally.counts ≡ option_map counts_of (first_found replies)
