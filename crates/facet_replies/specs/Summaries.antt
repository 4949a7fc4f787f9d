-- The line that sums up the replies to a script of generated documents.
use Rattle.std.specs.Prelude.{ℕ, Bool, List, [], ◌∷◌, codes}
use Rattle.serde_json.specs.Data.{Data, boolean}
use Rattle.facet_model.specs.Results.{Answer}
use Rattle.facet_replies.specs.ReplyLines.{fields, whole_data, list_data, answer_data, json_line}

-- How many documents were added, and whether all was committed; of how many documents and labels the pair was that was
-- searched, how many documents were hit, and the answers to what was asked of them.
pub record Summary : Type 0 where
  pub added : ℕ
  pub committed : Bool
  pub documents : ℕ
  pub hit_count : ℕ
  pub labels : ℕ
  pub results : List Answer

unfoldable pub summary_data : Summary → Data
summary_data s = fields (
    (codes "added", whole_data s.added)
    ∷ (codes "committed", boolean s.committed)
    ∷ (codes "documents", whole_data s.documents)
    ∷ (codes "hit_count", whole_data s.hit_count)
    ∷ (codes "labels", whole_data s.labels)
    ∷ (codes "results", list_data answer_data s.results)
    ∷ [])

-- its line
unfoldable pub summary_line : Summary → List ℕ
summary_line s = json_line (summary_data s)
