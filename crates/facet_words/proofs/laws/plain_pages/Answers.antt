use Rattle.std.proofs.Common.{ℕ, Bool, List, drop, map, filter, take, sym}
use Rattle.std.specs.List.{enumerate_from}
use Rattle.facet_model.specs.Documents.{Doc}
use Rattle.facet_model.specs.Hits.{is_hit}
use Rattle.facet_replies.specs.Replies.{Hit}
use Rattle.facet_words.specs.Answers.{hit_of, in_order}
use Rattle.facet_words.proofs.laws.plain_pages.Goals as goal

pub returns : goal.returns
returns c docs s none forward hidden =
    let page : ℕ → Bool → Bool → List Hit = λ from newest show. take s.hits (drop from (in_order newest (map (hit_of show) (filter (λ (e : ℕ × Doc). is_hit s.query s.drill e.1) (enumerate_from 0 docs))))) in
    λ i. page (sym none i) (sym forward i) (sym hidden i)
