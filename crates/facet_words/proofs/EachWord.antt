-- The query of words matches where each of them does.
use Rattle.std.proofs.Common.{◌≡◌, ◌∙◌, ℕ, Bool, true, false, List, [], ◌∷◌, map, refl, ap}
use Rattle.std.specs.Prelude.{◌&&◌}
use Rattle.std.specs.List.{list_all}
use Rattle.facet_model.specs.Documents.{Doc}
use Rattle.facet_model.specs.Queries.{term, queries, matches, all_match}
use Rattle.facet_model.specs.Words.{words}
use Rattle.facet_words.specs.Queries.{all_words, has_word, MatchesEachWord}

and_true : (b : Bool) → (b && true) ≡ b
and_true true = refl
and_true false = refl

all_in : (ws : List (List ℕ)) (doc : Doc) → all_match (queries (map term ws)) doc ≡ list_all (has_word doc) ws
all_in [] doc = refl
all_in (w ∷ ws) doc = ap (λ b. has_word doc w && b) (all_in ws doc)

of_words : (ws : List (List ℕ)) (doc : Doc) → matches (all_words ws) doc ≡ list_all (has_word doc) ws
of_words [] doc = refl
of_words (w ∷ ws) doc =
    let every = all_match (queries (map term (w ∷ ws))) doc in
    and_true (every && true) ∙ and_true every ∙ all_in (w ∷ ws) doc

pub each_word : MatchesEachWord
each_word text doc = of_words (words text) doc
