-- What the value of a query is.
use Rattle.std.specs.Prelude.{◌≡◌, ◌≤◌, ◌↔◌, ℕ, zero, suc, ◌&&◌, nat_le, if◌then◌else◌, [], ◌∷◌, codes, Option, Some}
use Rattle.std.specs.Prelude.{None, Bool, List, map}
use Rattle.std.specs.Option.{option_or}
use Rattle.std.specs.List.{list_any, list_all}
use Rattle.std.specs.Str.{bytes_eq}
use Rattle.serde_json.specs.Data.{Data}
use Rattle.serde_json.specs.Find.{as_str, as_bool}
use Rattle.facet_model.specs.Documents.{Doc}
use Rattle.facet_model.specs.Queries.{QueryTree, all, term, bool, no_query, queries, levels, nodes, matches}
use Rattle.facet_model.specs.Words.{word_of, words}
use Rattle.facet_words.specs.Shapes.{◌>>=◌, when, text_within, list_of, key, key_or, keys_among}

-- {"all":true}
unfoldable pub all_query : Data → Option QueryTree
all_query d = do
  every ← key (codes "all") as_bool d
  when (every && keys_among (codes "all" ∷ []) d) all

-- {"term":word}
unfoldable pub term_query : Data → Option QueryTree
term_query d = do
  text ← key (codes "term") as_str d
  word ← word_of text
  when (keys_among (codes "term" ∷ []) d) (term word)

-- each of the words is required; without a word, all documents match
abbrev pub all_words : List (List ℕ) → QueryTree
all_words [] = all
all_words (w ∷ ws) = bool (queries (map term (w ∷ ws))) no_query no_query

-- {"words":text}, if its query has at most so many levels
unfoldable pub words_query : ℕ → Data → Option QueryTree
words_query n d = do
  text ← key (codes "words") (text_within 0 65536) d
  when (keys_among (codes "words" ∷ []) d && nat_le (levels (all_words (words text))) n) (all_words (words text))

-- the three lists of a boolean query, whose queries have the inner shape
unfoldable pub lists_of : (Data → Option QueryTree) → Data → Option QueryTree
lists_of inner d = do
  must ← key_or (codes "must") [] (list_of inner) d
  should ← key_or (codes "should") [] (list_of inner) d
  must_not ← key_or (codes "must_not") [] (list_of inner) d
  when (keys_among (codes "must" ∷ codes "should" ∷ codes "must_not" ∷ []) d)
      (bool (queries must) (queries should) (queries must_not))

-- likewise, whatever other keys there are
unfoldable pub three_of : (Data → Option QueryTree) → Data → Option QueryTree
three_of inner d = do
  must ← key_or (codes "must") [] (list_of inner) d
  should ← key_or (codes "should") [] (list_of inner) d
  must_not ← key_or (codes "must_not") [] (list_of inner) d
  Some (bool (queries must) (queries should) (queries must_not))

-- {"bool":lists}
unfoldable pub bool_query : (Data → Option QueryTree) → Data → Option QueryTree
bool_query inner d = if keys_among (codes "bool" ∷ []) d then key (codes "bool") (lists_of inner) d else None

-- a query of at most so many levels
unfoldable pub query_within : ℕ → Data → Option QueryTree
query_within zero d = None
query_within (suc n) d = option_or (all_query d) (option_or (term_query d) (option_or (words_query (suc n) d)
    (bool_query (query_within n) d)))

-- a query of at most 32 levels and 256 nodes
unfoldable pub query_of : Data → Option QueryTree
query_of d = do
  query ← query_within 32 d
  when (nat_le (nodes query) 256) query

-- what is read with some number of levels is read with another if and only if it has no more
abbrev pub LevelsAreCounted : Type 0
LevelsAreCounted = (m n : ℕ) (d : Data) (q : QueryTree) → query_within m d ≡ Some q
    → (query_within n d ≡ Some q) ↔ (levels q ≤ n)

-- whether the word is one of the words of the document's text
abbrev pub has_word : Doc → List ℕ → Bool
has_word doc w = list_any (bytes_eq w) (words doc.text)

-- The query of a text matches exactly the documents that have every word of it.
abbrev pub MatchesEachWord : Type 0
MatchesEachWord = (text : List ℕ) (doc : Doc) → matches (all_words (words text)) doc
    ≡ list_all (has_word doc) (words text)
