-- Words as terms, and queries over lists of queries.
use Rattle.std.proofs.Common.{◌≡◌, ℕ, zero, suc, ◌<◌, Bool, true, false, List, [], ◌∷◌, ◌++◌, length, map, refl, ap, ◌∙◌, arith}
use Rattle.std.specs.Prelude.{◌==◌, ◌||◌, ◌&&◌, not, codes, flat_map}
use Rattle.std.specs.List.{list_any}
use Rattle.std.specs.Str.{bytes_eq}
use Rattle.std.proofs.lemmas.List.Folds.{list_any-append}
use Rattle.facet_names.specs.Labels.{prefixes}
use Rattle.facet_names.specs.Terms.{term_text}
use Rattle.facet_model.specs.Documents.{Doc}
use Rattle.facet_model.specs.Words.{words}
use Rattle.facet_model.specs.Queries.{matches, all_match, any_matches, queries, bool, term, all}
use Rattle.facet_model.specs.QueryViews.{query_view}
use Rattle.facet_model.specs.declared.query.Query.{Query}
use Rattle.facet_model.specs.CountedPaths.{places}
use Rattle.seg_terms.specs.Laws.{has_term}
use Rattle.query_eval.proofs.Marks.{same_places}
use Rattle.query_eval.proofs.Chosen.{some_of}
use Rattle.std.proofs.Math.Bool.{or-false}
use Rattle.query_eval.specs.Segments.{passes_tests}

-- ---- a word

same_word : (w : List ℕ) (ws : List (List ℕ)) → list_any (bytes_eq (codes "w" ++ w)) (map (λ x. codes "w" ++ x) ws) ≡ list_any (bytes_eq w) ws
same_word w [] = refl
same_word w (x ∷ xs) = ap (λ b. bytes_eq w x || b) (same_word w xs)

no_path : (w : List ℕ) (ps : List (List (List ℕ))) → list_any (bytes_eq (codes "w" ++ w)) (map (λ p. codes "f" ++ term_text p) ps) ≡ false
no_path w [] = refl
no_path w (p ∷ ps) = no_path w ps

pub word_is : (w : List ℕ) (doc : Doc) → has_term (codes "w" ++ w) doc ≡ matches (term w) doc
word_is w doc =
    list_any-append (bytes_eq (codes "w" ++ w)) (map (λ x. codes "w" ++ x) (words doc.text)) (map (λ p. codes "f" ++ term_text p) (flat_map prefixes doc.labels))
    ∙ (λ i. same_word w (words doc.text) i || no_path w (flat_map prefixes doc.labels) i)
    ∙ or-false (list_any (bytes_eq w) (words doc.text))

-- ---- a boolean query

-- the test of each query
abbrev pub tests_of : List Query → List (Doc → Bool)
tests_of qs = map (λ q. matches (query_view q)) qs

pub all_trees : (qs : List Query) (doc : Doc) → passes_tests (tests_of qs) doc ≡ all_match (queries (map query_view qs)) doc
all_trees [] doc = refl
all_trees (q ∷ qs) doc = ap (λ b. matches (query_view q) doc && b) (all_trees qs doc)

pub any_trees : (qs : List Query) (doc : Doc) → some_of (tests_of qs) doc ≡ any_matches (queries (map query_view qs)) doc
any_trees [] doc = refl
any_trees (q ∷ qs) doc = ap (λ b. matches (query_view q) doc || b) (any_trees qs doc)

-- with no query that must match, one of those that should
pub bool_any : (must should must_not : List Query) (doc : Doc) → length must ≡ 0
    → (some_of (tests_of should) doc && not (some_of (tests_of must_not) doc)) ≡ matches (bool (queries (map query_view must)) (queries (map query_view should)) (queries (map query_view must_not))) doc
bool_any [] should must_not doc none = (λ i. any_trees should doc i && not (any_trees must_not doc i)) ∙ turned (any_matches (queries (map query_view should)) doc) (any_matches (queries (map query_view must_not)) doc)
  where
    turned : (a b : Bool) → (a && not b) ≡ (true && not b && (false || a))
    turned true true = refl
    turned true false = refl
    turned false true = refl
    turned false false = refl
bool_any (q ∷ qs) should must_not doc none = absurd (omega arith)

-- with some that must match, all of these
pub bool_all : (must should must_not : List Query) (doc : Doc) → 0 < length must
    → (passes_tests (tests_of must) doc && not (some_of (tests_of must_not) doc)) ≡ matches (bool (queries (map query_view must)) (queries (map query_view should)) (queries (map query_view must_not))) doc
bool_all [] should must_not doc some = absurd (omega arith)
bool_all (q ∷ qs) should must_not doc some = (λ i. all_trees (q ∷ qs) doc i && not (any_trees must_not doc i)) ∙ turned (all_match (queries (map query_view (q ∷ qs))) doc) (any_matches (queries (map query_view must_not)) doc) (any_matches (queries (map query_view should)) doc)
  where
    turned : (a b c : Bool) → (a && not b) ≡ (a && not b && (true || c))
    turned true true c = refl
    turned true false c = refl
    turned false b c = refl

-- the places of a word's term are those of the documents that match it
pub word_places : (w : List ℕ) (docs : List Doc) (t : List ℕ) → t ≡ codes "w" ++ w → places (has_term t) docs ≡ places (matches (term w)) docs
word_places w docs t is = ap (λ u. places (has_term u) docs) is ∙ same_places (has_term (codes "w" ++ w)) (matches (term w)) docs (word_is w)

pub any_places : (must should must_not : List Query) (docs : List Doc) → length must ≡ 0
    → places (λ doc. some_of (tests_of should) doc && not (some_of (tests_of must_not) doc)) docs ≡ places (matches (bool (queries (map query_view must)) (queries (map query_view should)) (queries (map query_view must_not)))) docs
any_places must should must_not docs none = same_places (λ doc. some_of (tests_of should) doc && not (some_of (tests_of must_not) doc)) (matches (bool (queries (map query_view must)) (queries (map query_view should)) (queries (map query_view must_not)))) docs (λ doc. bool_any must should must_not doc none)

pub all_places : (must should must_not : List Query) (docs : List Doc) → 0 < length must
    → places (λ doc. passes_tests (tests_of must) doc && not (some_of (tests_of must_not) doc)) docs ≡ places (matches (bool (queries (map query_view must)) (queries (map query_view should)) (queries (map query_view must_not)))) docs
all_places must should must_not docs some = same_places (λ doc. passes_tests (tests_of must) doc && not (some_of (tests_of must_not) doc)) (matches (bool (queries (map query_view must)) (queries (map query_view should)) (queries (map query_view must_not)))) docs (λ doc. bool_all must should must_not doc some)

-- a number that a test does not find to be 0
pub some_left : (n : ℕ) → false ≡ (n == 0) → 0 < n
some_left zero h = absurd cc
some_left (suc n) h = omega arith

-- all documents match the query for all
pub every_place : (docs : List Doc) → places (λ doc. true) docs ≡ places (matches all) docs
every_place docs = same_places (λ doc. true) (matches all) docs (λ doc. refl)
