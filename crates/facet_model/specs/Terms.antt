-- The terms of documents, each with the places of those that have it.
use Rattle.std.specs.Prelude.{◌≡◌, ◌≤◌, ◌++◌, ℕ, List, [], ◌∷◌, length, map, flat_map, codes, fold, String}
use Rattle.std.specs.Prelude.{string_bytes}
use Rattle.std.specs.List.{list_any}
use Rattle.std.specs.declared.alloc.Global.{Global}
use Rattle.std.specs.Ordering.{nat_cmp, match_ordering}
use Rattle.std.specs.Cmp.Lexicographic.{slice_cmp}
use Rattle.std.specs.Str.{bytes_eq}
use Rattle.facet_names.specs.Labels.{prefixes}
use Rattle.facet_names.specs.Terms.{term_text}
use Rattle.facet_model.specs.Documents.{Doc}
use Rattle.facet_model.specs.Words.{words}
use Rattle.facet_model.specs.CountedPaths.{places}

-- the drill-down term of a path
abbrev pub path_term : List (List ℕ) → List ℕ
path_term path = codes "f" ++ term_text path

-- `w` and a word of its text, `f` and the text of a prefix of a label
abbrev pub doc_terms : Doc → List (List ℕ)
doc_terms doc = map (λ w. codes "w" ++ w) (words doc.text) ++ map (λ p. codes "f"
    ++ term_text p) (flat_map prefixes doc.labels)

-- a term among rising terms, once
abbrev pub put_term : List (List ℕ) → List ℕ → List (List ℕ)
put_term [] t = t ∷ []
put_term (u ∷ us) t = match_ordering (slice_cmp nat_cmp t u) (t ∷ u ∷ us) (u ∷ us) (u ∷ put_term us t)

-- the terms of the documents, rising, each with its places
abbrev pub terms_of : List Doc → List (List ℕ × List ℕ)
terms_of docs = map (λ t. (t, places (λ doc. list_any (bytes_eq t) (doc_terms doc)) docs))
    (fold put_term [] (flat_map doc_terms docs))

-- at most 256 paths, and the term of each
pub record IsDrill (paths : List (List (List ℕ))) (terms : List (String Global)) : Type 0 where
  pub few : length paths ≤ 256
  pub each : map string_bytes terms ≡ map path_term paths
