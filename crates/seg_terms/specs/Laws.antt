-- What holds for the terms of documents.
use Rattle.std.specs.Prelude.{◌≡◌, ℕ, List, Bool, Option, Some, None, option_map, if◌then◌else◌}
use Rattle.std.specs.List.{list_any, find}
use Rattle.std.specs.List.Sorted.{IsStrictlySortedBy}
use Rattle.std.specs.Map.{keys_of}
use Rattle.std.specs.Str.{bytes_eq}
use Rattle.facet_model.specs.Documents.{Doc}
use Rattle.facet_model.specs.Words.{word_cmp}
use Rattle.facet_model.specs.CountedPaths.{places}
use Rattle.facet_model.specs.Terms.{doc_terms, terms_of}

-- the document has the term
abbrev pub has_term : List ℕ → Doc → Bool
has_term term doc = list_any (bytes_eq term) (doc_terms doc)

-- the places of the documents that have the term, if there are any
abbrev pub term_places : List Doc → List ℕ → Option (List ℕ)
term_places docs term = if list_any (has_term term) docs then Some (places (has_term term) docs) else None

-- the terms rise by their bytes
abbrev pub TermsRise : Type 0
TermsRise = (docs : List Doc) → IsStrictlySortedBy word_cmp (keys_of (terms_of docs))

-- a term is among them, with its places, exactly if a document has it
abbrev pub TermsAreFound : Type 0
TermsAreFound = (docs : List Doc) (term : List ℕ)
    → option_map (λ t. t.1) (find (λ t. bytes_eq term t.0) (terms_of docs)) ≡ term_places docs term
