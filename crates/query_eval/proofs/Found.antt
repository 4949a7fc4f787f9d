-- A term's places among the terms of documents are those of the documents that have it.
use Rattle.std.proofs.Common.{◌≡◌, ℕ, Bool, true, false, List, [], Option, Some, None, refl, sym, ap, ◌∙◌}
use Rattle.std.specs.Prelude.{cond, unwrap_or}
use Rattle.std.specs.List.{list_any}
use Rattle.facet_model.specs.Documents.{Doc}
use Rattle.facet_model.specs.CountedPaths.{places}
use Rattle.facet_model.specs.Terms.{terms_of}
use Rattle.seg_grammar.specs.Lookups.{places_of_term}
use Rattle.seg_terms.specs.Laws.{has_term}
use Rattle.query_eval.proofs.Marks.{none_from_place}
use Rattle.seg_terms.proofs.TermLists.{found_in_terms, found_is_find}

-- the places of a term, where a document has it
pub term_found : (term : List ℕ) (docs : List Doc) → places_of_term (terms_of docs) term ≡ cond (list_any (has_term term) docs) (Some (places (has_term term) docs)) None
term_found term docs = found_is_find (terms_of docs) term ∙ found_in_terms docs term

-- what a look-up answers, of a list of terms that are those of documents
pub found_some : (terms : List (List ℕ × List ℕ)) (term : List ℕ) (docs : List Doc) (ps : List ℕ) → terms ≡ terms_of docs → Some ps ≡ places_of_term terms term → (list_any (has_term term) docs ≡ true) × (ps ≡ places (has_term term) docs)
found_some terms term docs ps are found = by (list_any (has_term term) docs) (found ∙ ap (λ ts. places_of_term ts term) are ∙ term_found term docs)
  where
    by : (b : Bool) → Some ps ≡ cond b (Some (places (has_term term) docs)) None → (b ≡ true) × (ps ≡ places (has_term term) docs)
    by true h = (refl, cc)
    by false h = absurd cc

pub found_none : (terms : List (List ℕ × List ℕ)) (term : List ℕ) (docs : List Doc) → terms ≡ terms_of docs → None ≡ places_of_term terms term → list_any (has_term term) docs ≡ false
found_none terms term docs are found = by (list_any (has_term term) docs) (found ∙ ap (λ ts. places_of_term ts term) are ∙ term_found term docs)
  where
    by : (b : Bool) → None ≡ cond b (Some (places (has_term term) docs)) None → b ≡ false
    by true h = absurd cc
    by false h = refl

-- what a look-up found, or none
pub found_places : (terms : List (List ℕ × List ℕ)) (term : List ℕ) (docs : List Doc) (found : Option (List ℕ)) → terms ≡ terms_of docs → found ≡ places_of_term terms term → unwrap_or found [] ≡ places (has_term term) docs
found_places terms term docs (Some ps) are found = (found_some terms term docs ps are found).1
found_places terms term docs None are found = sym (none_from_place 0 (has_term term) docs (found_none terms term docs are found))
