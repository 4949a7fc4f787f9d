-- The terms of documents are within the limits of the format.
use Rattle.std.proofs.Common.{◌≡◌, ℕ, ◌≤◌, None, List, [], ◌∷◌, length, subst, arith}
use Rattle.std.specs.List.{AllByRecursion}
use Rattle.facet_model.specs.Documents.{Doc}
use Rattle.facet_model.specs.CountedPaths.{places}
use Rattle.facet_model.specs.Terms.{terms_of}
use Rattle.seg_grammar.specs.Spelling.{ArePlacesBelow, IsTerm, TermsRise}
use Rattle.seg_terms.specs.Laws.{has_term}
use Rattle.seg_terms.proofs.TermLists.{each_term, rises}
use Rattle.seg_terms.proofs.DocPlaces.{places_below}
use Rattle.seg_writing.specs.Written.{IsTermText, HasFewPlaces}
use Rattle.seg_writing.proofs.Facts.{places_rise, some_place, few_places, terms_rise_from_sorted}

pub few_each : (docs : List Doc) → length docs ≤ 1000000 → AllByRecursion HasFewPlaces (terms_of docs)
few_each docs few = each_term docs HasFewPlaces (λ t there. omega (arith, few_places (has_term t) docs 0, few))

places_each : (docs : List Doc) → AllByRecursion (λ t. ArePlacesBelow (length docs) t.1) (terms_of docs)
places_each docs = each_term docs (λ t. ArePlacesBelow (length docs) t.1) (λ t there. record {
  some = some_place (has_term t) docs 0 there;
  below = places_below (has_term t) docs 0 (length docs) (omega arith);
  rise = places_rise (has_term t) docs 0;
})

joined : (n : ℕ) (ts : List (List ℕ × List ℕ)) → AllByRecursion IsTermText ts → AllByRecursion (λ t. ArePlacesBelow n t.1) ts → AllByRecursion (IsTerm n) ts
joined n [] texts places = tt
joined n (t ∷ ts) texts places = (record { text = texts.0; places = places.0 }, joined n ts texts.1 places.1)

pub terms_fit : (docs : List Doc) (n : ℕ) → length docs ≡ n → AllByRecursion IsTermText (terms_of docs) → AllByRecursion (IsTerm n) (terms_of docs)
terms_fit docs n size texts = subst (λ m. AllByRecursion (IsTerm m) (terms_of docs)) size (joined (length docs) (terms_of docs) texts (places_each docs))

pub terms_in_order : (docs : List Doc) → TermsRise None (terms_of docs)
terms_in_order docs = terms_rise_from_sorted (terms_of docs) (rises docs)
