-- Stored terms against the documents, pair by pair: a term, and a place where it is.
use Rattle.std.specs.Prelude.{◌≡◌, ℕ, ◌<◌, Bool, true, false, List, length, All, slice_get, slice_index_or}
use Rattle.std.specs.Option.{option_map_or}
use Rattle.facet_model.specs.Documents.{Doc}
use Rattle.facet_model.specs.Flags.{Config}
use Rattle.facet_model.specs.CountedPaths.{counted_ordinals}
use Rattle.facet_model.specs.Accepts.{Accepts}
use Rattle.facet_model.specs.Stored.{Stored}
use Rattle.seg_postings.specs.Rising.{is_in}
use Rattle.seg_terms.specs.Laws.{has_term}
use Rattle.seg_terms.specs.Noting.{Table, found}
use Rattle.seg_file.specs.Search.{term_of}
use Rattle.seg_decoding.specs.Answers.{IsLeaf}
use Rattle.seg_documents.specs.Decoding.{doc_in}

-- the term is stored with the place
abbrev pub is_stored : Table → List ℕ → ℕ → Bool
is_stored terms term place = option_map_or (is_in place) (found terms term) false

-- there is a document at the place, and it has the term
abbrev pub has_at : List Doc → List ℕ → ℕ → Bool
has_at docs term place = option_map_or (has_term term) (slice_get docs place) false

-- The pairs that are stored are exactly those of the documents.
abbrev pub AreTheirs : List Doc → Table → Type 0
AreTheirs docs terms = (term : List ℕ) (place : ℕ) → is_stored terms term place ≡ has_at docs term place

-- The leaves are ordinals of labels below `needs`, the config accepts the document, and the counted ordinals are its
-- own.
pub record IsRight (config : Config) (known : List (List (List ℕ))) (needs : ℕ) (r : Stored) : Type 0 where
  pub leaves : All (IsLeaf needs) r.leaves
  pub accepted : Accepts config (doc_in known r)
  pub counted : r.counted ≡ counted_ordinals known config (doc_in known r).labels

-- ---- while places are passed: of each term so many are

-- the term has the place among those that were passed
pub record IsPassed (terms : Table) (next : List ℕ) (term : List ℕ) (place : ℕ) : Type 0 where
  pub at : ℕ
  pub there : at < length terms
  pub is : (term_of terms at).0 ≡ term
  pub index : ℕ
  pub within : index < slice_index_or next at 0
  pub points : slice_index_or (term_of terms at).1 index 0 ≡ place

-- at each place that was passed is a document that has the term
abbrev pub OnlyTheirs : List Doc → Table → List ℕ → Type 0
OnlyTheirs docs terms next = (at index : ℕ) → at < length terms → index < slice_index_or next at 0
    → has_at docs (term_of terms at).0 (slice_index_or (term_of terms at).1 index 0) ≡ true

-- The place was passed under each of the document's terms, under no other term, and nothing that was passed before was
-- lost.
pub record Passes (terms : Table) (place : ℕ) (own : List (List ℕ)) (old new : List ℕ) : Type 0 where
  pub size : length new ≡ length old
  pub grows : (at index : ℕ) → index < slice_index_or old at 0 → index < slice_index_or new at 0
  pub only : (docs : List Doc) → All (λ term. has_at docs term place ≡ true) own → OnlyTheirs docs terms old
      → OnlyTheirs docs terms new
  pub each : All (λ term. IsPassed terms new term place) own
