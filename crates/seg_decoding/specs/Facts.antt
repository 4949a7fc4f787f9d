-- What is known of labels before the documents that have them are looked at, and what was seen of a document's labels.
use Rattle.std.specs.Prelude.{◌≡◌, ◌&&◌, ◌==◌, ℕ, ◌<◌, nat_le, not, false, List, [], ◌∷◌, ◌++◌, length, map, flat_map}
use Rattle.std.specs.Prelude.{take, All, slice_get, slice_index_or, Some}
use Rattle.std.specs.List.{list_any}
use Rattle.std.specs.Option.{option_map_or}
use Rattle.std.specs.Str.{bytes_eq}
use Rattle.facet_names.specs.Labels.{prefixes}
use Rattle.facet_model.specs.CountedPaths.{counted_ordinals, is_counted}
use Rattle.facet_model.specs.Documents.{dim_of}
use Rattle.facet_model.specs.Flags.{Config, flags}
use Rattle.seg_file.specs.Search.{term_of}
use Rattle.seg_postings.specs.Rising.{is_in}
use Rattle.seg_terms.specs.Noting.{Table, path_terms}
use Rattle.seg_decoding.specs.Answers.{IsLeaf}
use Rattle.seg_decoding.specs.Pairs.{Passes}
use Rattle.seg_decoding.specs.declared.facts.LabelFacts.{LabelFacts}

-- the label at an ordinal, which is there
abbrev pub label_of : List (List (List ℕ)) → ℕ → List (List ℕ)
label_of known ord = slice_index_or known ord []

-- the labels at ordinals, which are there
abbrev pub labels_of : List (List (List ℕ)) → List ℕ → List (List (List ℕ))
labels_of known ords = map (label_of known) ords

-- the terms at these indexes
abbrev pub texts_at : Table → List ℕ → List (List ℕ)
texts_at terms indexes = map (λ at. (term_of terms at).0) indexes

-- What is kept of a label is its own.
pub record AreFacts (config : Config) (known : List (List (List ℕ))) (needs : ℕ) (terms : Table)
    (f : LabelFacts) : Type 0 where
  pub leaf : IsLeaf needs f.ord
  pub long : nat_le (length (label_of known f.ord)) 1 ≡ false
  pub flat : (not (flags config (dim_of (label_of known f.ord))).hierarchical
      && not (length (label_of known f.ord) == 2)) ≡ false
  pub repeats : (flags config (dim_of (label_of known f.ord))).multi_valued ≡ f.multi_valued
  pub counted : f.counted ≡ counted_ordinals known config (label_of known f.ord ∷ [])
  pub there : All (λ at. at < length terms) f.terms.items
  pub texts : texts_at terms f.terms.items ≡ path_terms (prefixes (label_of known f.ord))

-- the facts at an index are those of a label
abbrev pub HasFacts : List LabelFacts → ℕ → ℕ → Type 0
HasFacts facts at ord = (f : LabelFacts) × (slice_get facts at ≡ Some f) × (f.ord ≡ ord)

-- A label after others breaks nothing: it has a component after its dimension, exactly one where that is not
-- hierarchical, and no label before it has the dimension where that is not multi-valued.
pub record IsUnbroken (config : Config) (front : List (List (List ℕ))) (label : List (List ℕ)) : Type 0 where
  pub long : nat_le (length label) 1 ≡ false
  pub flat : (not (flags config (dim_of label)).hierarchical && not (length label == 2)) ≡ false
  pub once : (not (flags config (dim_of label)).multi_valued
      && list_any (λ l. bytes_eq (dim_of l) (dim_of label)) front) ≡ false

-- each of the labels does not, after those before it
abbrev pub AreUnbroken : Config → List (List (List ℕ)) → Type 0
AreUnbroken config labels = (k : ℕ) → k < length labels → IsUnbroken config (take k labels) (slice_index_or labels k [])

-- The labels at the leaves break nothing, these ordinals are counted for them, and the document's place was passed
-- under their terms.
pub record AreSeen (config : Config) (known : List (List (List ℕ))) (terms : Table) (doc : ℕ)
    (leaves ords old new : List ℕ) : Type 0 where
  pub unbroken : AreUnbroken config (labels_of known leaves)
  pub counted : (ord : ℕ) → is_in ord ords
      ≡ option_map_or (is_counted config (labels_of known leaves)) (slice_get known ord) false
  pub passes : Passes terms doc (path_terms (flat_map prefixes (labels_of known leaves))) old new

-- The label comes after the leaves, what is counted for it after the ordinals, and the document's place was passed
-- under its terms.
pub record IsNoted (terms : Table) (doc : ℕ) (f : LabelFacts)
    (leaves ords old leaves' ords' new : List ℕ) : Type 0 where
  pub last : leaves' ≡ leaves ++ f.ord ∷ []
  pub counted : ords' ≡ ords ++ f.counted
  pub passes : Passes terms doc (texts_at terms f.terms.items) old new
