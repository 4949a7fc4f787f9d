-- The documents of a segment, as its terms distinguish them.
use Rattle.std.specs.Prelude.{◌≡◌, Bool, List, length, map}
use Rattle.std.specs.List.{list_all}
use Rattle.facet_model.specs.Documents.{Doc}
use Rattle.facet_model.specs.CountedPaths.{places}
use Rattle.facet_model.specs.Stored.{Records}
use Rattle.facet_model.specs.Terms.{terms_of}
use Rattle.plan_places.specs.Planned.{Planned}

-- The segment has the documents' terms, and a record for each of them.
pub record HasTermsOf (segment : Records) (docs : List Doc) : Type 0 where
  pub terms : segment.terms ≡ terms_of docs
  pub records : length segment.records ≡ length docs

-- the nodes have the places of the documents that pass these tests, one test each
abbrev pub AreTests : List Doc → List (Doc → Bool) → List Planned → Type 0
AreTests docs tests nodes = map (λ p. p.left) nodes ≡ map (λ test. places test docs) tests

-- the document passes all tests
abbrev pub passes_tests : List (Doc → Bool) → Doc → Bool
passes_tests tests doc = list_all (λ test. test doc) tests
