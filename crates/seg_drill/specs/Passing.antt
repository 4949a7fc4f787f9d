-- What the documents of a search have to match.
use Rattle.std.specs.Prelude.{◌≡◌, ℕ, ◌∷◌, ◌++◌, ◌&&◌, ◌||◌, Bool, false, not, List, [], take, Option, Some, None}
use Rattle.std.specs.Prelude.{slice_get, slice_index_or}
use Rattle.std.specs.List.{list_any, list_all, AllByRecursion}
use Rattle.std.specs.Str.{bytes_eq}
use Rattle.facet_model.specs.CountedPaths.{places}
use Rattle.facet_model.specs.Documents.{Doc, dim_of}
use Rattle.facet_model.specs.Hits.{passes}
use Rattle.facet_model.specs.Queries.{QueryTree, matches}
use Rattle.facet_model.specs.Stored.{Records}
use Rattle.plan_places.specs.Planned.{Planned, all_have}
use Rattle.query_eval.specs.Segments.{HasTermsOf}

-- the dimension is the one that is lifted
abbrev pub is_lifted : Option (List ℕ) → List ℕ → Bool
is_lifted None dim = false
is_lifted (Some other) dim = bytes_eq dim other

-- it matches the dimensions of these paths of a drill, except the lifted one
abbrev pub passes_each : List (List (List ℕ)) → Option (List ℕ) → List (List (List ℕ)) → Doc → Bool
passes_each drill lift paths doc = list_all (λ path. is_lifted lift (dim_of path)
    || passes doc drill (dim_of path)) paths

-- it matches the query, and all dimensions of the drill except the lifted one
abbrev pub passes_all : QueryTree → List (List (List ℕ)) → Option (List ℕ) → Doc → Bool
passes_all query drill lift doc = matches query doc && passes_each drill lift drill doc

-- a path of the dimension is before the place
abbrev pub is_again : List (List (List ℕ)) → ℕ → List ℕ → Bool
is_again drill at dim = list_any (λ path. bytes_eq (dim_of path) dim) (take at drill)

-- the path at the place is the first of its dimension, and that is not lifted
abbrev pub is_first : List (List (List ℕ)) → ℕ → Option (List ℕ) → Bool
is_first drill at lift = not (is_again drill at (dim_of (slice_index_or drill at [])))
    && not (is_lifted lift (dim_of (slice_index_or drill at [])))

-- Each node has only places of documents. All nodes have a document's place exactly if it passes the test.
pub record AreAllOf (docs : List Doc) (test : Doc → Bool) (nodes : List Planned) : Type 0 where
  pub each : AllByRecursion (λ p. (other : Doc → Bool) × (p.left ≡ places other docs)) nodes
  pub have : (n : ℕ) (doc : Doc) → slice_get docs n ≡ Some doc → all_have n nodes ≡ test doc

-- One node more: the documents that match the dimension.
pub record HasPaths (segment : Records) (drill : List (List (List ℕ))) (dim : List ℕ)
    (old new : List Planned) : Type 0 where
  pub node : Planned
  pub items : new ≡ old ++ node ∷ []
  pub left : (docs : List Doc) → HasTermsOf segment docs → node.left ≡ places (λ doc. passes doc drill dim) docs
