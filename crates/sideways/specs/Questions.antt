-- A search over the documents of segments.
use Rattle.std.specs.Prelude.{ℕ, Bool, List, map}
use Rattle.facet_model.specs.Asks.{Asked}
use Rattle.facet_model.specs.CountedPaths.{counted_ordinals}
use Rattle.facet_model.specs.Documents.{Doc}
use Rattle.facet_model.specs.Flags.{Config}
use Rattle.facet_model.specs.Hits.{docs_for}
use Rattle.facet_model.specs.Queries.{QueryTree}
use Rattle.facet_model.specs.Stored.{Records, Decodes}

pub record Question : Type 0 where
  pub labels : List (List (List ℕ))
  pub config : Config
  pub segments : List Records
  pub query : QueryTree
  pub drill : List (List (List ℕ))
  pub asks : List Asked
  pub hits : ℕ
  pub sideways : Bool

-- the segments have these documents, in order
abbrev pub HasDocs : Question → List Doc → Type 0
HasDocs q docs = Decodes q.labels q.config q.segments docs

-- the documents over which it counts a dimension
abbrev pub docs_of : Question → List Doc → List ℕ → List Doc
docs_of q docs dim = docs_for q.sideways docs q.query q.drill dim

-- the ordinals that are counted for each document
abbrev pub counted_of : Question → List Doc → List (List ℕ)
counted_of q docs = map (λ doc. counted_ordinals q.labels q.config doc.labels) docs
