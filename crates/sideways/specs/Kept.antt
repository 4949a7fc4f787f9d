-- The invariants of a plan and of an answer.
use Rattle.std.specs.Prelude.{◌≡◌, ℕ, min, ◌<◌, ◌≤◌, ◌&&◌, ◌++◌, ◌∷◌, Bool, true, List, [], filter, length}
use Rattle.std.specs.Prelude.{slice_index_or, take, Option, Some, None}
use Rattle.std.specs.List.{list_any, AllByRecursion}
use Rattle.std.specs.Str.{bytes_eq}
use Rattle.std.specs.Vec.{vec_capacity}
use Rattle.std.specs.declared.alloc.Global.{Global}
use Rattle.std.specs.declared.vec.Vec.{Vec}
use Rattle.facet_names.specs.Labels.{IsLabelList}
use Rattle.facet_model.specs.CountedPaths.{places}
use Rattle.facet_model.specs.Documents.{Doc, dim_of}
use Rattle.facet_model.specs.Hits.{is_hit, hits}
use Rattle.facet_model.specs.Queries.{QueryTree}
use Rattle.facet_model.specs.Stored.{Records}
use Rattle.facet_counts.specs.Tallies.{Tally, Totals, AreCounts, HasAdded}
use Rattle.place_bits.specs.Words.{Marked}
use Rattle.seg_drill.specs.Passing.{passes_all}
use Rattle.sideways.specs.Counted.{ArePartsOf, IsPartOf, PartLeft, is_drilled, is_near}
use Rattle.sideways.specs.Questions.{Question, HasDocs, counted_of}
use Rattle.sideways.specs.Refusals.{first_refused}
use Rattle.sideways.specs.declared.pass.Pass.{Pass}
use Rattle.sideways.specs.declared.pass.LiftedPass.{LiftedPass}
use Rattle.sideways.specs.declared.pass.LiftedCounts.{LiftedCounts}
use Rattle.sideways.specs.declared.pass.Found.{Found}

-- The pass is over these segments, with the documents that pass the test, and its counter is new.
pub record IsPassOf (q : Question) (test : Doc → Bool) (segments : List Records) (pass : Pass) : Type 0 where
  pub parts : ArePartsOf test segments pass.parts.items
  pub fresh : HasAdded pass.counter []
  pub labels : pass.counter.labels ≡ q.labels
  pub config : pass.counter.config ≡ q.config

-- The dimension is one of the drill, and the pass is over its near misses.
pub record IsLiftedOf (q : Question) (segments : List Records) (l : LiftedPass) : Type 0 where
  pub drilled : is_drilled q.drill l.dim.now ≡ true
  pub pass : IsPassOf q (is_near q.query q.drill l.dim.now) segments l.pass

-- the dimension of a pass, as bytes
abbrev pub dim_in : LiftedPass → List ℕ
dim_in l = l.dim.now

-- No dimension occurs twice.
abbrev pub AreDistinct : List (List ℕ) → Type 0
AreDistinct [] = Unit {0}
AreDistinct (d ∷ ds) = AllByRecursion (λ e. e ≡ d → ⊥) ds × AreDistinct ds

-- one part more
pub record HasPart (test : Doc → Bool) (segment : Records) (old new : Pass) : Type 0 where
  pub part : PartLeft
  pub is : IsPartOf test segment part
  pub parts : new.parts.items ≡ old.parts.items ++ part ∷ []
  pub counter : new.counter ≡ old.counter

-- a part more for each segment
pub record HasParts (test : Doc → Bool) (segments : List Records) (old new : Pass) : Type 0 where
  pub more : List PartLeft
  pub are : ArePartsOf test segments more
  pub parts : new.parts.items ≡ old.parts.items ++ more
  pub counter : new.counter ≡ old.counter

-- the pass of the dimension has one part more: the near misses of a segment
abbrev pub HasNear : QueryTree → List (List (List ℕ)) → Records → LiftedPass → LiftedPass → Type 0
HasNear query drill segment old new = (new.dim ≡ old.dim)
    × HasPart (is_near query drill old.dim.now) segment old.pass new.pass

-- the same for each segment
abbrev pub HasNears : QueryTree → List (List (List ℕ)) → List Records → LiftedPass → LiftedPass → Type 0
HasNears query drill segments old new = (new.dim ≡ old.dim)
    × HasParts (is_near query drill old.dim.now) segments old.pass new.pass

-- The segments have documents, no ask is rejected, and there is a pass for the hits and, if sideways, for each drilled
-- dimension.
pub record IsPlan (q : Question) (pass : Pass) (lifted : List LiftedPass) : Type 0 where
  pub docs : (docs : List Doc) × HasDocs q docs × (length docs ≤ 1000000)
  pub list : IsLabelList q.labels
  pub fit : first_refused q.config q.asks ≡ None
  pub hits : IsPassOf q (passes_all q.query q.drill None) q.segments pass
  pub each : AllByRecursion (λ l. IsLiftedOf q q.segments l) lifted
  pub covers : (dim : List ℕ) → list_any (λ l. bytes_eq l.dim.now dim) lifted
      ≡ (q.sideways && list_any (λ path. bytes_eq (dim_of path) dim) q.drill)

-- The pass has one part more: the records at the places of a set.
pub record IsGivenSet (segment : Records) (set : Marked) (old new : LiftedPass) : Type 0 where
  pub dim : new.dim ≡ old.dim
  pub parts : new.pass.parts.items ≡ old.pass.parts.items ++ record { segment = segment; left = set.places } ∷ []
  pub counter : new.pass.counter ≡ old.pass.counter

-- The first k passes were given the sets at their places, and the others did not change.
pub record IsGivenSets (segment : Records) (sets : List Marked) (k : ℕ) (old new : List LiftedPass) : Type 0 where
  pub len : length new ≡ length old
  pub done : (j : ℕ) (set : Marked) (l : LiftedPass) → j < k → j < length old
      → IsGivenSet segment (slice_index_or sets j set) (slice_index_or old j l) (slice_index_or new j l)
  pub rest : (j : ℕ) (l : LiftedPass) → k ≤ j → slice_index_or new j l ≡ slice_index_or old j l

-- There is capacity for the places of the wanted hits, at most a million, and for the counts of each pass.
pub record HasRoom (wanted : ℕ) (lifted : List LiftedPass) (places : Vec ℕ Global)
    (counted : Vec LiftedCounts Global) : Type 0 where
  pub no_places : places.items ≡ []
  pub for_places : min wanted 1000000 ≤ vec_capacity places
  pub no_counts : counted.items ≡ []
  pub for_counts : length lifted ≤ vec_capacity counted

-- These are the counts of the documents that pass.
pub record AreCountsOf (q : Question) (lift : Option (List ℕ)) (counts : Totals) : Type 0 where
  pub labels : counts.labels ≡ q.labels
  pub config : counts.config ≡ q.config
  pub each : (docs : List Doc) → HasDocs q docs
      → AreCounts counts (counted_of q (filter (passes_all q.query q.drill lift) docs))

-- the hits were counted
abbrev pub AreHitsIn : Question → Tally → Type 0
AreHitsIn q tally = (docs : List Doc) → HasDocs q docs → HasAdded tally (counted_of q (hits docs q.query q.drill))

-- The segments have documents, and no ask is rejected; the counts are those of the hits and, if sideways, of each
-- drilled dimension; these are the hits.
pub record IsAnswered (q : Question) (found : Found) (lifted : List LiftedCounts) : Type 0 where
  pub docs : (docs : List Doc) × HasDocs q docs × (length docs ≤ 1000000)
  pub list : IsLabelList q.labels
  pub fit : first_refused q.config q.asks ≡ None
  pub counts : AreCountsOf q None found.counts
  pub each : AllByRecursion (λ l. AreCountsOf q (Some l.dim.now) l.counts) lifted
  pub covers : (dim : List ℕ) → list_any (λ l. bytes_eq l.dim.now dim) lifted
      ≡ (q.sideways && list_any (λ path. bytes_eq (dim_of path) dim) q.drill)
  pub number : (docs : List Doc) → HasDocs q docs → found.number ≡ length (hits docs q.query q.drill)
  pub first : (docs : List Doc) → HasDocs q docs → found.places.items
      ≡ take q.hits (places (is_hit q.query q.drill) docs)
