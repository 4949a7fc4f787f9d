-- What a pass finds and counts, segment by segment.
use Rattle.std.specs.Prelude.{◌≡◌, ℕ, ◌+◌, ◌<◌, ◌≤◌, ◌++◌, ◌/◌, ◌&&◌, Bool, nat_le, filter, true, not, List, [], ◌∷◌}
use Rattle.std.specs.Prelude.{length, take, map, reverse, flat_map, Some, sum_by}
use Rattle.std.specs.List.{list_any, AllZip, AllByRecursion}
use Rattle.std.specs.Str.{bytes_eq}
use Rattle.facet_model.specs.CountedPaths.{places}
use Rattle.facet_model.specs.Documents.{Doc, dim_of}
use Rattle.facet_model.specs.Hits.{passes}
use Rattle.facet_model.specs.Queries.{QueryTree}
use Rattle.facet_model.specs.Stored.{Records, live_before}
use Rattle.facet_counts.specs.Tallies.{Tally, HasAdded}
use Rattle.place_bits.specs.Words.{Marked}
use Rattle.plan_places.specs.Planned.{Planned}
use Rattle.query_eval.specs.Segments.{HasTermsOf}
use Rattle.seg_drill.specs.Counting.{AreCountable, IsGrown, lists_at}
use Rattle.seg_drill.specs.Passing.{passes_all}
use Rattle.seg_postings.specs.Rising.{is_in}
use Rattle.seg_postings.specs.Sets.{without}

-- ---- the documents of a pass

-- the dimension is one of the drill
abbrev pub is_drilled : List (List (List ℕ)) → List ℕ → Bool
is_drilled drill dim = list_any (λ path. bytes_eq (dim_of path) dim) drill

-- it matches the query, and the only dimension of the drill that it fails is this one
abbrev pub is_near : QueryTree → List (List (List ℕ)) → List ℕ → Doc → Bool
is_near query drill dim doc = passes_all query drill (Some dim) doc && not (passes doc drill dim)

-- Each node has the places of the documents that pass the test at its place.
abbrev pub AreNodesFor : List Doc → List (Doc → Bool) → List Planned → Type 0
AreNodesFor docs tests nodes = AllZip (λ test p. p.left ≡ places test docs) tests nodes

-- the node has only places below a bound
abbrev pub IsAmong : ℕ → Planned → Type 0
IsAmong docs p = (n : ℕ) → is_in n p.left ≡ true → n < docs

-- The set has the places of the node, and a bit for each place below the bound.
pub record IsMarkedBy (docs : ℕ) (p : Planned) (set : Marked) : Type 0 where
  pub words : set.words ≡ (docs + 63) / 64
  pub members : (n : ℕ) → is_in n set.places ≡ is_in n p.left

-- the only one of the tests that it fails is this one
abbrev pub fails_alone : List (Doc → Bool) → (Doc → Bool) → Doc → Bool
fails_alone tests test doc = not (test doc) && nat_le (length (filter (λ t. not (t doc)) tests)) 1

-- ---- the records of one segment

pub record PartLeft : Type 0 where
  pub segment : Records
  pub left : List ℕ

-- the part is one of this segment, and has the live records of the documents that pass
pub record IsPartOf (test : Doc → Bool) (segment : Records) (part : PartLeft) : Type 0 where
  pub same : part.segment ≡ segment
  pub left : (docs : List Doc) → HasTermsOf segment docs → part.left ≡ without (places test docs) segment.dead

-- ---- counting

-- the counted ordinals of the records of all parts
abbrev pub lists_of : List PartLeft → List (List ℕ)
lists_of parts = flat_map (λ p. lists_at p.segment p.left) parts

-- how many of the records are live
abbrev pub live_in : Records → ℕ
live_in segment = live_before segment.dead (length segment.records)

-- the ranks of the records at the places among the live ones, counted on from a number
abbrev pub ranks_from : ℕ → Records → List ℕ → List ℕ
ranks_from base segment places = map (λ place. base + live_before segment.dead place) places

-- the places of all parts among the live records, counted on from one segment to the next
abbrev pub placed : ℕ → List PartLeft → List ℕ
placed base [] = []
placed base (p ∷ ps) = ranks_from base p.segment p.left ++ placed (base + live_in p.segment) ps

-- The first places of a part were taken, counted and noted.
pub record IsTaking (old new : PartLeft) (before after : Tally) (base limit : ℕ) (hits more : List ℕ)
    (number : ℕ) : Type 0 where
  pub first : List ℕ
  pub left : old.left ≡ first ++ new.left
  pub segment : new.segment ≡ old.segment
  pub grown : IsGrown before after (lists_at old.segment first)
  pub noted : more ≡ hits ++ ranks_from base old.segment first
  pub as_many : number ≡ length first
  pub few : length more ≤ limit

-- where the first places so far were noted, they still are with those of the part
abbrev pub IsNoting : PartLeft → ℕ → ℕ → List ℕ → List ℕ → Type 0
IsNoting part base limit hits more = (before : List ℕ) → hits ≡ take limit before
    → more ≡ take limit (before ++ ranks_from base part.segment part.left)

-- the last of these places, at most so many, in order
abbrev pub AreLast : ℕ → List ℕ → List ℕ → Type 0
AreLast most places last = reverse last ≡ take most (reverse places)

-- ---- one pass over all segments

-- one part for each segment, with the documents that pass
abbrev pub ArePartsOf : (Doc → Bool) → List Records → List PartLeft → Type 0
ArePartsOf test segments parts = AllZip (IsPartOf test) segments parts

-- The counter can also count what another counter has counted over the same labels.
pub record HasRoomFor (parts : List PartLeft) (tally others : Tally) : Type 0 where
  pub labels : others.labels ≡ tally.labels
  pub config : others.config ≡ tally.config
  pub room : sum_by (λ p. length p.left) parts + others.added ≤ 1000000

-- The counter is new, can count every record, and at most a million of the places left are live records.
pub record IsReady (parts : List PartLeft) (tally : Tally) : Type 0 where
  pub fresh : HasAdded tally []
  pub countable : AllByRecursion (λ p. AreCountable tally.config tally.labels p.segment) parts
  pub room : sum_by (λ p. length p.left) parts ≤ 1000000
  pub few : sum_by (λ p. live_in p.segment) parts ≤ 1000000
