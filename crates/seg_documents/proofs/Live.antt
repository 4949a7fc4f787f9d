-- Records that are live, of segments.
use Rattle.std.proofs.Common.{◌≡◌, ℕ, List, [], ◌∷◌, ◌++◌, refl, sym, ap, subst, ◌∙◌}
use Rattle.std.specs.Prelude.{flat_map}
use Rattle.std.specs.List.{AllZip, AllByRecursion}
use Rattle.std.proofs.lemmas.List.Concat.{flat_map-cons}
use Rattle.facet_model.specs.Documents.{Doc}
use Rattle.facet_model.specs.Stored.{Stored, Records, alive, live_docs}
use Rattle.live_records.proofs.Alive.{alive_none}
use Rattle.seg_grammar.specs.Spelling.{IsSegment, all_live}
use Rattle.seg_documents.specs.Decoding.{records_in}
use Rattle.facet_model.proofs.Each.{each_from}

-- ---- of one list

-- where none is dead, all are live
pub alive_where_none : {A : Type 0} (dead : List ℕ) (xs : List A) → dead ≡ [] → alive dead xs ≡ xs
alive_where_none dead xs live = ap (λ (d : List ℕ). alive d xs) live ∙ alive_none xs

-- what holds of each holds of the live ones
pub each_alive : {A : Type 0} (P : A → Type 0) (dead : List ℕ) (xs : List A) → AllByRecursion P xs → AllByRecursion P (alive dead xs)
each_alive P dead xs all = each_from P dead 0 xs all

-- ---- of segments

-- all records of the segments are live
abbrev pub AreLive : List Records → Type 0
AreLive segments = AllByRecursion (λ s. s.dead ≡ []) segments

-- a segment all of whose records are live is the same with no dead
pub all_live_is : (s : Records) → s.dead ≡ [] → all_live s ≡ s
all_live_is s live = λ i. record { records = s.records; terms = s.terms; dead = sym live i }

pub own_segment : (bytes : List ℕ) (s : Records) → s.dead ≡ [] → IsSegment bytes (all_live s) → IsSegment bytes s
own_segment bytes s live is = subst (IsSegment bytes) (all_live_is s live) is

-- the live records of one segment, and of those behind it
pub records_first : (s : Records) (ss : List Records) → records_in (s ∷ ss) ≡ alive s.dead s.records ++ records_in ss
records_first s ss = flat_map-cons (λ (x : Records). alive x.dead x.records) s ss

-- all records of one segment, and the live ones of those behind it
pub records_first_live : (s : Records) (ss : List Records) → s.dead ≡ [] → records_in (s ∷ ss) ≡ s.records ++ records_in ss
records_first_live s ss live = records_first s ss ∙ ap (λ (rs : List Stored). rs ++ records_in ss) (alive_where_none s.dead s.records live)

-- where all records are live, these are all of them
pub records_live : (segments : List Records) → AreLive segments → records_in segments ≡ flat_map (λ s. s.records) segments
records_live [] live = refl
records_live (s ∷ ss) live = records_first_live s ss live.0 ∙ ap (λ (rs : List Stored). s.records ++ rs) (records_live ss live.1) ∙ sym (flat_map-cons (λ (x : Records). x.records) s ss)

-- and their documents are all documents
pub docs_live : (R : Records → List Doc → Type 0) (segments : List Records) (pieces : List (List Doc)) → AllZip R segments pieces → AreLive segments → live_docs segments pieces ≡ flat_map (λ p. p) pieces
docs_live R [] [] all live = refl
docs_live R [] (p ∷ ps) all live = absurd all
docs_live R (s ∷ ss) [] all live = absurd all
docs_live R (s ∷ ss) (p ∷ ps) all live = (λ i. alive_where_none s.dead p live.0 i ++ docs_live R ss ps all.1 live.1 i) ∙ sym (flat_map-cons (λ (x : List Doc). x) p ps)
