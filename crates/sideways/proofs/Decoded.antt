-- What segments that have documents say of these.
use Rattle.std.proofs.Common.{◌≡◌, ℕ, zero, suc, ◌+◌, ◌<◌, Bool, true, false, List, [], ◌∷◌, ◌++◌, length, map, get_or, slice_get, Some, refl, sym, ap, ◌∙◌, arith}
use Rattle.std.specs.Prelude.{cond, filter, sum_by}
use Rattle.std.specs.List.{list_all, enumerate_from, AllZip}
use Rattle.std.proofs.lemmas.Bool.{and_from}
use Rattle.std.proofs.lemmas.List.{length-append}
use Rattle.std.proofs.lemmas.List.Elements.{filter-append}
use Rattle.std.specs.Cmp.Lexicographic.{bytes_decides, pointwise_decides}
use Rattle.std.proofs.lemmas.List.Sums.{sum_by-cons}
use Rattle.std.proofs.lemmas.Slice.Zip.{AllZip-long}
use Rattle.facet_names.specs.Labels.{IsLabelList, stands}
use Rattle.facet_names.specs.Paths.{path_eq}
use Rattle.facet_model.specs.CountedPaths.{places, counted_ordinals}
use Rattle.facet_model.specs.Documents.{Doc}
use Rattle.facet_model.specs.Flags.{Config}
use Rattle.facet_model.specs.Stored.{Stored, Records, AreLabelsAt, IsRecordOf, IsSegmentOf, alive, alive_from, is_dead, live_before, live_docs}
use Rattle.facet_counts.specs.Laws.{MayBeCounted}
use Rattle.facet_counts.specs.Lists.{IsListOf}
use Rattle.query_eval.specs.Segments.{HasTermsOf}
use Rattle.query_eval.proofs.Marks.{places_from}
use Rattle.live_records.proofs.Alive.{is_in-is_dead, length_alive, live_places}
use Rattle.seg_postings.specs.Sets.{picked, without}
use Rattle.seg_drill.specs.Counting.{AreCountable, lists_at}
use Rattle.sideways.specs.Counted.{ArePartsOf, IsPartOf, PartLeft, lists_of, live_in, placed, ranks_from}
use Rattle.sideways.proofs.Placed.{alive_in}
use Rattle.facet_names.proofs.LabelLists.{label_stands}
use Rattle.seg_grammar.proofs.Marks.{no_record}

-- ---- one segment

pub terms_are : (known : List (List (List ℕ))) (config : Config) (segment : Records) (docs : List Doc) → IsSegmentOf known config segment docs → HasTermsOf segment docs
terms_are known config segment docs is = record { terms = is.terms; records = sym (AllZip-long (IsRecordOf known config) segment.records docs is.records) }

path_same : (path : List (List ℕ)) → path_eq path path ≡ true
path_same path = (pointwise_decides bytes_decides path path).1 refl

labels_stand : (known : List (List (List ℕ))) (leaves : List ℕ) (labels : List (List (List ℕ))) → AreLabelsAt known leaves labels → list_all (stands known) labels ≡ true
labels_stand known [] [] are = refl
labels_stand known [] (l ∷ ls) are = absurd cc
labels_stand known (o ∷ os) [] are = absurd cc
labels_stand known (o ∷ os) (l ∷ ls) are = and_from (stands known l) (list_all (stands known) ls) (label_stands known o l (head_is are)) (labels_stand known os ls (tail_is are))
  where
    head_is : slice_get known o ∷ map (slice_get known) os ≡ Some l ∷ map Some ls → slice_get known o ≡ Some l
    head_is h = cc

    tail_is : slice_get known o ∷ map (slice_get known) os ≡ Some l ∷ map Some ls → map (slice_get known) os ≡ map Some ls
    tail_is h = cc

-- the counted ordinals of a record are those of its document
pub list_is : (known : List (List (List ℕ))) (config : Config) (stored : Stored) (doc : Doc) → IsRecordOf known config stored doc → IsListOf config known stored.counted doc
list_is known config stored doc is = record { accepted = is.accepted; known = is.prefixes; counted = is.counted }

record_at : (known : List (List (List ℕ))) (config : Config) (stored : List Stored) (docs : List Doc) → AllZip (IsRecordOf known config) stored docs → (i : ℕ) → i < length stored → (doc : Doc) × IsRecordOf known config (get_or stored i no_record) doc
record_at known config [] docs all i lt = absurd (omega arith)
record_at known config (s ∷ ss) [] all i lt = absurd all
record_at known config (s ∷ ss) (d ∷ ds) all zero lt = (d, all.0)
record_at known config (s ∷ ss) (d ∷ ds) all (suc i) lt = record_at known config ss ds all.1 i (omega arith)

pub countable_of : MayBeCounted → (known : List (List (List ℕ))) (config : Config) → IsLabelList known → (segment : Records) (docs : List Doc) → IsSegmentOf known config segment docs → AreCountable config known segment
countable_of may known config list segment docs is i lt =
    let found = record_at known config segment.records docs is.records i lt in
    may config known (get_or segment.records i no_record).counted found.0 list (list_is known config (get_or segment.records i no_record) found.0 found.1)

-- the lists of the live records at the places of the documents that pass
module _ (known : List (List (List ℕ))) (config : Config) (test : Doc → Bool) (all : List Stored) (dead : List ℕ) where
  lists_from : (k : ℕ) (stored : List Stored) (docs : List Doc) → AllZip (IsRecordOf known config) stored docs → ((i : ℕ) → i < length stored → get_or all (k + i) no_record ≡ get_or stored i no_record)
      → map (λ place. (get_or all place no_record).counted) (without (places_from k test docs) dead) ≡ map (λ (doc : Doc). counted_ordinals known config doc.labels) (filter test (alive_from dead k docs))
  unfolding without picked
  lists_from k [] [] are same = refl
  lists_from k [] (d ∷ ds) are same = absurd are
  lists_from k (s ∷ ss) [] are same = absurd are
  lists_from k (s ∷ ss) (d ∷ ds) are same =
      by (is_dead dead k) refl (test d) refl (lists_from (k + 1) ss ds are.1 (λ i lt. let e : (k + 1) + i ≡ k + suc i = omega arith in ap (λ n. get_or all n no_record) e ∙ same (suc i) (omega arith)))
    where
      here : (get_or all k no_record).counted ≡ counted_ordinals known config d.labels
      here = let e : k ≡ k + 0 = omega arith in ap (λ n. (get_or all n no_record).counted) e ∙ ap (λ (r : Stored). r.counted) (same 0 (omega arith)) ∙ are.0.counted

      by : (b : Bool) → is_dead dead k ≡ b → (t : Bool) → test d ≡ t
          → map (λ place. (get_or all place no_record).counted) (without (places_from (k + 1) test ds) dead) ≡ map (λ (doc : Doc). counted_ordinals known config doc.labels) (filter test (alive_from dead (k + 1) ds))
          → map (λ place. (get_or all place no_record).counted) (without (places_from k test (d ∷ ds)) dead) ≡ map (λ (doc : Doc). counted_ordinals known config doc.labels) (filter test (alive_from dead k (d ∷ ds)))
      by true h true g rest = rw (h, g, is_in-is_dead k dead ∙ h) rest
      by true h false g rest = rw (h, g) rest
      by false h true g rest = rw (h, g, is_in-is_dead k dead ∙ h) (λ i. here i ∷ rest i)
      by false h false g rest = rw (h, g) rest

pub lists_are : (known : List (List (List ℕ))) (config : Config) (test : Doc → Bool) (segment : Records) (docs : List Doc) → IsSegmentOf known config segment docs
    → lists_at segment (without (places test docs) segment.dead) ≡ map (λ (doc : Doc). counted_ordinals known config doc.labels) (filter test (alive segment.dead docs))
lists_are known config test segment docs is = lists_from known config test segment.records segment.dead 0 segment.records docs is.records (λ i lt. let e : 0 + i ≡ i = omega arith in ap (λ n. get_or segment.records n no_record) e)

-- ---- all segments

filter_join : (test : Doc → Bool) (xs ys : List Doc) → filter test (xs ++ ys) ≡ filter test xs ++ filter test ys
filter_join test xs ys = filter-append test xs ys

map_join : (f : Doc → List ℕ) (xs ys : List Doc) → map f (xs ++ ys) ≡ map f xs ++ map f ys
map_join f [] ys = refl
map_join f (x ∷ xs) ys = ap (λ l. f x ∷ l) (map_join f xs ys)

module _ (known : List (List (List ℕ))) (config : Config) (test : Doc → Bool) where
  abbrev counted_for : List Doc → List (List ℕ)
  counted_for docs = map (λ (doc : Doc). counted_ordinals known config doc.labels) (filter test docs)

  part_lists : (segment : Records) (part : PartLeft) (docs : List Doc) → IsPartOf test segment part → IsSegmentOf known config segment docs → lists_at part.segment part.left ≡ counted_for (alive segment.dead docs)
  part_lists segment part docs part_is is = (λ i. lists_at (part_is.same i) (part_is.left docs (terms_are known config segment docs is) i)) ∙ lists_are known config test segment docs is

  pub all_lists : (segments : List Records) (parts : List PartLeft) (pieces : List (List Doc)) → ArePartsOf test segments parts → AllZip (IsSegmentOf known config) segments pieces → lists_of parts ≡ counted_for (live_docs segments pieces)
  all_lists [] [] [] parts are = refl
  all_lists [] [] (d ∷ ds) parts are = absurd are
  all_lists [] (p ∷ ps) pieces parts are = absurd parts
  all_lists (s ∷ ss) [] pieces parts are = absurd parts
  all_lists (s ∷ ss) (p ∷ ps) [] parts are = absurd are
  all_lists (s ∷ ss) (p ∷ ps) (d ∷ ds) parts are =
      (λ i. part_lists s p d parts.0 are.0 i ++ all_lists ss ps ds parts.1 are.1 i)
      ∙ sym (ap (map (λ (doc : Doc). counted_ordinals known config doc.labels)) (filter_join test (alive s.dead d) (live_docs ss ds)) ∙ map_join (λ (doc : Doc). counted_ordinals known config doc.labels) (filter test (alive s.dead d)) (filter test (live_docs ss ds)))

  alive_are : (segment : Records) (part : PartLeft) (docs : List Doc) → IsPartOf test segment part → IsSegmentOf known config segment docs → alive_in part ≡ length (alive segment.dead docs)
  alive_are segment part docs part_is is = ap live_in part_is.same ∙ ap (live_before segment.dead) (terms_are known config segment docs is).records ∙ sym (length_alive segment.dead docs)

  pub all_records : (segments : List Records) (parts : List PartLeft) (pieces : List (List Doc)) → ArePartsOf test segments parts → AllZip (IsSegmentOf known config) segments pieces → sum_by alive_in parts ≡ length (live_docs segments pieces)
  all_records [] [] [] parts are = refl
  all_records [] [] (d ∷ ds) parts are = absurd are
  all_records [] (p ∷ ps) pieces parts are = absurd parts
  all_records (s ∷ ss) [] pieces parts are = absurd parts
  all_records (s ∷ ss) (p ∷ ps) [] parts are = absurd are
  all_records (s ∷ ss) (p ∷ ps) (d ∷ ds) parts are = omega (arith, sum_by-cons alive_in p ps, alive_are s p d parts.0 are.0, all_records ss ps ds parts.1 are.1, length-append (alive s.dead d) (live_docs ss ds))

  -- ---- the places of all

  map_after : (f g : ℕ → ℕ) (xs : List ℕ) → map (λ n. f (g n)) xs ≡ map f (map g xs)
  map_after f g [] = refl
  map_after f g (x ∷ xs) = ap (λ l. f (g x) ∷ l) (map_after f g xs)

  shifted : (base k : ℕ) (docs : List Doc) → map (λ n. base + n) (places_from k test docs) ≡ places_from (base + k) test docs
  shifted base k [] = refl
  shifted base k (d ∷ ds) = by (test d) (shifted base (k + 1) ds ∙ (let e : base + (k + 1) ≡ (base + k) + 1 = omega arith in ap (λ n. places_from n test ds) e))
    where
      by : (b : Bool) → map (λ n. base + n) (places_from (k + 1) test ds) ≡ places_from ((base + k) + 1) test ds
          → map (λ n. base + n) (map (λ e. e.0) (cond b ((k, d) ∷ filter (λ e. test e.1) (enumerate_from (k + 1) ds)) (filter (λ e. test e.1) (enumerate_from (k + 1) ds)))) ≡ map (λ e. e.0) (cond b ((base + k, d) ∷ filter (λ e. test e.1) (enumerate_from ((base + k) + 1) ds)) (filter (λ e. test e.1) (enumerate_from ((base + k) + 1) ds)))
      by true rest = ap (λ l. (base + k) ∷ l) rest
      by false rest = rest

  pub from_join : (k : ℕ) (xs ys : List Doc) → places_from k test (xs ++ ys) ≡ places_from k test xs ++ places_from (k + length xs) test ys
  from_join k [] ys = let e : k ≡ k + 0 = omega arith in ap (λ n. places_from n test ys) e
  from_join k (x ∷ xs) ys = by (test x) (from_join (k + 1) xs ys ∙ (let e : (k + 1) + length xs ≡ k + suc (length xs) = omega arith in ap (λ n. places_from (k + 1) test xs ++ places_from n test ys) e))
    where
      by : (b : Bool) → places_from (k + 1) test (xs ++ ys) ≡ places_from (k + 1) test xs ++ places_from (k + suc (length xs)) test ys
          → map (λ e. e.0) (cond b ((k, x) ∷ filter (λ e. test e.1) (enumerate_from (k + 1) (xs ++ ys))) (filter (λ e. test e.1) (enumerate_from (k + 1) (xs ++ ys)))) ≡ map (λ e. e.0) (cond b ((k, x) ∷ filter (λ e. test e.1) (enumerate_from (k + 1) xs)) (filter (λ e. test e.1) (enumerate_from (k + 1) xs))) ++ places_from (k + suc (length xs)) test ys
      by true rest = ap (λ l. k ∷ l) rest
      by false rest = rest

  pub all_placed : (base : ℕ) (segments : List Records) (parts : List PartLeft) (pieces : List (List Doc)) → ArePartsOf test segments parts → AllZip (IsSegmentOf known config) segments pieces → placed base parts ≡ places_from base test (live_docs segments pieces)
  all_placed base [] [] [] parts are = refl
  all_placed base [] [] (d ∷ ds) parts are = absurd are
  all_placed base [] (p ∷ ps) pieces parts are = absurd parts
  all_placed base (s ∷ ss) [] pieces parts are = absurd parts
  all_placed base (s ∷ ss) (p ∷ ps) [] parts are = absurd are
  all_placed base (s ∷ ss) (p ∷ ps) (d ∷ ds) parts are =
      let first : ranks_from base p.segment p.left ≡ places_from base test (alive s.dead d) =
      (λ i. ranks_from base (parts.0.same i) (parts.0.left d (terms_are known config s d are.0) i))
      ∙ map_after (λ n. base + n) (live_before s.dead) (without (places test d) s.dead)
      ∙ ap (map (λ n. base + n)) (live_places s.dead test 0 d)
      ∙ shifted base 0 (alive s.dead d)
      ∙ (let e : base + 0 ≡ base = omega arith in ap (λ n. places_from n test (alive s.dead d)) e) in
      let rest : placed (base + alive_in p) ps ≡ places_from (base + length (alive s.dead d)) test (live_docs ss ds) = ap (λ n. placed (base + n) ps) (alive_are s p d parts.0 are.0) ∙ all_placed (base + length (alive s.dead d)) ss ps ds parts.1 are.1 in
      (λ i. first i ++ rest i) ∙ sym (from_join base (alive s.dead d) (live_docs ss ds))
