-- The leaves of the hits are their labels.
use Rattle.std.proofs.Common.{◌≡◌, ℕ, zero, suc, ◌+◌, ◌<◌, ◌≤◌, Bool, true, false, cond, List, [], ◌∷◌, ◌++◌, length, map, get_or, slice_get, take, Option, Some, None, refl, sym, ap, ◌∙◌, arith}
use Rattle.std.specs.Prelude.{◌||◌, count_by, filter, filter_map, flat_map, nat_lt, sum_by}
use Rattle.std.specs.List.{AllByRecursion, AllZip, cons_option, list_any}
use Rattle.std.specs.Option.{is_some, option_map_or}
use Rattle.std.proofs.lemmas.Bool.{lt-ltb}
use Rattle.std.proofs.lemmas.Grind.{flat_map-append}
use Rattle.std.proofs.lemmas.List.{append-nil, length-map, map-append, take_more}
use Rattle.std.proofs.lemmas.List.Elements.{filter-append}
use Rattle.std.proofs.lemmas.List.Sums.{count_by-le-length, length-filter, sum_by-cons}
use Rattle.std.proofs.lemmas.Option.{slice_get_within}
use Rattle.facet_model.specs.CountedPaths.{places}
use Rattle.facet_model.specs.Documents.{Doc}
use Rattle.facet_model.specs.Flags.{Config}
use Rattle.facet_model.specs.Hits.{hits, is_hit}
use Rattle.facet_model.specs.Queries.{QueryTree}
use Rattle.facet_model.specs.Stored.{Stored, Records, AreLabelsAt, Decodes, IsRecordOf, IsSegmentOf, alive, alive_from, is_dead, live_docs}
use Rattle.query_eval.specs.Segments.{HasTermsOf}
use Rattle.live_records.proofs.Alive.{is_in-is_dead, places_from}
use Rattle.seg_drill.specs.Passing.{passes_all}
use Rattle.seg_grammar.specs.Lookups.{record_of}
use Rattle.seg_grammar.proofs.Marks.{no_record}
use Rattle.seg_postings.specs.Sets.{picked, without}
use Rattle.sideways.specs.Counted.{ArePartsOf, IsPartOf, PartLeft}
use Rattle.sideways.proofs.Decoded.{terms_are}
use Rattle.value_facets.specs.Hits.{leaves_at, leaves_of}

-- each segment has documents
pub has_terms : (known : List (List (List ℕ))) (config : Config) (segments : List Records) (docs : List Doc) → Decodes known config segments docs → AllByRecursion (λ s. (docs : List Doc) × HasTermsOf s docs) segments
has_terms known config segments docs has = each segments has.0 has.1
  where
    each : (segments : List Records) (pieces : List (List Doc)) → AllZip (IsSegmentOf known config) segments pieces → AllByRecursion (λ s. (docs : List Doc) × HasTermsOf s docs) segments
    each [] pieces are = tt
    each (s ∷ ss) [] are = absurd are
    each (s ∷ ss) (d ∷ ds) are = ((d, terms_are known config s d are.0), each ss ds are.1)

-- ---- one segment

module _ (known : List (List (List ℕ))) (config : Config) (test : Doc → Bool) (all : List Stored) (dead : List ℕ) where
  leaves_from : (k : ℕ) (stored : List Stored) (docs : List Doc) → AllZip (IsRecordOf known config) stored docs → ((i : ℕ) → i < length stored → get_or all (k + i) no_record ≡ get_or stored i no_record)
      → map (map (slice_get known)) (map (λ place. (get_or all place no_record).leaves) (without (places_from k test docs) dead)) ≡ map (λ (doc : Doc). map Some doc.labels) (filter test (alive_from dead k docs))
  unfolding without picked
  leaves_from k [] [] are same = refl
  leaves_from k [] (d ∷ ds) are same = absurd are
  leaves_from k (s ∷ ss) [] are same = absurd are
  leaves_from k (s ∷ ss) (d ∷ ds) are same =
      by (is_dead dead k) refl (test d) refl (leaves_from (k + 1) ss ds are.1 (λ i lt. let e : (k + 1) + i ≡ k + suc i = omega arith in ap (λ n. get_or all n no_record) e ∙ same (suc i) (omega arith)))
    where
      here : map (slice_get known) (get_or all k no_record).leaves ≡ map Some d.labels
      here = let e : k ≡ k + 0 = omega arith in ap (λ n. map (slice_get known) (get_or all n no_record).leaves) e ∙ ap (λ (r : Stored). map (slice_get known) r.leaves) (same 0 (omega arith)) ∙ are.0.labels

      by : (b : Bool) → is_dead dead k ≡ b → (t : Bool) → test d ≡ t
          → map (map (slice_get known)) (map (λ place. (get_or all place no_record).leaves) (without (places_from (k + 1) test ds) dead)) ≡ map (λ (doc : Doc). map Some doc.labels) (filter test (alive_from dead (k + 1) ds))
          → map (map (slice_get known)) (map (λ place. (get_or all place no_record).leaves) (without (places_from k test (d ∷ ds)) dead)) ≡ map (λ (doc : Doc). map Some doc.labels) (filter test (alive_from dead k (d ∷ ds)))
      by true h true g rest = rw (h, g, is_in-is_dead k dead ∙ h) rest
      by true h false g rest = rw (h, g) rest
      by false h true g rest = rw (h, g, is_in-is_dead k dead ∙ h) (λ i. here i ∷ rest i)
      by false h false g rest = rw (h, g) rest

-- the leaves of the live records at the places of the documents that pass
leaves_are : (known : List (List (List ℕ))) (config : Config) (test : Doc → Bool) (segment : Records) (docs : List Doc) → IsSegmentOf known config segment docs
    → map (map (slice_get known)) (leaves_at segment (without (places test docs) segment.dead)) ≡ map (λ (doc : Doc). map Some doc.labels) (filter test (alive segment.dead docs))
leaves_are known config test segment docs is = leaves_from known config test segment.records segment.dead 0 segment.records docs is.records (λ i lt. let e : 0 + i ≡ i = omega arith in ap (λ n. get_or segment.records n no_record) e)

-- ---- all segments

module _ (known : List (List (List ℕ))) (config : Config) (test : Doc → Bool) where
  part_leaves : (segment : Records) (part : PartLeft) (docs : List Doc) → IsPartOf test segment part → IsSegmentOf known config segment docs
      → map (map (slice_get known)) (leaves_at part.segment part.left) ≡ map (λ (doc : Doc). map Some doc.labels) (filter test (alive segment.dead docs))
  part_leaves segment part docs part_is is = (λ i. map (map (slice_get known)) (leaves_at (part_is.same i) (part_is.left docs (terms_are known config segment docs is) i))) ∙ leaves_are known config test segment docs is

  all_leaves : (segments : List Records) (parts : List PartLeft) (pieces : List (List Doc)) → ArePartsOf test segments parts → AllZip (IsSegmentOf known config) segments pieces
      → map (map (slice_get known)) (leaves_of parts) ≡ map (λ (doc : Doc). map Some doc.labels) (filter test (live_docs segments pieces))
  all_leaves [] [] [] parts are = refl
  all_leaves [] [] (d ∷ ds) parts are = absurd are
  all_leaves [] (p ∷ ps) pieces parts are = absurd parts
  all_leaves (s ∷ ss) [] pieces parts are = absurd parts
  all_leaves (s ∷ ss) (p ∷ ps) [] parts are = absurd are
  all_leaves (s ∷ ss) (p ∷ ps) (d ∷ ds) parts are =
      map-append (map (slice_get known)) (leaves_at p.segment p.left) (leaves_of ps)
      ∙ (λ i. part_leaves s p d parts.0 are.0 i ++ all_leaves ss ps ds parts.1 are.1 i)
      ∙ sym (ap (map (λ (doc : Doc). map Some doc.labels)) (filter-append test (alive s.dead d) (live_docs ss ds)) ∙ map-append (λ (doc : Doc). map Some doc.labels) (filter test (alive s.dead d)) (filter test (live_docs ss ds)))

-- ---- what the labels at leaves say of them

head_is : {A : Type 0} {x y : A} {xs ys : List A} → x ∷ xs ≡ y ∷ ys → x ≡ y
head_is h = cc

tail_is : {A : Type 0} {x y : A} {xs ys : List A} → x ∷ xs ≡ y ∷ ys → xs ≡ ys
tail_is h = cc

module _ (known : List (List (List ℕ))) where
  -- the leaves of each list are the labels of the document
  abbrev pub AreLeavesOf : List (List ℕ) → List Doc → Type 0
  AreLeavesOf lists docs = AllZip (λ leaves (doc : Doc). AreLabelsAt known leaves doc.labels) lists docs

  zipped : (lists : List (List ℕ)) (docs : List Doc) → map (map (slice_get known)) lists ≡ map (λ (doc : Doc). map Some doc.labels) docs → AreLeavesOf lists docs
  zipped [] [] are = tt
  zipped [] (d ∷ ds) are = absurd cc
  zipped (l ∷ ls) [] are = absurd cc
  zipped (l ∷ ls) (d ∷ ds) are = (head_is are, zipped ls ds (tail_is are))

  leaves_known : (leaves : List ℕ) (labels : List (List (List ℕ))) → AreLabelsAt known leaves labels → AllByRecursion (λ ord. ord < length known) leaves
  leaves_known [] labels are = tt
  leaves_known (o ∷ os) [] are = absurd cc
  leaves_known (o ∷ os) (l ∷ ls) are = (slice_get_within known o l (head_is are), leaves_known os ls (tail_is are))

  each_known : (lists : List (List ℕ)) (docs : List Doc) → AreLeavesOf lists docs → AllByRecursion (λ leaves. AllByRecursion (λ ord. ord < length known) leaves) lists
  each_known [] docs are = tt
  each_known (l ∷ ls) [] are = absurd are
  each_known (l ∷ ls) (d ∷ ds) are = (leaves_known l d.labels are.0, each_known ls ds are.1)

  -- two functions that agree on leaves and their labels have the same sum
  pub sums_same : (f : List ℕ → ℕ) (g : List (List (List ℕ)) → ℕ) → ((leaves : List ℕ) (labels : List (List (List ℕ))) → AreLabelsAt known leaves labels → f leaves ≡ g labels)
      → (lists : List (List ℕ)) (docs : List Doc) → AreLeavesOf lists docs → sum_by f lists ≡ sum_by (λ (doc : Doc). g doc.labels) docs
  sums_same f g same [] [] are = refl
  sums_same f g same [] (d ∷ ds) are = absurd are
  sums_same f g same (l ∷ ls) [] are = absurd are
  sums_same f g same (l ∷ ls) (d ∷ ds) are =
      sum_by-cons f l ls
      ∙ (λ i. same l d.labels are.0 i + sums_same f g same ls ds are.1 i)
      ∙ sym (sum_by-cons (λ (doc : Doc). g doc.labels) d ds)

  -- a test of ordinals and one of their labels, and the same for values that are found
  pub any_same : (Q : ℕ → Bool) (P : List (List ℕ) → Bool) → ((ord : ℕ) (label : List (List ℕ)) → slice_get known ord ≡ Some label → Q ord ≡ P label)
      → (leaves : List ℕ) (labels : List (List (List ℕ))) → AreLabelsAt known leaves labels → list_any Q leaves ≡ list_any P labels
  any_same Q P same [] [] are = refl
  any_same Q P same [] (l ∷ ls) are = absurd cc
  any_same Q P same (o ∷ os) [] are = absurd cc
  any_same Q P same (o ∷ os) (l ∷ ls) are = λ i. same o l (head_is are) i || any_same Q P same os ls (tail_is are) i

  pub found_same : {A : Type 0} (f : ℕ → Option A) (g : List (List ℕ) → Option A) → ((ord : ℕ) (label : List (List ℕ)) → slice_get known ord ≡ Some label → f ord ≡ g label)
      → (leaves : List ℕ) (labels : List (List (List ℕ))) → AreLabelsAt known leaves labels → filter_map f leaves ≡ filter_map g labels
  found_same f g same [] [] are = refl
  found_same f g same [] (l ∷ ls) are = absurd cc
  found_same f g same (o ∷ os) [] are = absurd cc
  found_same f g same (o ∷ os) (l ∷ ls) are = λ i. cons_option (same o l (head_is are) i) (found_same f g same os ls (tail_is are) i)

  pub flat_same : {A : Type 0} (f : ℕ → Option A) (g : List (List ℕ) → Option A) → ((ord : ℕ) (label : List (List ℕ)) → slice_get known ord ≡ Some label → f ord ≡ g label)
      → (lists : List (List ℕ)) (docs : List Doc) → AreLeavesOf lists docs → flat_map (λ leaves. filter_map f leaves) lists ≡ flat_map (λ (doc : Doc). filter_map g doc.labels) docs
  flat_same f g same [] [] are = refl
  flat_same f g same [] (d ∷ ds) are = absurd are
  flat_same f g same (l ∷ ls) [] are = absurd are
  flat_same f g same (l ∷ ls) (d ∷ ds) are = λ i. found_same f g same l d.labels are.0 i ++ flat_same f g same ls ds are.1 i

-- ---- the leaves of all records

module _ (known : List (List (List ℕ))) (config : Config) where
  stored_within : (stored : List Stored) (docs : List Doc) → AllZip (IsRecordOf known config) stored docs → (i : ℕ) → i < length stored → AllByRecursion (λ ord. ord < length known) (get_or stored i no_record).leaves
  stored_within [] docs are i lt = absurd (omega arith)
  stored_within (s ∷ ss) [] are i lt = absurd are
  stored_within (s ∷ ss) (d ∷ ds) are zero lt = leaves_known known s.leaves d.labels are.0.labels
  stored_within (s ∷ ss) (d ∷ ds) are (suc i) lt = stored_within ss ds are.1 i (omega arith)

  pieces_within : (segments : List Records) (pieces : List (List Doc)) → AllZip (IsSegmentOf known config) segments pieces → AllByRecursion (λ segment. (place : ℕ) → place < length segment.records → AllByRecursion (λ ord. ord < length known) (record_of segment place).leaves) segments
  pieces_within [] pieces are = tt
  pieces_within (s ∷ ss) [] are = absurd are
  pieces_within (s ∷ ss) (d ∷ ds) are = (stored_within s.records d are.0.records, pieces_within ss ds are.1)

  -- there is a label at each leaf of each record
  pub records_within : (segments : List Records) (docs : List Doc) → Decodes known config segments docs → AllByRecursion (λ segment. (place : ℕ) → place < length segment.records → AllByRecursion (λ ord. ord < length known) (record_of segment place).leaves) segments
  records_within segments docs has = pieces_within segments has.0 has.1

-- ---- values that are found

-- a value that is found passes the test
any_found : {A B : Type 0} (p : B → Bool) (g : A → Option B) (xs : List A) → list_any (λ x. option_map_or p (g x) false) xs ≡ list_any p (filter_map g xs)
any_found p g [] = refl
any_found {A} {B} p g (x ∷ xs) = by (g x) (any_found p g xs)
  where
    by : (o : Option B) → list_any (λ x. option_map_or p (g x) false) xs ≡ list_any p (filter_map g xs) → (option_map_or p o false || list_any (λ x. option_map_or p (g x) false) xs) ≡ list_any p (cons_option o (filter_map g xs))
    by None rest = rest
    by (Some y) rest = ap (λ b. p y || b) rest

-- a value is found
some_found : {A B : Type 0} (g : A → Option B) (xs : List A) → list_any (λ x. is_some (g x)) xs ≡ nat_lt 0 (length (filter_map g xs))
some_found g [] = refl
some_found {A} {B} g (x ∷ xs) = by (g x) (some_found g xs)
  where
    by : (o : Option B) → list_any (λ x. is_some (g x)) xs ≡ nat_lt 0 (length (filter_map g xs)) → (is_some o || list_any (λ x. is_some (g x)) xs) ≡ nat_lt 0 (length (cons_option o (filter_map g xs)))
    by None rest = rest
    by (Some y) rest = sym (lt-ltb 0 (suc (length (filter_map g xs))) (omega arith))

-- ---- part by part

-- each part is one of its segment
pub same_segments : (test : Doc → Bool) (segments : List Records) (parts : List PartLeft) → ArePartsOf test segments parts → AllZip (λ s (p : PartLeft). p.segment ≡ s) segments parts
same_segments test [] [] are = tt
same_segments test [] (p ∷ ps) are = absurd are
same_segments test (s ∷ ss) [] are = absurd are
same_segments test (s ∷ ss) (p ∷ ps) are = (are.0.same, same_segments test ss ps are.1)

-- one part more
pub leaves_to : (parts : List PartLeft) (i : ℕ) (p : PartLeft) → i < length parts → get_or parts i p ≡ p → leaves_of (take (i + 1) parts) ≡ leaves_of (take i parts) ++ leaves_at p.segment p.left
leaves_to parts i p lt here =
    ap leaves_of (take_more parts i p lt ∙ ap (λ q. take i parts ++ q ∷ []) here)
    ∙ flat_map-append (λ (q : PartLeft). leaves_at q.segment q.left) (take i parts) (p ∷ [])
    ∙ ap (λ l. leaves_of (take i parts) ++ l) (append-nil (leaves_at p.segment p.left))

-- ---- the hits

module _ (known : List (List (List ℕ))) (config : Config) (segments : List Records) (docs : List Doc) (query : QueryTree) (drill : List (List (List ℕ))) (parts : List PartLeft)
    (has : Decodes known config segments docs) (are : ArePartsOf (passes_all query drill None) segments parts) where
  -- the labels at the leaves are those of the hits
  pub labels_of_hits : map (map (slice_get known)) (leaves_of parts) ≡ map (λ (doc : Doc). map Some doc.labels) (hits docs query drill)
  labels_of_hits = all_leaves known config (passes_all query drill None) segments parts has.0 are has.1 ∙ ap (λ (ds : List Doc). map (λ (doc : Doc). map Some doc.labels) (filter (passes_all query drill None) ds)) (sym has.2)

  -- as many records as hits
  pub number_of_hits : length (leaves_of parts) ≡ length (hits docs query drill)
  number_of_hits =
      sym (length-map (leaves_of parts) (map (slice_get known)))
      ∙ ap length labels_of_hits
      ∙ length-map (hits docs query drill) (λ (doc : Doc). map Some doc.labels)

  -- the leaves of each record are the labels of the hit
  pub each_hit : AreLeavesOf known (leaves_of parts) (hits docs query drill)
  each_hit = zipped known (leaves_of parts) (hits docs query drill) labels_of_hits

  -- there is a label at each leaf
  pub leaves_within : AllByRecursion (λ leaves. AllByRecursion (λ ord. ord < length known) leaves) (leaves_of parts)
  leaves_within = each_known known (leaves_of parts) (hits docs query drill) each_hit

  -- no more records than documents
  pub number_most : length (leaves_of parts) ≤ length docs
  number_most = omega (arith, number_of_hits, length-filter (is_hit query drill) docs, count_by-le-length (is_hit query drill) docs)

  -- as many records have a leaf as hits have a label for which it holds
  pub count_any : (P : List (List ℕ) → Bool) (Q : ℕ → Bool) → ((ord : ℕ) (label : List (List ℕ)) → slice_get known ord ≡ Some label → Q ord ≡ P label)
      → count_by (λ leaves. list_any Q leaves) (leaves_of parts) ≡ count_by (λ (doc : Doc). list_any P doc.labels) (hits docs query drill)
  count_any P Q same = sums_same known (λ leaves. cond (list_any Q leaves) 1 0) (λ labels. cond (list_any P labels) 1 0) (λ leaves labels are. ap (λ b. cond b 1 0) (any_same known Q P same leaves labels are)) (leaves_of parts) (hits docs query drill) each_hit

  -- as many have a leaf for which it holds as hits have a value that passes
  pub count_found : {A : Type 0} (p : A → Bool) (g : List (List ℕ) → Option A) (Q : ℕ → Bool) → ((ord : ℕ) (label : List (List ℕ)) → slice_get known ord ≡ Some label → Q ord ≡ option_map_or p (g label) false)
      → count_by (λ leaves. list_any Q leaves) (leaves_of parts) ≡ count_by (λ (doc : Doc). list_any p (filter_map g doc.labels)) (hits docs query drill)
  count_found p g Q same = count_any (λ label. option_map_or p (g label) false) Q same ∙ ap (λ (t : Doc → Bool). count_by t (hits docs query drill)) (λ i (doc : Doc). any_found p g doc.labels i)

  -- as many have a leaf for which it holds as hits have a value
  pub count_some : {A : Type 0} (g : List (List ℕ) → Option A) (Q : ℕ → Bool) → ((ord : ℕ) (label : List (List ℕ)) → slice_get known ord ≡ Some label → Q ord ≡ is_some (g label))
      → count_by (λ leaves. list_any Q leaves) (leaves_of parts) ≡ count_by (λ (doc : Doc). nat_lt 0 (length (filter_map g doc.labels))) (hits docs query drill)
  count_some g Q same = count_any (λ label. is_some (g label)) Q same ∙ ap (λ (t : Doc → Bool). count_by t (hits docs query drill)) (λ i (doc : Doc). some_found g doc.labels i)

  -- what is found at the leaves is what is found of the labels, in order
  pub flat_of : {A : Type 0} (f : ℕ → Option A) (g : List (List ℕ) → Option A) → ((ord : ℕ) (label : List (List ℕ)) → slice_get known ord ≡ Some label → f ord ≡ g label)
      → flat_map (λ leaves. filter_map f leaves) (leaves_of parts) ≡ flat_map (λ (doc : Doc). filter_map g doc.labels) (hits docs query drill)
  flat_of f g same = flat_same known f g same (leaves_of parts) (hits docs query drill) each_hit
