-- What the passes of a plan find.
use Rattle.std.proofs.Common.{◌≡◌, ℕ, ◌≤◌, Bool, true, false, List, [], ◌∷◌, ◌++◌, length, Some, None, refl, sym, ap, subst, ◌∙◌, arith}
use Rattle.std.specs.Prelude.{cond, count_by, filter, sum_by, ◌||◌, ◌&&◌}
use Rattle.std.specs.List.{list_all, list_any, AllByRecursion, AllZip}
use Rattle.std.specs.Str.{bytes_eq}
use Rattle.std.proofs.lemmas.Bool.{or_parts}
use Rattle.std.proofs.lemmas.List.{length-map}
use Rattle.std.proofs.lemmas.List.Sums.{sum_by-append, sum_by-cons}
use Rattle.facet_names.specs.Labels.{IsLabelList}
use Rattle.facet_model.specs.CountedPaths.{places, counted_ordinals}
use Rattle.facet_model.specs.Documents.{Doc, dim_of}
use Rattle.facet_model.specs.Hits.{hits, is_hit, lifted, passes}
use Rattle.facet_model.specs.Queries.{matches}
use Rattle.facet_model.specs.Stored.{Stored, Records, IsRecordOf, IsSegmentOf, alive, live_before, live_docs}
use Rattle.facet_counts.specs.Laws.{MayBeCounted}
use Rattle.facet_counts.specs.Lists.{IsListOf}
use Rattle.facet_counts.specs.Tallies.{Tally, Totals, AreCounts, HasAdded}
use Rattle.query_eval.specs.Segments.{HasTermsOf}
use Rattle.query_eval.proofs.Living.{live_number}
use Rattle.live_records.proofs.Alive.{length_alive}
use Rattle.facet_counts.specs.Lists.{counts_for}
use Rattle.seg_drill.specs.Counting.{AreCountable}
use Rattle.seg_drill.specs.Passing.{passes_all}
use Rattle.sideways.specs.Counted.{ArePartsOf, HasRoomFor, IsReady, PartLeft, is_near, lists_of, live_in, placed}
use Rattle.sideways.specs.Kept.{AreCountsOf, AreHitsIn, IsLiftedOf, IsPassOf}
use Rattle.sideways.specs.Questions.{Question, HasDocs, counted_of, docs_of}
use Rattle.sideways.specs.declared.pass.Pass.{Pass}
use Rattle.sideways.specs.declared.pass.LiftedPass.{LiftedPass}
use Rattle.sideways.proofs.Decoded.{all_lists, all_placed, all_records, countable_of, list_is, terms_are}
use Rattle.sideways.proofs.Misses.{near_not_hit, near_or_hit, one_each, short_filter, sums_joined}
use Rattle.sideways.proofs.Placed.{left_in, lists_length, alive_in}
use Rattle.facet_model.proofs.Each.{each_append, each_from}
use Rattle.facet_counts.proofs.Turns.{count_most}

-- each segment has documents
pub each_has : (q : Question) (segments : List Records) (pieces : List (List Doc)) → AllZip (IsSegmentOf q.labels q.config) segments pieces → AllByRecursion (λ s. (docs : List Doc) × HasTermsOf s docs) segments
each_has q [] pieces are = tt
each_has q (s ∷ ss) [] are = absurd are
each_has q (s ∷ ss) (d ∷ ds) are = ((d, terms_are q.labels q.config s d are.0), each_has q ss ds are.1)

module _ (q : Question) (test : Doc → Bool) where
  left_most : (segments : List Records) (parts : List PartLeft) (pieces : List (List Doc)) → ArePartsOf test segments parts → AllZip (IsSegmentOf q.labels q.config) segments pieces → sum_by left_in parts ≤ sum_by alive_in parts
  left_most [] [] pieces parts are = omega arith
  left_most [] (p ∷ ps) pieces parts are = absurd parts
  left_most (s ∷ ss) [] pieces parts are = absurd parts
  left_most (s ∷ ss) (p ∷ ps) [] parts are = absurd are
  left_most (s ∷ ss) (p ∷ ps) (d ∷ ds) parts are =
      let terms = terms_are q.labels q.config s d are.0 in
      let number : length p.left ≡ count_by test (alive s.dead d) = ap length (parts.0.left d terms) ∙ live_number s.dead test d in
      let long : alive_in p ≡ length (alive s.dead d) = ap live_in parts.0.same ∙ ap (live_before s.dead) terms.records ∙ sym (length_alive s.dead d) in
      omega (arith, sum_by-cons left_in p ps, sum_by-cons alive_in p ps, left_most ss ps ds parts.1 are.1, number, long, count_most test (alive s.dead d))

  each_countable : MayBeCounted → IsLabelList q.labels → (segments : List Records) (parts : List PartLeft) (pieces : List (List Doc)) → ArePartsOf test segments parts → AllZip (IsSegmentOf q.labels q.config) segments pieces → AllByRecursion (λ p. AreCountable q.config q.labels p.segment) parts
  each_countable may list [] [] pieces parts are = tt
  each_countable may list [] (p ∷ ps) pieces parts are = absurd parts
  each_countable may list (s ∷ ss) [] pieces parts are = absurd parts
  each_countable may list (s ∷ ss) (p ∷ ps) [] parts are = absurd are
  each_countable may list (s ∷ ss) (p ∷ ps) (d ∷ ds) parts are = (subst (AreCountable q.config q.labels) (sym parts.0.same) (countable_of may q.labels q.config list s d are.0), each_countable may list ss ps ds parts.1 are.1)

  pub ready : MayBeCounted → IsLabelList q.labels → (docs : List Doc) × HasDocs q docs × (length docs ≤ 1000000) → (pass : Pass) → IsPassOf q test q.segments pass → IsReady pass.parts.items pass.counter
  ready may list has pass is =
      let pieces = has.1.0 in
      let records : sum_by alive_in pass.parts.items ≡ length (live_docs q.segments pieces) = all_records q.labels q.config test q.segments pass.parts.items pieces is.parts has.1.1 in
      let few : sum_by alive_in pass.parts.items ≤ 1000000 = omega (arith, records, ap length has.1.2, has.2) in
      record {
        fresh = is.fresh;
        countable = subst (λ c. AllByRecursion (λ p. AreCountable c pass.counter.labels p.segment) pass.parts.items) (sym is.config) (subst (λ l. AllByRecursion (λ p. AreCountable q.config l p.segment) pass.parts.items) (sym is.labels) (each_countable may list q.segments pass.parts.items pieces is.parts has.1.1));
        room = omega (arith, left_most q.segments pass.parts.items pieces is.parts has.1.1, few);
        few = few;
      }

  pub lists_found : (pass : Pass) → IsPassOf q test q.segments pass → (docs : List Doc) → HasDocs q docs → lists_of pass.parts.items ≡ counted_of q (filter test docs)
  lists_found pass is docs has = all_lists q.labels q.config test q.segments pass.parts.items has.0 is.parts has.1 ∙ ap (λ ds. counted_of q (filter test ds)) (sym has.2)

  pub places_found : (pass : Pass) → IsPassOf q test q.segments pass → (docs : List Doc) → HasDocs q docs → placed 0 pass.parts.items ≡ places test docs
  places_found pass is docs has = all_placed q.labels q.config test 0 q.segments pass.parts.items has.0 is.parts has.1 ∙ ap (places test) (sym has.2)

-- the counts of the hits
pub hits_counted : (q : Question) (pass : Pass) → IsPassOf q (passes_all q.query q.drill None) q.segments pass → (tally : Tally) → HasAdded tally (lists_of pass.parts.items) → AreHitsIn q tally
hits_counted q pass is tally added docs has = subst (HasAdded tally) (lists_found q (passes_all q.query q.drill None) pass is docs has) added

pub counts_found : (q : Question) (tally : Tally) (counts : Totals) → AreHitsIn q tally → ((lists : List (List ℕ)) → HasAdded tally lists → AreCounts counts lists) → counts.labels ≡ q.labels → counts.config ≡ q.config → AreCountsOf q None counts
counts_found q tally counts hits rolled labels config = record { labels = labels; config = config; each = λ docs has. rolled (counted_of q (filter (passes_all q.query q.drill None) docs)) (hits docs has) }

-- the counts of a dimension, over its near misses and the hits
pub near_counted : (q : Question) (one : LiftedPass) (tally : Tally) (counts : Totals) → IsLiftedOf q q.segments one → AreHitsIn q tally
    → ((others : List (List ℕ)) → HasAdded tally others → AreCounts counts (lists_of one.pass.parts.items ++ others)) → counts.labels ≡ one.pass.counter.labels → counts.config ≡ one.pass.counter.config → AreCountsOf q (Some one.dim.now) counts
near_counted q one tally counts is hits counted labels config = record {
  labels = labels ∙ is.pass.labels;
  config = config ∙ is.pass.config;
  each = λ docs has ord some lt.
      let dim : List ℕ = one.dim.now in
      let near : Doc → Bool = is_near q.query q.drill dim in
      let hit : Doc → Bool = passes_all q.query q.drill None in
      let g : List ℕ → Bool = counts_for counts.config counts.labels ord in
      let f : Doc → List ℕ = λ doc. counted_ordinals q.labels q.config doc.labels in
      let lists : lists_of one.pass.parts.items ≡ counted_of q (filter near docs) = lists_found q near one.pass is.pass docs has in
      counted (counted_of q (filter hit docs)) (hits docs has) ord some lt
      ∙ ap (λ l. count_by g (l ++ counted_of q (filter hit docs))) lists
      ∙ sum_by-append (λ list. cond (g list) 1 0) (counted_of q (filter near docs)) (counted_of q (filter hit docs))
      ∙ sums_joined (λ list. cond (g list) 1 0) f near hit (passes_all q.query q.drill (Some dim)) docs (λ doc. near_or_hit q.query q.drill dim doc is.drilled) (λ doc. near_not_hit q.query q.drill dim doc is.drilled);
}

-- with the hits there are no more of them than documents
pub near_room : (q : Question) (one : LiftedPass) (tally : Tally) → (docs : List Doc) × HasDocs q docs × (length docs ≤ 1000000) → IsLiftedOf q q.segments one → AreHitsIn q tally → tally.labels ≡ q.labels → tally.config ≡ q.config → HasRoomFor one.pass.parts.items one.pass.counter tally
near_room q one tally has is hits labels config =
    let docs : List Doc = has.0 in
    let dim : List ℕ = one.dim.now in
    let near : Doc → Bool = is_near q.query q.drill dim in
    let hit : Doc → Bool = passes_all q.query q.drill None in
    let lift : Doc → Bool = passes_all q.query q.drill (Some dim) in
    let f : Doc → List ℕ = λ doc. counted_ordinals q.labels q.config doc.labels in
    record {
      labels = labels ∙ sym is.pass.labels;
      config = config ∙ sym is.pass.config;
      room = omega (
        arith,
        sym (lists_length one.pass.parts.items),
        ap length (lists_found q near one.pass is.pass docs has.1),
        (hits docs has.1).number,
        one_each (counted_of q (filter near docs)),
        one_each (counted_of q (filter hit docs)),
        one_each (counted_of q (filter lift docs)),
        sums_joined (λ list. 1) f near hit lift docs (λ doc. near_or_hit q.query q.drill dim doc is.drilled) (λ doc. near_not_hit q.query q.drill dim doc is.drilled),
        length-map (filter lift docs) f,
        short_filter lift docs,
        has.2,
      );
    }

-- ---- the documents of a dimension

-- with no path of the dimension, lifting it changes nothing
pub lifts_nothing : (q : Question) (docs : List Doc) (dim : List ℕ) → list_any (λ path. bytes_eq (dim_of path) dim) q.drill ≡ false → hits docs q.query q.drill ≡ lifted docs q.query q.drill dim
lifts_nothing q docs dim none = ap (λ (t : Doc → Bool). filter t docs) (λ i doc. matches q.query doc && same doc q.drill none i)
  where
    same : (doc : Doc) (paths : List (List (List ℕ))) → list_any (λ path. bytes_eq (dim_of path) dim) paths ≡ false → list_all (λ path. passes doc q.drill (dim_of path)) paths ≡ list_all (λ path. bytes_eq (dim_of path) dim || passes doc q.drill (dim_of path)) paths
    same doc [] none = refl
    same doc (p ∷ ps) none = let both = or_parts (bytes_eq (dim_of p) dim) (list_any (λ path. bytes_eq (dim_of path) dim) ps) none in λ i. (sym both.0 i || passes doc q.drill (dim_of p)) && same doc ps both.1 i

-- ---- the lists of the documents of a dimension

each_listed : (q : Question) → IsLabelList q.labels → (stored : List Stored) (docs : List Doc) → AllZip (IsRecordOf q.labels q.config) stored docs → AllByRecursion (λ doc. IsListOf q.config q.labels (counted_ordinals q.labels q.config doc.labels) doc) docs
each_listed q list [] [] are = tt
each_listed q list [] (d ∷ ds) are = absurd are
each_listed q list (s ∷ ss) [] are = absurd are
each_listed q list (s ∷ ss) (d ∷ ds) are = (subst (λ l. IsListOf q.config q.labels l d) are.0.counted (list_is q.labels q.config s d are.0), each_listed q list ss ds are.1)

all_listed : (q : Question) → IsLabelList q.labels → (segments : List Records) (pieces : List (List Doc)) → AllZip (IsSegmentOf q.labels q.config) segments pieces → AllByRecursion (λ doc. IsListOf q.config q.labels (counted_ordinals q.labels q.config doc.labels) doc) (live_docs segments pieces)
all_listed q list [] [] are = tt
all_listed q list [] (d ∷ ds) are = absurd are
all_listed q list (s ∷ ss) [] are = absurd are
all_listed q list (s ∷ ss) (d ∷ ds) are = each_append (λ doc. IsListOf q.config q.labels (counted_ordinals q.labels q.config doc.labels) doc) (alive s.dead d) (live_docs ss ds) (each_from (λ doc. IsListOf q.config q.labels (counted_ordinals q.labels q.config doc.labels) doc) s.dead 0 d (each_listed q list s.records d are.0.records)) (all_listed q list ss ds are.1)

some_listed : (q : Question) (test : Doc → Bool) (docs : List Doc) → AllByRecursion (λ doc. IsListOf q.config q.labels (counted_ordinals q.labels q.config doc.labels) doc) docs → AllZip (IsListOf q.config q.labels) (counted_of q (filter test docs)) (filter test docs)
some_listed q test [] all = tt
some_listed q test (d ∷ ds) all = by (test d) (some_listed q test ds all.1)
  where
    by : (b : Bool) → AllZip (IsListOf q.config q.labels) (counted_of q (filter test ds)) (filter test ds) → AllZip (IsListOf q.config q.labels) (counted_of q (cond b (d ∷ filter test ds) (filter test ds))) (cond b (d ∷ filter test ds) (filter test ds))
    by true rest = (all.0, rest)
    by false rest = rest

pub docs_listed : (q : Question) → IsLabelList q.labels → (docs : List Doc) → HasDocs q docs → (dim : List ℕ) → AllZip (IsListOf q.config q.labels) (counted_of q (docs_of q docs dim)) (docs_of q docs dim)
docs_listed q list docs has dim = by q.sideways
  where
    listed : AllByRecursion (λ doc. IsListOf q.config q.labels (counted_ordinals q.labels q.config doc.labels) doc) docs
    listed = subst (AllByRecursion (λ (doc : Doc). IsListOf q.config q.labels (counted_ordinals q.labels q.config doc.labels) doc)) (sym has.2) (all_listed q list q.segments has.0 has.1)

    by : (b : Bool) → AllZip (IsListOf q.config q.labels) (counted_of q (cond b (lifted docs q.query q.drill dim) (hits docs q.query q.drill))) (cond b (lifted docs q.query q.drill dim) (hits docs q.query q.drill))
    by true = some_listed q (passes_all q.query q.drill (Some dim)) docs listed
    by false = some_listed q (is_hit q.query q.drill) docs listed

pub each_ready : (q : Question) → MayBeCounted → IsLabelList q.labels → (docs : List Doc) × HasDocs q docs × (length docs ≤ 1000000) → (all : List LiftedPass) → AllByRecursion (λ l. IsLiftedOf q q.segments l) all → AllByRecursion (λ l. IsReady l.pass.parts.items l.pass.counter) all
each_ready q may list has [] all = tt
each_ready q may list has (l ∷ ls) all = (ready q (is_near q.query q.drill l.dim.now) may list has l.pass all.0.pass, each_ready q may list has ls all.1)

pub each_room : (q : Question) (tally : Tally) → (docs : List Doc) × HasDocs q docs × (length docs ≤ 1000000) → AreHitsIn q tally → tally.labels ≡ q.labels → tally.config ≡ q.config → (all : List LiftedPass) → AllByRecursion (λ l. IsLiftedOf q q.segments l) all
    → AllByRecursion (λ l. HasRoomFor l.pass.parts.items l.pass.counter tally) all
each_room q tally has hits labels config [] all = tt
each_room q tally has hits labels config (l ∷ ls) all = (near_room q l tally has all.0 hits labels config, each_room q tally has hits labels config ls all.1)

-- the same lists, by the labels and the config of the counts
pub counted_zip : (q : Question) (k : Totals) → k.labels ≡ q.labels → k.config ≡ q.config → IsLabelList q.labels → (docs : List Doc) → HasDocs q docs → (dim : List ℕ) → AllZip (IsListOf k.config k.labels) (counted_of q (docs_of q docs dim)) (docs_of q docs dim)
counted_zip q k labels config list docs has dim =
    subst (λ c. AllZip (IsListOf c k.labels) (counted_of q (docs_of q docs dim)) (docs_of q docs dim)) (sym config) (subst (λ l. AllZip (IsListOf q.config l) (counted_of q (docs_of q docs dim)) (docs_of q docs dim)) (sym labels) (docs_listed q list docs has dim))
