-- The sums of the documents of segments.
use Rattle.std.proofs.Common.{◌≡◌, ℕ, zero, suc, ℤ, ◌+◌, ◌⊎◌, inl, inr, Bool, true, false, cond, List, [], ◌∷◌, ◌++◌, length, map, get_or, slice_get, Option, Some, None, refl, sym, ap, ◌∙◌, arith}
use Rattle.std.specs.Prelude.{filter, filter_map, flat_map, nat_lt}
use Rattle.std.specs.List.{AllZip, cons_option}
use Rattle.std.specs.List.Sorted.{IsPermutation, IsSorted}
use Rattle.std.proofs.lemmas.Grind.{flat_map-append}
use Rattle.std.proofs.lemmas.List.Elements.{All-nil, filter-append}
use Rattle.std.proofs.lemmas.Option.{none-some, slice_get_within}
use Rattle.facet_names.specs.Labels.{IsLabelList}
use Rattle.facet_model.specs.Documents.{Doc}
use Rattle.facet_model.specs.Flags.{Config}
use Rattle.facet_model.specs.Hits.{hits, is_hit}
use Rattle.facet_model.specs.Queries.{QueryTree}
use Rattle.facet_model.specs.Stored.{Stored, Records, AreLabelsAt, Decodes, IsRecordOf, IsSegmentOf, alive, alive_from, is_dead, live_docs}
use Rattle.number_facets.specs.SumViews.{sum_view}
use Rattle.number_facets.specs.Values.{AreSums, sums_cmp, PartSum, int_sum, weight_at, weights}
use Rattle.number_facets.specs.declared.results.Sum.{Sum}
use Rattle.seg_drill.specs.Passing.{passes_all}
use Rattle.sideways.specs.Counted.{ArePartsOf, PartLeft}
use Rattle.taxo_list.proofs.Labels.{parent_before, place_at}
use Rattle.value_facets.specs.Hits.{leaves_of}
use Rattle.value_facets.specs.Summing.{AreTotals, AreWeights, no_weight, sums_before, weight_below}
use Rattle.value_facets.specs.declared.weights.Weight.{Weight}
use Rattle.value_facets.proofs.HitLeaves.{flat_of}
use Rattle.value_facets.proofs.SummedLabels.{not_root, weight_cases}
use Rattle.value_facets.proofs.SummedLists.{are_sums}

-- ---- where no label has a number, no document has one

module _ (known : List (List (List ℕ))) (g : List (List ℕ) → Option ℤ) (none : (ord : ℕ) (label : List (List ℕ)) → slice_get known ord ≡ Some label → g label ≡ None) where
  none_of : (leaves : List ℕ) (labels : List (List (List ℕ))) → AreLabelsAt known leaves labels → filter_map g labels ≡ []
  none_of [] [] are = refl
  none_of [] (l ∷ ls) are = absurd cc
  none_of (o ∷ os) [] are = absurd cc
  none_of (o ∷ os) (l ∷ ls) are = ap (λ x. cons_option x (filter_map g ls)) (none o l (head_is are)) ∙ none_of os ls (tail_is are)
    where
      head_is : slice_get known o ∷ map (slice_get known) os ≡ Some l ∷ map Some ls → slice_get known o ≡ Some l
      head_is h = cc

      tail_is : slice_get known o ∷ map (slice_get known) os ≡ Some l ∷ map Some ls → map (slice_get known) os ≡ map Some ls
      tail_is h = cc

  abbrev found : List Doc → List ℤ
  found docs = flat_map (λ (doc : Doc). filter_map g doc.labels) docs

  module _ (config : Config) (test : Doc → Bool) where
    none_from : (dead : List ℕ) (k : ℕ) (stored : List Stored) (docs : List Doc) → AllZip (IsRecordOf known config) stored docs → found (filter test (alive_from dead k docs)) ≡ []
    none_from dead k [] [] are = refl
    none_from dead k [] (d ∷ ds) are = absurd are
    none_from dead k (s ∷ ss) [] are = absurd are
    none_from dead k (s ∷ ss) (d ∷ ds) are = by (is_dead dead k) (test d) refl (none_from dead (k + 1) ss ds are.1)
      where
        by : (b t : Bool) → test d ≡ t → found (filter test (alive_from dead (k + 1) ds)) ≡ [] → found (filter test (cond b (alive_from dead (k + 1) ds) (d ∷ alive_from dead (k + 1) ds))) ≡ []
        by true t e rest = rest
        by false true e rest = ap (λ b. found (cond b (d ∷ filter test (alive_from dead (k + 1) ds)) (filter test (alive_from dead (k + 1) ds)))) e ∙ (λ i. none_of s.leaves d.labels are.0.labels i ++ rest i)
        by false false e rest = ap (λ b. found (cond b (d ∷ filter test (alive_from dead (k + 1) ds)) (filter test (alive_from dead (k + 1) ds)))) e ∙ rest

    none_live : (segments : List Records) (pieces : List (List Doc)) → AllZip (IsSegmentOf known config) segments pieces → found (filter test (live_docs segments pieces)) ≡ []
    none_live [] [] are = refl
    none_live [] (p ∷ ps) are = absurd are
    none_live (s ∷ ss) [] are = absurd are
    none_live (s ∷ ss) (p ∷ ps) are =
        ap found (filter-append test (alive s.dead p) (live_docs ss ps))
        ∙ flat_map-append (λ (doc : Doc). filter_map g doc.labels) (filter test (alive s.dead p)) (filter test (live_docs ss ps))
        ∙ (λ i. none_from s.dead 0 s.records p are.0.records i ++ none_live ss ps are.1 i)

  none_found : (config : Config) (segments : List Records) (docs : List Doc) (test : Doc → Bool) → Decodes known config segments docs → found (filter test docs) ≡ []
  none_found config segments docs test has = ap (λ l. found (filter test l)) has.2 ∙ none_live config test segments has.0 has.1

module _ (known : List (List (List ℕ))) (is : IsLabelList known) (config : Config) (segments : List Records) (docs : List Doc) (query : QueryTree) (drill : List (List (List ℕ))) (has : Decodes known config segments docs) (name : List ℕ) where
  no_weights : (part : List ℕ) → ((ord : ℕ) (text : List ℕ) → slice_get known ord ≡ Some (name ∷ part ∷ text ∷ []) → ⊥) → weights (hits docs query drill) name part ≡ []
  no_weights part apart = none_found known (weight_at name part) (λ ord label here. by ord label here (weight_cases name part label)) config segments docs (is_hit query drill) has
    where
      by : (ord : ℕ) (label : List (List ℕ)) → slice_get known ord ≡ Some label → (weight_at name part label ≡ None) ⊎ ((text : List ℕ) × (label ≡ name ∷ part ∷ text ∷ [])) → weight_at name part label ≡ None
      by ord label here (inl e) = e
      by ord label here (inr e) = absurd (apart ord e.0 (here ∙ ap Some e.1))

  -- a label with a number has a component
  pub component_there : (ord : ℕ) (part text : List ℕ) → slice_get known ord ≡ Some (name ∷ part ∷ text ∷ []) → (at : ℕ) × (slice_get known at ≡ Some (name ∷ part ∷ []))
  component_there zero part text here = absurd (omega (arith, not_root known is 0 name (part ∷ text ∷ []) here))
  component_there (suc ord) part text here = let up = parent_before known is ord (name ∷ part ∷ text ∷ []) here in (up.0, up.2)

  -- and a component has a dimension
  dim_there : (at : ℕ) (part : List ℕ) → slice_get known at ≡ Some (name ∷ part ∷ []) → (dim : ℕ) × (slice_get known dim ≡ Some (name ∷ []))
  dim_there zero part here = absurd (omega (arith, not_root known is 0 name (part ∷ []) here))
  dim_there (suc at) part here = let up = parent_before known is at (name ∷ part ∷ []) here in (up.0, up.2)

  -- a dimension that is no label has no sums
  pub no_sums : ((ord : ℕ) → slice_get known ord ≡ Some (name ∷ []) → ⊥) → AreSums (hits docs query drill) name []
  no_sums apart = record {
    each_once = λ part. ap (λ (l : List ℤ). cond (nat_lt 0 (length l)) 1 0) (sym (no_weights part (λ ord text here.
        let part_at = component_there ord part text here in
        let dim_at = dim_there part_at.0 part part_at.1 in
        apart dim_at.0 dim_at.1)));
    summed = All-nil (λ (c : PartSum). c.1 ≡ int_sum (weights (hits docs query drill) name c.0));
    ordered = λ k d low high. absurd (omega (arith, high));
  }

  -- those of all totals that were listed and sorted
  pub sums_found : (ws : List Weight) → AreWeights known name ws → (parts : List PartLeft) → ArePartsOf (passes_all query drill None) segments parts → (totals : List (Option ℤ)) → AreTotals (length known) ws (leaves_of parts) totals
      → (listed sorted : List Sum) → map sum_view listed ≡ sums_before known totals (length known) → IsPermutation listed sorted → IsSorted sums_cmp (map sum_view sorted) → AreSums (hits docs query drill) name (map sum_view sorted)
  sums_found ws are parts parts_are totals added =
      are_sums known is name ws are (leaves_of parts) (hits docs query drill) totals added
      (λ at part above_is. flat_of known config segments docs query drill parts has parts_are (λ leaf. weight_below (get_or ws leaf no_weight) at) (weight_at name part)
      (λ ord label label_is. (are.each ord (slice_get_within known ord label label_is)).number at part label above_is label_is))
      (λ part e. no_weights part (λ ord text here. let part_at = component_there ord part text here in none-some part_at.0 (sym e ∙ place_at known is part_at.0 (name ∷ part ∷ []) part_at.1)))
