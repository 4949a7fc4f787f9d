-- The counts of the counters are those of the ranges.
use Rattle.std.proofs.Common.{◌≡◌, ℕ, zero, suc, ◌+◌, ◌<◌, ◌≤◌, ℤ, pos, Bool, true, false, List, [], ◌∷◌, ◌++◌, length, map, get_or, slice_get, Option, Some, None, refl, sym, ap, subst, ◌∙◌, ◌⊎◌, inl, inr, arith, All, IsTrue, nat_eq}
use Rattle.std.specs.Prelude.{MatchOption, is_some}
use Rattle.std.specs.Option.{option_map_or}
use Rattle.std.specs.declared.alloc.Global.{Global}
use Rattle.std.specs.declared.vec.Vec.{Vec}
use Rattle.std.specs.List.{list_any}
use Rattle.std.proofs.lemmas.Bool.{cases_lt}
use Rattle.std.proofs.lemmas.List.{get_or-map, get_or-replicate, get_or_append_left, get_or_past, get_or_push, length-map, length-replicate, length_push}
use Rattle.std.proofs.lemmas.List.Elements.{All-get_or}
use Rattle.std.proofs.lemmas.List.Sums.{count_by-le-length}
use Rattle.std.proofs.lemmas.Option.{get_or_from_slice_get, slice_get_within}
use Rattle.facet_model.specs.Documents.{Doc}
use Rattle.facet_model.specs.Flags.{Config}
use Rattle.facet_model.specs.Hits.{hits}
use Rattle.facet_model.specs.Stored.{Decodes}
use Rattle.number_facets.specs.Bounds.{is_within}
use Rattle.number_facets.specs.Numbers.{is_i64}
use Rattle.number_facets.specs.Values.{Range, contains, range_count, value_at, valued}
use Rattle.number_facets.proofs.Decimals.{decimal_law}
use Rattle.sideways.specs.Counted.{PartLeft}
use Rattle.value_facets.specs.Cuts.{AreRows, IsRank, bound_at, row_at}
use Rattle.value_facets.specs.Hits.{leaves_of}
use Rattle.value_facets.specs.Marking.{AreMarks, Marked, counters_of, is_marked}
use Rattle.value_facets.specs.Ranging.{IsRangeCounter, RangeQuestion}
use Rattle.value_facets.specs.Tallying.{HasCounted, Tallied, rows_to, total_of}
use Rattle.value_facets.proofs.HitLeaves.{count_found, count_some, number_most}
use Rattle.value_facets.proofs.Noted.{rows_fresh}
use Rattle.value_facets.proofs.Ranks.{row_of_rank}
use Rattle.value_facets.proofs.Slots.{value_parts}

-- a value has 64 bits
value_small : (dim : List ℕ) (label : List (List ℕ)) (v : ℤ) → value_at dim label ≡ Some v → IsTrue (is_i64 v)
value_small dim label v is = let parts = value_parts dim label v is in ((decimal_law parts.0 v).0 parts.2).1

row_within : (bounds : List (ℤ × ℤ)) (cuts : List ℤ) (rows : List (Vec ℕ Global)) (slot : ℕ) → AreRows bounds cuts rows → slot ≤ length cuts → All (λ k. k < length bounds) (row_at rows slot)
row_within bounds cuts rows zero are le = λ k d lt. absurd (let none : length (row_at rows 0) ≡ 0 = ap length are.none in omega (arith, none, lt))
row_within bounds cuts rows (suc i) are le = let at : suc i ≡ i + 1 = omega arith in subst (λ n. All (λ k. k < length bounds) (row_at rows n)) (sym at) (are.each i (omega arith)).within

module _ (labels : List (List (List ℕ))) (dim : List ℕ) (bounds : List (ℤ × ℤ)) (marks : Marked) (are : AreMarks labels dim bounds marks) where
  counters_are : (ord : ℕ) → counters_of marks ord ≡ row_at are.rows (get_or marks.slots ord 0)
  counters_are ord = ap (λ (m : Marked). get_or m.rows (get_or marks.slots ord 0) []) are.same

  -- each counter of a label is that of a bound
  pub marks_within : (ord : ℕ) → All (λ k. k < length bounds) (counters_of marks ord)
  marks_within ord = subst (All (λ k. k < length bounds)) (sym (counters_are ord)) (row_within bounds are.cuts are.rows (get_or marks.slots ord 0) are.are (by (cases_lt ord (length marks.slots))))
    where
      by : (ord < length marks.slots) ⊎ (length marks.slots ≤ ord) → get_or marks.slots ord 0 ≤ length are.cuts
      by (inl lt) = All-get_or (λ slot. slot ≤ length are.cuts) marks.slots ord 0 lt are.slots.within
      by (inr le) = let none : get_or marks.slots ord 0 ≡ 0 = get_or_past marks.slots ord 0 le in omega (arith, none)

  -- each counter of a row is that of a bound
  pub rows_within : (slot : ℕ) → All (λ k. k < length bounds) (get_or marks.rows slot [])
  rows_within slot = subst (All (λ k. k < length bounds)) (sym (ap (λ (m : Marked). get_or m.rows slot []) are.same)) (by (cases_lt (length are.cuts) slot))
    where
      by : (length are.cuts < slot) ⊎ (slot ≤ length are.cuts) → All (λ k. k < length bounds) (row_at are.rows slot)
      by (inl high) = λ k d lt. absurd (let none : length (row_at are.rows slot) ≡ 0 = ap length (get_or_past (map (λ (row : Vec ℕ Global). row.items) are.rows) slot [] (omega (arith, high, are.are.as_many, length-map are.rows (λ (row : Vec ℕ Global). row.items)))) in omega (arith, none, lt))
      by (inr le) = row_within bounds are.cuts are.rows slot are.are le

  -- a label counts for a counter if its value is in the bound
  pub marked_is : (k : ℕ) → k < length bounds → (ord : ℕ) (label : List (List ℕ)) → slice_get labels ord ≡ Some label → is_marked marks k ord ≡ option_map_or (is_within (bound_at bounds k)) (value_at dim label) false
  marked_is k lt ord label here = ap (list_any (nat_eq k)) (counters_are ord) ∙ by (value_at dim label) refl slot
    where
      at : ℕ
      at = get_or marks.slots ord 0

      slot : MatchOption (value_at dim label) (at ≡ 0) (λ number. IsRank are.cuts number at)
      slot = subst (λ (l : List (List ℕ)). MatchOption (value_at dim l) (at ≡ 0) (λ number. IsRank are.cuts number at)) (get_or_from_slice_get labels ord label [] here) (are.slots.each ord (slice_get_within labels ord label here))

      by : (o : Option ℤ) → value_at dim label ≡ o → MatchOption o (at ≡ 0) (λ number. IsRank are.cuts number at) → list_any (nat_eq k) (row_at are.rows at) ≡ option_map_or (is_within (bound_at bounds k)) o false
      by None e none = ap (list_any (nat_eq k)) (ap (row_at are.rows) none ∙ are.are.none)
      by (Some v) e rank = (row_of_rank bounds are.cuts are.rows v at are.rising are.has are.are (value_small dim label v e) rank).has k lt

  -- a test that says the same of each value
  pub marked_as : (k : ℕ) (test : ℤ → Bool) → k < length bounds → ((v : ℤ) → IsTrue (is_i64 v) → test v ≡ is_within (bound_at bounds k) v) → (ord : ℕ) (label : List (List ℕ)) → slice_get labels ord ≡ Some label → is_marked marks k ord ≡ option_map_or test (value_at dim label) false
  marked_as k test lt same ord label here = marked_is k lt ord label here ∙ by (value_at dim label) refl
    where
      by : (o : Option ℤ) → value_at dim label ≡ o → option_map_or (is_within (bound_at bounds k)) o false ≡ option_map_or test o false
      by None e = refl
      by (Some v) e = sym (same v (value_small dim label v e))

-- has a value at all
any_value : (o : Option ℤ) → option_map_or (λ v. true) o false ≡ is_some o
any_value None = refl
any_value (Some v) = refl

module _ (q : RangeQuestion) (parts : List PartLeft) (marks : Marked) (tally : Tallied) (is : IsRangeCounter q parts marks tally) where
  pub counters_within : (ord : ℕ) → All (λ k. k < length tally.counts) (counters_of marks ord)
  counters_within ord = subst (λ n. All (λ k. k < n) (counters_of marks ord)) (is.are_bounds.as_many ∙ sym as_many) (marks_within q.labels q.dim is.bounds marks is.marks ord)
    where
      as_many : length tally.counts ≡ length q.ranges + 1
      as_many = ap (λ (t : Tallied). length t.counts) is.fresh ∙ length-replicate (length q.ranges + 1) 0

  pub slots_within : (n : ℕ) → n ≡ length tally.counts → (slot : ℕ) → All (λ k. k < n) (get_or marks.rows slot [])
  slots_within n long slot = subst (λ m. All (λ k. k < m) (get_or marks.rows slot [])) (is.are_bounds.as_many ∙ sym as_many ∙ sym long) (rows_within q.labels q.dim is.bounds marks is.marks slot)
    where
      as_many : length tally.counts ≡ length q.ranges + 1
      as_many = ap (λ (t : Tallied). length t.counts) is.fresh ∙ length-replicate (length q.ranges + 1) 0

  pub few_left : tally.hits + length (leaves_of parts) ≤ 1000000
  few_left = omega (arith, is.few, ap (λ (t : Tallied). t.hits) is.fresh, number_most q.labels is.config q.segments is.docs q.query q.drill parts is.decodes is.parts)

  pub none_counted : HasCounted marks [] tally
  none_counted k lt =
      let as_many : length tally.counts ≡ length q.ranges + 1 = ap (λ (t : Tallied). length t.counts) is.fresh ∙ length-replicate (length q.ranges + 1) 0 in
      (λ i. get_or (is.fresh i).counts k 0 + rows_to marks.rows (is.fresh i).rows k (length marks.rows))
      ∙ (λ i. get_or-replicate (length q.ranges + 1) k 0 0 (omega (arith, lt, as_many)) i + rows_fresh marks.rows k (length marks.rows) (length marks.rows) i)

  -- no counter has counted more than all documents
  pub few_counted : (new : Tallied) → HasCounted marks (leaves_of parts) new → (k : ℕ) → k < length new.counts → total_of marks new k ≤ 1000000
  few_counted new counted k lt = omega (arith, counted k lt, count_by-le-length (list_any (is_marked marks k)) (leaves_of parts), few_left)

  pub ranged : (new : Tallied) → length new.counts ≡ length tally.counts → HasCounted marks (leaves_of parts) new → (config : Config) (docs : List Doc) → Decodes q.labels config q.segments docs
      → (length (map (range_count (hits docs q.query q.drill) q.dim) q.ranges ++ valued (hits docs q.query q.drill) q.dim ∷ []) ≡ length new.counts)
      × ((k : ℕ) → k < length new.counts → total_of marks new k ≡ get_or (map (range_count (hits docs q.query q.drill) q.dim) q.ranges ++ valued (hits docs q.query q.drill) q.dim ∷ []) k 0)
  ranged new long counted config docs has = (others ∙ sym as_many, each)
    where
      f : Range → ℕ
      f = range_count (hits docs q.query q.drill) q.dim

      last : ℕ
      last = valued (hits docs q.query q.drill) q.dim

      as_many : length new.counts ≡ length q.ranges + 1
      as_many = long ∙ ap (λ (t : Tallied). length t.counts) is.fresh ∙ length-replicate (length q.ranges + 1) 0

      others : length (map f q.ranges ++ last ∷ []) ≡ length q.ranges + 1
      others = length_push (map f q.ranges) last ∙ ap (λ m. m + 1) (length-map q.ranges f)

      one : (k : ℕ) (r : Range) → k < length q.ranges → total_of marks new k ≡ f (get_or q.ranges k r)
      one k r lt =
          counted k (omega (arith, lt, as_many))
          ∙ count_found q.labels config q.segments docs q.query q.drill parts has is.parts (contains (get_or q.ranges k r)) (value_at q.dim) (is_marked marks k)
          (marked_as q.labels q.dim is.bounds marks is.marks k (contains (get_or q.ranges k r)) (omega (arith, lt, is.are_bounds.as_many)) (λ v small. is.are_bounds.each k r lt v small))

      whole : total_of marks new (length q.ranges) ≡ last
      whole =
          counted (length q.ranges) (omega (arith, as_many))
          ∙ count_some q.labels config q.segments docs q.query q.drill parts has is.parts (value_at q.dim) (is_marked marks (length q.ranges))
          (λ ord label here. marked_as q.labels q.dim is.bounds marks is.marks (length q.ranges) (λ v. true) (omega (arith, is.are_bounds.as_many)) (λ v small. sym (is.are_bounds.all v small)) ord label here ∙ any_value (value_at q.dim label))

      each : (k : ℕ) → k < length new.counts → total_of marks new k ≡ get_or (map f q.ranges ++ last ∷ []) k 0
      each k lt = by (cases_lt k (length q.ranges))
        where
          by : (k < length q.ranges) ⊎ (length q.ranges ≤ k) → total_of marks new k ≡ get_or (map f q.ranges ++ last ∷ []) k 0
          by (inl low) =
              let r : Range = get_or q.ranges k (record { name = []; min = pos 0; max = pos 0; min_open = true; max_open = true }) in
              one k r low ∙ sym (get_or_append_left (map f q.ranges) (last ∷ []) 0 k (omega (arith, low, length-map q.ranges f)) ∙ get_or-map f q.ranges k r 0 low)
          by (inr high) = let at : k ≡ length q.ranges = omega (arith, lt, as_many) in
              ap (total_of marks new) at ∙ whole ∙ sym (get_or_push (map f q.ranges) last 0 k (length-map q.ranges f ∙ sym at))
