-- The counts of a dimension, among those that an answer has.
use Rattle.std.proofs.Common.{◌≡◌, ℕ, zero, suc, ◌+◌, ◌<◌, Bool, true, false, List, [], ◌∷◌, ◌++◌, length, get_or, Some, None, refl, sym, ap, subst, ◌∙◌, arith}
use Rattle.std.specs.Prelude.{◌&&◌, cond, nat_lt}
use Rattle.std.specs.List.{list_any, AllByRecursion, AllZip}
use Rattle.std.specs.Str.{bytes_eq}
use Rattle.std.specs.Cmp.Lexicographic.{bytes_decides}
use Rattle.std.proofs.lemmas.Bool.{lt-ltb, true≢false}
use Rattle.std.proofs.lemmas.List.Folds.{list_any_at}
use Rattle.std.proofs.lemmas.List.Sums.{sum_by-cons}
use Rattle.facet_model.specs.Documents.{Doc, dim_of, has, count}
use Rattle.facet_model.specs.Hits.{hits, lifted}
use Rattle.facet_model.specs.Stored.{Records, IsSegmentOf, alive, live_docs}
use Rattle.facet_counts.specs.Tallies.{Totals, AreCounts}
use Rattle.query_eval.specs.Segments.{HasTermsOf}
use Rattle.sideways.specs.Kept.{AreCountsOf}
use Rattle.sideways.specs.Questions.{Question, HasDocs, counted_of, docs_of}
use Rattle.sideways.specs.declared.pass.LiftedCounts.{LiftedCounts}
use Rattle.sideways.proofs.Decoded.{terms_are}
use Rattle.sideways.proofs.Ready.{lifts_nothing}
use Rattle.std.proofs.lemmas.List.Elements.{All-from_recursion}

-- the counts for which a dimension is lifted
abbrev pub is_for : List ℕ → LiftedCounts → Bool
is_for dim c = bytes_eq c.dim.now dim

module _ (q : Question) (dim : List ℕ) (all : List LiftedCounts) (covers : (d : List ℕ) → list_any (λ c. bytes_eq c.dim.now d) all ≡ (q.sideways && list_any (λ path. bytes_eq (dim_of path) d) q.drill)) where
  pub lifted_counts : (i : ℕ) (one : LiftedCounts) → AllByRecursion (λ c. AreCountsOf q (Some c.dim.now) c.counts) all → i < length all → one ≡ get_or all i one → bytes_eq one.dim.now dim ≡ true
      → (docs : List Doc) → HasDocs q docs → AreCounts one.counts (counted_of q (docs_of q docs dim))
  lifted_counts i one each lt here is docs has = by q.sideways (sym (covers dim) ∙ list_any_at (is_for dim) all i one lt (ap (is_for dim) (sym here) ∙ is))
    where
      are : AreCountsOf q (Some dim) one.counts
      are = subst (λ d. AreCountsOf q (Some d) one.counts) ((bytes_decides one.dim.now dim).0 is) (subst (λ (c : LiftedCounts). AreCountsOf q (Some c.dim.now) c.counts) (sym here) (All-from_recursion (λ c. AreCountsOf q (Some c.dim.now) c.counts) all each i one lt))

      by : (b : Bool) → (b && list_any (λ path. bytes_eq (dim_of path) dim) q.drill) ≡ true → AreCounts one.counts (counted_of q (cond b (lifted docs q.query q.drill dim) (hits docs q.query q.drill)))
      by true e = are.each docs has
      by false e = absurd cc

  pub lifted_same : (i : ℕ) (one : LiftedCounts) → AllByRecursion (λ c. AreCountsOf q (Some c.dim.now) c.counts) all → i < length all → one ≡ get_or all i one → (one.counts.labels ≡ q.labels) × (one.counts.config ≡ q.config)
  lifted_same i one each lt here =
      let are : AreCountsOf q (Some one.dim.now) one.counts = subst (λ (c : LiftedCounts). AreCountsOf q (Some c.dim.now) c.counts) (sym here) (All-from_recursion (λ c. AreCountsOf q (Some c.dim.now) c.counts) all each i one lt) in
      (are.labels, are.config)

  pub hit_counts : (counts : Totals) → AreCountsOf q None counts → list_any (is_for dim) all ≡ false → (docs : List Doc) → HasDocs q docs → AreCounts counts (counted_of q (docs_of q docs dim))
  hit_counts counts are none docs has = by q.sideways (sym (covers dim) ∙ none)
    where
      by : (b : Bool) → (b && list_any (λ path. bytes_eq (dim_of path) dim) q.drill) ≡ false → AreCounts counts (counted_of q (cond b (lifted docs q.query q.drill dim) (hits docs q.query q.drill)))
      by true e = subst (λ ds. AreCounts counts (counted_of q ds)) (lifts_nothing q docs dim e) (are.each docs has)
      by false e = are.each docs has

-- ---- whether a document has a path

count_join : (path : List (List ℕ)) (xs ys : List Doc) → count (xs ++ ys) path ≡ count xs path + count ys path
count_join path [] ys = omega arith
count_join path (x ∷ xs) ys = omega (arith, sum_by-cons (λ doc. cond (has doc path) 1 0) x (xs ++ ys), sum_by-cons (λ doc. cond (has doc path) 1 0) x xs, count_join path xs ys)

-- no live record of the segment has the path
abbrev pub HasNone : List (List ℕ) → Records → Type 0
HasNone path segment = (docs : List Doc) → HasTermsOf segment docs → false ≡ nat_lt 0 (count (alive segment.dead docs) path)

none_before : (known : List (List (List ℕ))) (q : Question) (path : List (List ℕ)) (segments : List Records) (pieces : List (List Doc)) → AllZip (IsSegmentOf q.labels q.config) segments pieces → AllByRecursion (HasNone path) segments → count (live_docs segments pieces) path ≡ 0
none_before known q path [] [] are none = refl
none_before known q path [] (d ∷ ds) are none = absurd are
none_before known q path (s ∷ ss) [] are none = absurd are
none_before known q path (s ∷ ss) (d ∷ ds) are none =
    let here : count (alive s.dead d) path ≡ 0 = zero_of (count (alive s.dead d) path) (none.0 d (terms_are q.labels q.config s d are.0)) in
    omega (arith, count_join path (alive s.dead d) (live_docs ss ds), here, none_before known q path ss ds are.1 none.1)
  where
    zero_of : (n : ℕ) → false ≡ nat_lt 0 n → n ≡ 0
    zero_of zero h = refl
    zero_of (suc n) h = absurd (true≢false (sym (lt-ltb 0 (suc n) (omega arith)) ∙ sym h))

pub none_has : (q : Question) (path : List (List ℕ)) → AllByRecursion (HasNone path) q.segments → (docs : List Doc) → HasDocs q docs → false ≡ nat_lt 0 (count docs path)
none_has q path none docs has = ap (nat_lt 0) (sym (ap (λ ds. count ds path) has.2 ∙ none_before q.labels q path q.segments has.0 has.1 none))

one_of_them : (q : Question) (path : List (List ℕ)) (segments : List Records) (pieces : List (List Doc)) (i : ℕ) (d : Records) → AllZip (IsSegmentOf q.labels q.config) segments pieces → i < length segments → ((docs : List Doc) → HasTermsOf (get_or segments i d) docs → true ≡ nat_lt 0 (count (alive (get_or segments i d).dead docs) path)) → 0 < count (live_docs segments pieces) path
one_of_them q path [] pieces i d are lt some = absurd (omega arith)
one_of_them q path (s ∷ ss) [] i d are lt some = absurd are
one_of_them q path (s ∷ ss) (p ∷ ps) zero d are lt some = omega (arith, count_join path (alive s.dead p) (live_docs ss ps), above (count (alive s.dead p) path) (some p (terms_are q.labels q.config s p are.0)))
  where
    above : (n : ℕ) → true ≡ nat_lt 0 n → 0 < n
    above zero h = absurd cc
    above (suc n) h = omega arith
one_of_them q path (s ∷ ss) (p ∷ ps) (suc i) d are lt some = omega (arith, count_join path (alive s.dead p) (live_docs ss ps), one_of_them q path ss ps i d are.1 (omega arith) some)

pub one_has : (q : Question) (path : List (List ℕ)) (i : ℕ) (d : Records) → i < length q.segments → ((docs : List Doc) → HasTermsOf (get_or q.segments i d) docs → true ≡ nat_lt 0 (count (alive (get_or q.segments i d).dead docs) path)) → (docs : List Doc) → HasDocs q docs → true ≡ nat_lt 0 (count docs path)
one_has q path i d lt some docs has = sym (lt-ltb 0 (count docs path) (omega (arith, ap (λ ds. count ds path) has.2, one_of_them q path q.segments has.0 i d has.1 lt some)))
