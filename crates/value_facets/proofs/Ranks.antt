-- The bounds that have a number are those that have the last cut up to it.
use Rattle.std.proofs.Common.{◌≡◌, ℕ, zero, suc, ◌+◌, ◌^◌, ◌<◌, ◌≤◌, ℤ, pos, ◌+ℤ◌, ◌≤ℤ◌, ◌<ℤ◌, true, false, true≢false, List, [], ◌∷◌, ◌++◌, length, get_or, refl, sym, ap, subst, ◌∙◌, ◌&&◌, ◌⊎◌, inl, inr, arith, All, IsTrue, T, nat_eq}
use Rattle.std.specs.Prelude.{int_le, int_lt}
use Rattle.std.specs.declared.alloc.Global.{Global}
use Rattle.std.specs.declared.cmp.Ordering.{Ordering}
use Rattle.std.specs.declared.cmp.Ordering.TheVariants.{Less, Equal, Greater}
use Rattle.std.specs.declared.vec.Vec.{Vec}
use Rattle.std.specs.Ordering.{MatchOrdering, int_cmp, is_lt}
use Rattle.std.specs.List.{Contains, list_any}
use Rattle.std.specs.List.Sorted.{IsPermutation, IsSorted}
use Rattle.std.proofs.lemmas.Bool.{and_parts, cases_lt}
use Rattle.std.proofs.lemmas.Cmp.{int_cmp_total, int_ranked}
use Rattle.std.proofs.lemmas.Int.{ints, by_lt_z}
use Rattle.std.proofs.lemmas.List.{get_or_default}
use Rattle.std.proofs.lemmas.List.Elements.{Contains-append_left, Contains-push}
use Rattle.std.proofs.lemmas.List.Sorted.{Contains-permutation, ranks_by, sorted_far}
use Rattle.number_facets.specs.Bounds.{is_within}
use Rattle.number_facets.specs.Numbers.{is_i64}
use Rattle.value_facets.specs.Cuts.{AreRising, AreRows, HasCuts, IsRank, IsRow, bound_at, cut_at, row_at}

le_true : (a b : ℤ) → a ≤ℤ b → int_le a b ≡ true
le_true a b h = grind (arith, ints)

le_false : (a b : ℤ) → b <ℤ a → int_le a b ≡ false
le_false a b h = grind (arith, ints)

-- ---- sorting

not_below : (x y : ℤ) → is_lt (int_cmp y x) ≡ false → x ≤ℤ y
not_below x y e = by (int_cmp y x) (int_ranked y x (int_cmp y x) refl) e
  where
    by : (o : Ordering) → MatchOrdering o (y <ℤ x) (y ≡ x) (x <ℤ y) → is_lt o ≡ false → x ≤ℤ y
    by Less m h = absurd (true≢false h)
    by Equal m h = omega (arith, ints, m)
    by Greater m h = omega (arith, ints, m)

pub rising : (xs : List ℤ) → IsSorted int_cmp xs → AreRising xs
rising xs up i j le lt = not_below (cut_at xs i) (cut_at xs j) (sorted_far (λ x y. is_lt (int_cmp x y)) (ranks_by int_cmp_total (λ (x : ℤ). x)) xs up i j (pos 0) le lt)

pub cuts_kept : (xs ys : List ℤ) (b : ℤ × ℤ) → ((c : ℤ) → Contains xs c → Contains ys c) → HasCuts xs b → HasCuts ys b
cuts_kept xs ys b kept has = record { first = kept b.0 has.first; after = λ lt. kept (b.1 +ℤ pos 1) (has.after lt) }

pub cuts_sorted : (xs ys : List ℤ) (bounds : List (ℤ × ℤ)) → IsPermutation xs ys → All (HasCuts xs) bounds → All (HasCuts ys) bounds
cuts_sorted xs ys bounds is all k d lt = cuts_kept xs ys (get_or bounds k d) (λ c. Contains-permutation xs ys c is) (all k d lt)

-- the two cuts of a bound
pub cuts_added : (old mid new : List ℤ) (b : ℤ × ℤ) (x y : ℤ) → x ≡ b.0 → y ≡ b.1 +ℤ pos 1 → mid ≡ old ++ x ∷ [] → new ≡ mid ++ y ∷ [] → HasCuts new b
cuts_added old mid new b x y first last one two = record {
  first = subst (λ xs. Contains xs b.0) (sym two) (Contains-append_left mid (y ∷ []) b.0 (subst (λ xs. Contains xs b.0) (sym one) (subst (λ c. Contains (old ++ c ∷ []) b.0) (sym first) (Contains-push old b.0))));
  after = λ lt. subst (λ xs. Contains xs (b.1 +ℤ pos 1)) (sym two) (subst (λ c. Contains (mid ++ c ∷ []) (b.1 +ℤ pos 1)) (sym last) (Contains-push mid (b.1 +ℤ pos 1)));
}

-- ---- ranks

module _ (cuts : List ℤ) (v : ℤ) where
  -- a cut that is not above the number is not above the last such cut
  reached : (i : ℕ) → AreRising cuts → IsRank cuts v (suc i) → (x : ℤ) → Contains cuts x → x ≤ℤ v → x ≤ℤ cut_at cuts i
  reached i up rank x has le = by (cases_lt has.0 (suc i))
    where
      here : cut_at cuts has.0 ≡ x
      here = get_or_default cuts has.0 (pos 0) x has.1 ∙ has.2

      by : (has.0 < suc i) ⊎ (suc i ≤ has.0) → x ≤ℤ cut_at cuts i
      by (inl lt) = subst (λ y. y ≤ℤ cut_at cuts i) here (up has.0 i (omega arith) (omega (arith, rank.within)))
      by (inr ge) = let above : v <ℤ x = subst (λ y. v <ℤ y) here (rank.above has.0 ge has.1) in absurd (omega (arith, ints, above, le))

  -- where all cuts are above the number, no bound has it
  none_within : (b : ℤ × ℤ) → IsRank cuts v 0 → HasCuts cuts b → is_within b v ≡ false
  none_within b rank has =
      let k : ℕ = has.first.0 in
      let here : cut_at cuts k ≡ b.0 = get_or_default cuts k (pos 0) b.0 has.first.1 ∙ has.first.2 in
      let above : v <ℤ b.0 = subst (λ y. v <ℤ y) here (rank.above k (omega arith) has.first.1) in
      ap (λ t. t && int_le v b.1) (le_false b.0 v above)

  same_within : (i : ℕ) (b : ℤ × ℤ) → AreRising cuts → IsRank cuts v (suc i) → HasCuts cuts b → v <ℤ pos (2 ^ 63) → is_within b v ≡ is_within b (cut_at cuts i)
  same_within i b up rank has small = λ j. first j && last j
    where
      c : ℤ
      c = cut_at cuts i

      below : c ≤ℤ v
      below = rank.below i (omega arith)

      first : int_le b.0 v ≡ int_le b.0 c
      first = by_lt_z v b.0 (λ lt. le_false b.0 v lt ∙ sym (le_false b.0 c (omega (arith, ints, lt, below)))) (λ le. le_true b.0 v le ∙ sym (le_true b.0 c (reached i up rank b.0 has.first le)))

      last : int_le v b.1 ≡ int_le c b.1
      last = by_lt_z b.1 v
          (λ lt. let after : (b.1 +ℤ pos 1) ≤ℤ c = reached i up rank (b.1 +ℤ pos 1) (has.after (omega (arith, ints, lt, small))) (omega (arith, ints, lt)) in
          le_false v b.1 lt ∙ sym (le_false c b.1 (omega (arith, ints, after))))
          (λ le. le_true v b.1 le ∙ sym (le_true c b.1 (omega (arith, ints, le, below))))

pub i64_below : (v : ℤ) → IsTrue (is_i64 v) → v <ℤ pos (2 ^ 63)
i64_below v is = record { lt = subst T (sym (and_parts _ (int_lt v (pos (2 ^ 63))) is).1) tt }

-- the row of a number's rank is the number's row
pub row_of_rank : (bounds : List (ℤ × ℤ)) (cuts : List ℤ) (rows : List (Vec ℕ Global)) (v : ℤ) (rank : ℕ) → AreRising cuts → All (HasCuts cuts) bounds → AreRows bounds cuts rows → IsTrue (is_i64 v) → IsRank cuts v rank → IsRow bounds v (row_at rows rank)
row_of_rank bounds cuts rows v zero up has are small is = record {
  within = λ k d lt. absurd (let none : length (row_at rows 0) ≡ 0 = ap length are.none in omega (arith, none, lt));
  has = λ k lt. ap (list_any (nat_eq k)) are.none ∙ sym (none_within cuts v (bound_at bounds k) is (has k (pos 1, pos 0) lt));
}
row_of_rank bounds cuts rows v (suc i) up has are small is =
    let lt : i < length cuts = omega (arith, is.within) in
    let at : suc i ≡ i + 1 = omega arith in
    let row : IsRow bounds (cut_at cuts i) (row_at rows (suc i)) = subst (λ n. IsRow bounds (cut_at cuts i) (row_at rows n)) (sym at) (are.each i lt) in
    record {
      within = row.within;
      has = λ k below. row.has k below ∙ sym (same_within cuts v i (bound_at bounds k) up is (has k (pos 1, pos 0) below) (i64_below v small));
    }
