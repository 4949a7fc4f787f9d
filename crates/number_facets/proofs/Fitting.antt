-- Sums of numbers of 32 bits.
use Rattle.std.proofs.Common.{◌≡◌, ℕ, zero, suc, ◌+◌, ◌*◌, ◌<◌, ◌≤◌, ◌^◌, ℤ, pos, neg_ℤ, ◌+ℤ◌, ◌≤ℤ◌, ◌<ℤ◌, Bool, true, false, cond, List, [], ◌∷◌, ◌++◌, length, Option, Some, None, refl, sym, ap, subst, ◌∙◌, ◌&&◌, arith, All, IsTrue, T, filter_map, fold, true≢false}
use Rattle.std.specs.Prelude.{int_le, int_lt, flat_map, option_and_then}
use Rattle.std.specs.Str.{bytes_eq}
use Rattle.std.proofs.lemmas.Bool.{and_from, and_parts}
use Rattle.std.proofs.lemmas.Int.{ints}
use Rattle.std.proofs.lemmas.List.{length-append}
use Rattle.std.proofs.lemmas.List.Elements.{All-append, All-cons, All-head, All-nil, All-tail}
use Rattle.facet_model.specs.Documents.{Doc}
use Rattle.number_facets.specs.Numbers.{is_i64, number_of, small_of, small_number_of}
use Rattle.number_facets.specs.Values.{int_sum, weight_at, weights}

back : (b : Bool) → T b → b ≡ true
back true t = refl
back false t = absurd t

yes : (b : Bool) → b ≡ true → T b
yes b e = subst T (sym e) tt

-- a number of 32 bits
abbrev pub IsSmall : ℤ → Type 0
IsSmall w = (neg_ℤ (pos (2 ^ 31)) ≤ℤ w) × (w <ℤ pos (2 ^ 31))

small_is : (v w : ℤ) → small_of v ≡ Some w → IsSmall w
small_is v w e = by (int_le (neg_ℤ (pos (2 ^ 31))) v) refl (int_lt v (pos (2 ^ 31))) refl e
  where
    one : (a b : ℤ) → Some a ≡ Some b → a ≡ b
    one a b is = cc

    by : (p : Bool) → int_le (neg_ℤ (pos (2 ^ 31))) v ≡ p → (q : Bool) → int_lt v (pos (2 ^ 31)) ≡ q → cond (p && q) (Some v) None ≡ Some w → IsSmall w
    by true low true high is = subst IsSmall (one v w is) (record { le = yes (int_le (neg_ℤ (pos (2 ^ 31))) v) low }, record { lt = yes (int_lt v (pos (2 ^ 31))) high })
    by true low false high is = absurd cc
    by false low q high is = absurd cc

-- no weight of a label has more than 32 bits
weight_small : (dim part : List ℕ) (label : List (List ℕ)) (w : ℤ) → weight_at dim part label ≡ Some w → IsSmall w
weight_small dim part [] w e = absurd cc
weight_small dim part (d ∷ []) w e = absurd cc
weight_small dim part (d ∷ p ∷ []) w e = absurd cc
weight_small dim part (d ∷ p ∷ text ∷ []) w e = by (bytes_eq d dim && bytes_eq p part) e
  where
    small : (o : Option ℤ) → option_and_then small_of o ≡ Some w → IsSmall w
    small None is = absurd cc
    small (Some v) is = small_is v w is

    by : (b : Bool) → cond b (small_number_of text) None ≡ Some w → IsSmall w
    by true is = small (number_of text) is
    by false is = absurd cc
weight_small dim part (d ∷ p ∷ text ∷ more ∷ rest) w e = absurd cc

-- a sum of n of them is at most n times as great
abbrev pub IsAtMost : ℕ → ℤ → Type 0
IsAtMost m v = (neg_ℤ (pos m) ≤ℤ v) × (v ≤ℤ pos m)

one_more : (m : ℕ) (a w : ℤ) → IsAtMost m a → IsSmall w → IsAtMost (m + 2 ^ 31) (a +ℤ w)
one_more m a w at small = (omega (arith, ints, at.0, small.0), omega (arith, ints, at.1, small.1))

added_up : (ws : List ℤ) (m : ℕ) (a : ℤ) → IsAtMost m a → All IsSmall ws → IsAtMost (m + 2 ^ 31 * length ws) (fold (λ s v. s +ℤ v) a ws)
added_up [] m a at small = let e : m + 2 ^ 31 * 0 ≡ m = omega arith in subst (λ n. IsAtMost n a) (sym e) at
added_up (w ∷ ws) m a at small =
    let e : (m + 2 ^ 31) + 2 ^ 31 * length ws ≡ m + 2 ^ 31 * suc (length ws) = omega arith in
    subst (λ n. IsAtMost n (fold (λ s v. s +ℤ v) (a +ℤ w) ws)) e (added_up ws (m + 2 ^ 31) (a +ℤ w) (one_more m a w at (All-head IsSmall w ws small)) (All-tail IsSmall w ws small))

module _ (dim part : List ℕ) where
  label_step : (P : List ℤ → Type 0) (label : List (List ℕ)) (rest : List (List (List ℕ))) → ((w : ℤ) → weight_at dim part label ≡ Some w → P (w ∷ filter_map (weight_at dim part) rest)) → P (filter_map (weight_at dim part) rest) → P (filter_map (weight_at dim part) (label ∷ rest))
  label_step P label rest some none = by (weight_at dim part label) refl
    where
      by : (o : Option ℤ) → weight_at dim part label ≡ o → P (filter_map (weight_at dim part) (label ∷ rest))
      by None e = rw e none
      by (Some w) e = rw e (some w e)

  labels_small : (labels : List (List (List ℕ))) → All IsSmall (filter_map (weight_at dim part) labels)
  labels_small [] = All-nil IsSmall
  labels_small (l ∷ ls) = label_step (All IsSmall) l ls (λ w e. All-cons IsSmall w (filter_map (weight_at dim part) ls) (weight_small dim part l w e) (labels_small ls)) (labels_small ls)

  labels_few : (labels : List (List (List ℕ))) → length (filter_map (weight_at dim part) labels) ≤ length labels
  labels_few [] = omega arith
  labels_few (l ∷ ls) = label_step (λ ws. length ws ≤ suc (length ls)) l ls (λ w e. omega (arith, labels_few ls)) (omega (arith, labels_few ls))

  all_small : (docs : List Doc) → All IsSmall (weights docs dim part)
  all_small [] = All-nil IsSmall
  all_small (d ∷ ds) = All-append IsSmall (filter_map (weight_at dim part) d.labels) (weights ds dim part) (labels_small d.labels) (all_small ds)

  all_few : (docs : List Doc) → All (λ doc. length doc.labels ≤ 256) docs → length (weights docs dim part) ≤ 256 * length docs
  all_few [] few = omega arith
  all_few (d ∷ ds) few = omega (arith, length-append (filter_map (weight_at dim part) d.labels) (weights ds dim part), labels_few d.labels, All-head (λ (doc : Doc). length doc.labels ≤ 256) d ds few, all_few ds (All-tail (λ (doc : Doc). length doc.labels ≤ 256) d ds few))

pub sums_fit : (docs : List Doc) (dim part : List ℕ) → length docs ≤ 1000000 → All (λ doc. length doc.labels ≤ 256) docs → IsTrue (is_i64 (int_sum (weights docs dim part)))
sums_fit docs dim part many few =
    let ws : List ℤ = weights docs dim part in
    let at : IsAtMost (0 + 2 ^ 31 * length ws) (int_sum ws) = added_up ws 0 (pos 0) (omega (arith, ints), omega (arith, ints)) (all_small dim part docs) in
    let size : length ws ≤ 256 * length docs = all_few dim part docs few in
    let low : neg_ℤ (pos (2 ^ 63)) ≤ℤ int_sum ws = omega (arith, ints, at.0, size, many) in
    let high : int_sum ws <ℤ pos (2 ^ 63) = omega (arith, ints, at.1, size, many) in
    and_from (int_le (neg_ℤ (pos (2 ^ 63))) (int_sum ws)) (int_lt (int_sum ws) (pos (2 ^ 63))) (back (int_le (neg_ℤ (pos (2 ^ 63))) (int_sum ws)) low.le) (back (int_lt (int_sum ws) (pos (2 ^ 63))) high.lt)
