-- Sums are determined by the documents and the dimension.
use Rattle.std.proofs.Common.{◌≡◌, ℕ, ℤ, suc, ◌+◌, ◌<◌, Bool, true, false, cond, List, [], ◌∷◌, take, refl, sym, ap, subst, ◌∙◌, arith, rules}
use Rattle.std.specs.Prelude.{count_by, All}
use Rattle.std.specs.Str.{bytes_eq}
use Rattle.std.specs.List.Sorted.{IsSorted}
use Rattle.std.specs.Ordering.{nat_cmp, int_cmp, is_lt}
use Rattle.std.specs.Cmp.{IsTotalOrder}
use Rattle.std.specs.Cmp.Rules.{comparing}
use Rattle.std.specs.Cmp.Lexicographic.{slice_cmp, nat_list_eq_equiv, bytes_decides}
use Rattle.std.proofs.lemmas.List.Sums.{sum_by-cons}
use Rattle.std.proofs.lemmas.Map.Lookups.{exact_bytes}
use Rattle.facet_names.proofs.Ordered.{neither_is_less, second_is_equal, tail_sorted, first_is_first}
use Rattle.facet_model.specs.Documents.{Doc}
use Rattle.number_facets.specs.Values.{PartSum, IsSums, int_sum, sums_cmp, weights}

abbrev times : List ℕ → List PartSum → ℕ
times q cs = count_by (λ c. bytes_eq q c.0) cs

abbrev one_if : Bool → ℕ
one_if b = cond b 1 0

times-cons : (q : List ℕ) (c : PartSum) (cs : List PartSum) → times q (c ∷ cs) ≡ one_if (bytes_eq q c.0) + times q cs
times-cons q c cs = sum_by-cons (λ c. cond (bytes_eq q c.0) 1 0) c cs

own : (c : PartSum) (cs : List PartSum) → times c.0 (c ∷ cs) ≡ 1 + times c.0 cs
own c cs = times-cons c.0 c cs ∙ ap (λ b. one_if b + times c.0 cs) (nat_list_eq_equiv.refl c.0)

sums_total : IsTotalOrder sums_cmp
sums_total = search (comparing, rules)

-- two sums of which neither is first have the same component
tied : (x y : PartSum) → is_lt (sums_cmp x y) ≡ false → is_lt (sums_cmp y x) ≡ false → x.0 ≡ y.0
tied x y not_first not_second = exact_bytes x.0 y.0 (second_is_equal (int_cmp y.1 x.1) (slice_cmp nat_cmp x.0 y.0) (neither_is_less (sums_cmp x y) (sums_cmp y x) not_first not_second (sums_total.antisymm y x)))

module _ (sum_of : List ℕ → ℤ) where
  -- what holds of each element of a list holds of one whose component is in it
  taken : (P : PartSum → Type 0) (x : PartSum) → x.1 ≡ sum_of x.0 → (zs : List PartSum) → All (λ c. c.1 ≡ sum_of c.0) zs → All P zs → 0 < times x.0 zs → P x
  taken P x is [] summed each some = absurd (omega (arith, some))
  taken P x is (z ∷ zs) summed each some = by (bytes_eq x.0 z.0) refl (λ more. taken P x is zs (λ k d lt. summed (suc k) d (omega arith)) (λ k d lt. each (suc k) d (omega arith)) more)
    where
      by : (b : Bool) → bytes_eq x.0 z.0 ≡ b → (0 < times x.0 zs → P x) → P x
      by true h rest =
          let same : x.0 ≡ z.0 = (bytes_decides x.0 z.0).0 h in
          let number : x.1 ≡ z.1 = is ∙ ap sum_of same ∙ sym (summed 0 z (omega arith)) in
          let whole : z ≡ x = λ i. (sym same i, sym number i) in
          subst P whole (each 0 z (omega arith))
      by false h rest = rest (omega (arith, some, times-cons x.0 z zs, ap one_if h))

  determined : (xs ys : List PartSum) → All (λ c. c.1 ≡ sum_of c.0) xs → All (λ c. c.1 ≡ sum_of c.0) ys → IsSorted sums_cmp xs → IsSorted sums_cmp ys → ((q : List ℕ) → times q xs ≡ times q ys) → xs ≡ ys
  determined [] [] cx cy sx sy same = refl
  determined [] (y ∷ ys) cx cy sx sy same = absurd (omega (arith, same y.0, own y ys))
  determined (x ∷ xs) [] cx cy sx sy same = absurd (omega (arith, same x.0, own x xs))
  determined (x ∷ xs) (y ∷ ys) cx cy sx sy same =
      let x_is : x.1 ≡ sum_of x.0 = cx 0 x (omega arith) in
      let y_is : y.1 ≡ sum_of y.0 = cy 0 y (omega arith) in
      let not_first : is_lt (sums_cmp x y) ≡ false = taken (λ z. is_lt (sums_cmp z y) ≡ false) x x_is (y ∷ ys) cy (first_is_first sums_cmp sums_total y ys sy) (omega (arith, same x.0, own x xs)) in
      let not_second : is_lt (sums_cmp y x) ≡ false = taken (λ z. is_lt (sums_cmp z x) ≡ false) y y_is (x ∷ xs) cx (first_is_first sums_cmp sums_total x xs sx) (omega (arith, same y.0, own y ys)) in
      let part : x.0 ≡ y.0 = tied x y not_first not_second in
      let number : x.1 ≡ y.1 = x_is ∙ ap sum_of part ∙ sym y_is in
      let rest : xs ≡ ys = determined xs ys (λ k d lt. cx (suc k) d (omega arith)) (λ k d lt. cy (suc k) d (omega arith)) (tail_sorted sums_cmp x xs sx) (tail_sorted sums_cmp y ys sy)
      (λ q. let one : bytes_eq q x.0 ≡ bytes_eq q y.0 = ap (bytes_eq q) part in omega (arith, same q, times-cons q x xs, times-cons q y ys, ap one_if one)) in
      λ i. (part i, number i) ∷ rest i

pub one_sums : (docs : List Doc) (dim : List ℕ) (n : ℕ) (xs ys : List PartSum) → IsSums docs dim n xs → IsSums docs dim n ys → xs ≡ ys
one_sums docs dim n xs ys one two = one.2 ∙ ap (take n) (determined (λ part. int_sum (weights docs dim part)) one.0 two.0 one.1.summed two.1.summed one.1.ordered two.1.ordered (λ q. one.1.each_once q ∙ sym (two.1.each_once q))) ∙ sym two.2
