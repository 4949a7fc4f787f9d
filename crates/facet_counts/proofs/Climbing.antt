-- One step of the rolling up: the count of an ordinal goes to its parent.
use Rattle.std.proofs.Common.{◌≡◌, ℕ, zero, suc, ◌+◌, ◌<◌, ◌≤◌, ◌⊎◌, Bool, true, false, ◌&&◌, ◌||◌, cond, List, [], ◌∷◌, Option, Some, None, nat_eq, refl, sym, ap, ◌∙◌, arith, inl, inr}
use Rattle.std.specs.Prelude.{IfSome, nat_le, All}
use Rattle.std.specs.Option.{option_map_or}
use Rattle.std.specs.List.{list_any}
use Rattle.std.proofs.lemmas.Bool.{cases_order, cases_lt, eq-eqb, ne_eqb, eqb-true, le-leb, lt-leb, true≢false}
use Rattle.std.proofs.lemmas.List.Sums.{sum_by-cons}
use Rattle.facet_counts.specs.Climbs.{climbs, climbed}
use Rattle.std.proofs.Math.Bool.{and-false, or-false}

-- ---- tests

-- two pairs, regrouped
regrouped : (a b c d x : Bool) → ((a || (b && x)) || (c || (d && x))) ≡ ((a || c) || ((b || d) && x))
regrouped true b c d x = refl
regrouped false true true d true = refl
regrouped false true true d false = refl
regrouped false true false d true = refl
regrouped false true false d false = and-false d
regrouped false false true d x = refl
regrouped false false false d x = refl

-- the three cases of a step, by how an ordinal and the first that goes on stand
low_case : (a l m e s t u x : Bool) → l ≡ false → m ≡ false → e ≡ false → (a || (l && s)) ≡ ((a || (m && t)) || ((e || (m && u)) && x))
low_case true l m e s t u x hl hm he = refl
low_case false l m e s t u x hl hm he = rw (hl, hm, he) refl

same_case : (a l m e s t u x : Bool) → l ≡ true → m ≡ false → e ≡ true → s ≡ x → (a || (l && s)) ≡ ((a || (m && t)) || ((e || (m && u)) && x))
same_case true l m e s t u x hl hm he hs = refl
same_case false l m e s t u x hl hm he hs = rw (hl, hm, he) hs

high_case : (a l m e s t u x : Bool) → l ≡ true → m ≡ true → e ≡ false → s ≡ (t || (u && x)) → (a || (l && s)) ≡ ((a || (m && t)) || ((e || (m && u)) && x))
high_case true l m e s t u x hl hm he hs = refl
high_case false l m e s t u x hl hm he hs = rw (hl, hm, he) hs

second : (a l s : Bool) → a ≡ false → (a || (l && s)) ≡ true → s ≡ true
second a l s fails e = by l (sym (ap (λ b. b || (l && s)) fails) ∙ e)
  where
    by : (l : Bool) → (l && s) ≡ true → s ≡ true
    by true e = e
    by false e = absurd (true≢false (sym e))

-- ---- one other ordinal

module _ (up : ℕ → Option ℕ) (small : (j : ℕ) → IfSome (up j) (λ p. p < j)) where
  -- below the first there is no step
  pub no_step : (first n i j : ℕ) → j < first → climbs up first n i j ≡ nat_eq i j
  no_step first zero i j low = refl
  no_step first (suc n) i j low = ap (λ b. nat_eq i j || (b && option_map_or (climbs up first n i) (up j) false)) (lt-leb first j low) ∙ or-false (nat_eq i j)

  at_zero : (f : ℕ → Bool) → option_map_or f (up 0) false ≡ false
  at_zero f = by (up 0) (small 0)
    where
      by : (o : Option ℕ) → IfSome o (λ p. p < 0) → option_map_or f o false ≡ false
      by None low = refl
      by (Some p) low = absurd (omega arith)

  -- What reaches an ordinal by steps from k on reaches it by later steps, or reaches k so and k's count goes to the ordinal.
  pub one_step : (k i n j : ℕ) → j ≤ n → climbs up k n i j ≡ (climbs up (k + 1) n i j || (climbs up (k + 1) n k j && option_map_or (nat_eq i) (up k) false))
  one_step k i zero j low = sym (ap (λ b. nat_eq i j || b) (by (cases_order k j)) ∙ or-false (nat_eq i j))
    where
      by : (k ≡ j) ⊎ ((k < j) ⊎ (j < k)) → (nat_eq k j && option_map_or (nat_eq i) (up k) false) ≡ false
      by (inl e) =
          let none : k ≡ 0 = omega arith in
          ap (λ b. nat_eq k j && b) (ap (λ n. option_map_or (nat_eq i) (up n) false) none ∙ at_zero (nat_eq i)) ∙ and-false (nat_eq k j)
      by (inr (inl less)) = absurd (omega arith)
      by (inr (inr more)) = ap (λ b. b && option_map_or (nat_eq i) (up k) false) (ne_eqb k j (λ e. absurd (omega arith)))
  one_step k i (suc n) j low = by (cases_order j k) (λ p less. one_step k i n p (omega arith))
    where
      here : (o : Option ℕ) → IfSome o (λ p. p < k) → option_map_or (climbs up k n i) o false ≡ option_map_or (nat_eq i) o false
      here None less = refl
      here (Some p) less = no_step k n i p less

      later : (o : Option ℕ) → IfSome o (λ p. p < j) → ((p : ℕ) → p < j → climbs up k n i p ≡ (climbs up (k + 1) n i p || (climbs up (k + 1) n k p && option_map_or (nat_eq i) (up k) false))) → option_map_or (climbs up k n i) o false ≡ (option_map_or (climbs up (k + 1) n i) o false || (option_map_or (climbs up (k + 1) n k) o false && option_map_or (nat_eq i) (up k) false))
      later None less again = refl
      later (Some p) less again = again p less

      by : (j ≡ k) ⊎ ((j < k) ⊎ (k < j)) → ((p : ℕ) → p < j → climbs up k n i p ≡ (climbs up (k + 1) n i p || (climbs up (k + 1) n k p && option_map_or (nat_eq i) (up k) false))) → climbs up k (suc n) i j ≡ (climbs up (k + 1) (suc n) i j || (climbs up (k + 1) (suc n) k j && option_map_or (nat_eq i) (up k) false))
      by (inl e) again = same_case (nat_eq i j) (nat_le k j) (nat_le (k + 1) j) (nat_eq k j) (option_map_or (climbs up k n i) (up j) false) (option_map_or (climbs up (k + 1) n i) (up j) false) (option_map_or (climbs up (k + 1) n k) (up j) false) (option_map_or (nat_eq i) (up k) false)
          (le-leb k j (omega arith)) (lt-leb (k + 1) j (omega arith)) (eq-eqb k j (sym e)) (ap (λ m. option_map_or (climbs up k n i) (up m) false) e ∙ here (up k) (small k))
      by (inr (inl less)) again = low_case (nat_eq i j) (nat_le k j) (nat_le (k + 1) j) (nat_eq k j) (option_map_or (climbs up k n i) (up j) false) (option_map_or (climbs up (k + 1) n i) (up j) false) (option_map_or (climbs up (k + 1) n k) (up j) false) (option_map_or (nat_eq i) (up k) false)
          (lt-leb k j less) (lt-leb (k + 1) j (omega arith)) (ne_eqb k j (λ e. absurd (omega arith)))
      by (inr (inr more)) again = high_case (nat_eq i j) (nat_le k j) (nat_le (k + 1) j) (nat_eq k j) (option_map_or (climbs up k n i) (up j) false) (option_map_or (climbs up (k + 1) n i) (up j) false) (option_map_or (climbs up (k + 1) n k) (up j) false) (option_map_or (nat_eq i) (up k) false)
          (le-leb k j (omega arith)) (le-leb (k + 1) j (omega arith)) (ne_eqb k j (λ e. absurd (omega arith))) (later (up j) (small j) again)

  -- An ordinal's count goes on to no two ordinals of which one is k and the other smaller.
  pub one_end : (k i n j : ℕ) → j ≤ n → i < k → climbs up (k + 1) n i j ≡ true → climbs up (k + 1) n k j ≡ true → ⊥
  one_end k i zero j low less a b = absurd (omega (arith, eqb-true i j a, eqb-true k j b))
  one_end k i (suc n) j low less a b = by (cases_lt k j) (λ p below. one_end k i n p (omega arith) less)
    where
      both : (o : Option ℕ) → IfSome o (λ p. p < j) → ((p : ℕ) → p < j → climbs up (k + 1) n i p ≡ true → climbs up (k + 1) n k p ≡ true → ⊥) → option_map_or (climbs up (k + 1) n i) o false ≡ true → option_map_or (climbs up (k + 1) n k) o false ≡ true → ⊥
      both None below again s t = true≢false (sym s)
      both (Some p) below again s t = again p below s t

      by : (k < j) ⊎ (j ≤ k) → ((p : ℕ) → p < j → climbs up (k + 1) n i p ≡ true → climbs up (k + 1) n k p ≡ true → ⊥) → ⊥
      by (inl more) again = both (up j) (small j) again
          (second (nat_eq i j) (nat_le (k + 1) j) (option_map_or (climbs up (k + 1) n i) (up j) false) (ne_eqb i j (λ e. absurd (omega arith))) a)
          (second (nat_eq k j) (nat_le (k + 1) j) (option_map_or (climbs up (k + 1) n k) (up j) false) (ne_eqb k j (λ e. absurd (omega arith))) b)
      by (inr high) again =
          let first : i ≡ j = eqb-true i j (sym (no_step (k + 1) (suc n) i j (omega arith)) ∙ a) in
          let second : k ≡ j = eqb-true k j (sym (no_step (k + 1) (suc n) k j (omega arith)) ∙ b) in
          absurd (omega arith)

  -- ---- lists of ordinals

  abbrev pub reaches : ℕ → ℕ → List ℕ → Bool
  reaches first i list = list_any (λ j. climbs up first j i j) list

  -- a list's step
  list_step : (k i : ℕ) (list : List ℕ) → reaches k i list ≡ (reaches (k + 1) i list || (reaches (k + 1) k list && option_map_or (nat_eq i) (up k) false))
  list_step k i [] = refl
  list_step k i (j ∷ list) =
      (λ t. one_step k i j j (omega arith) t || list_step k i list t)
      ∙ regrouped (climbs up (k + 1) j i j) (climbs up (k + 1) j k j) (reaches (k + 1) i list) (reaches (k + 1) k list) (option_map_or (nat_eq i) (up k) false)

  -- an ordinal that k's count does not go to keeps its count
  pub others_keep : (k i : ℕ) (lists : List (List ℕ)) → option_map_or (nat_eq i) (up k) false ≡ false → climbed up k lists i ≡ climbed up (k + 1) lists i
  others_keep k i [] other = refl
  others_keep k i (list ∷ lists) other =
      let same : reaches k i list ≡ reaches (k + 1) i list = list_step k i list ∙ ap (λ b. reaches (k + 1) i list || (reaches (k + 1) k list && b)) other ∙ ap (λ b. reaches (k + 1) i list || b) (and-false (reaches (k + 1) k list)) ∙ or-false (reaches (k + 1) i list) in
      sum_by-cons (λ l. cond (reaches k i l) 1 0) list lists ∙ (λ t. cond (same t) 1 0 + others_keep k i lists other t) ∙ sym (sum_by-cons (λ l. cond (reaches (k + 1) i l) 1 0) list lists)

  -- the one that it goes to gets the lists that reach k, where none reaches both
  pub parent_gets : (k p : ℕ) (lists : List (List ℕ)) → up k ≡ Some p → All (λ list. reaches (k + 1) p list ≡ true → reaches (k + 1) k list ≡ true → ⊥) lists → climbed up k lists p ≡ climbed up (k + 1) lists p + climbed up (k + 1) lists k
  parent_gets k p [] goes apart = refl
  parent_gets k p (list ∷ lists) goes apart =
      let there : option_map_or (nat_eq p) (up k) false ≡ true = ap (λ o. option_map_or (nat_eq p) o false) goes ∙ eq-eqb p p refl in
      let one : cond (reaches k p list) 1 0 ≡ cond (reaches (k + 1) p list) 1 0 + cond (reaches (k + 1) k list) 1 0 =
      ap (λ b. cond b 1 0) (list_step k p list ∙ ap (λ b. reaches (k + 1) p list || (reaches (k + 1) k list && b)) there) ∙ parts (reaches (k + 1) p list) (reaches (k + 1) k list) (apart 0 list (omega arith)) in
      let rest : climbed up k lists p ≡ climbed up (k + 1) lists p + climbed up (k + 1) lists k = parent_gets k p lists goes (λ n d lt. apart (suc n) d (omega arith)) in
      omega (arith, one, rest, sum_by-cons (λ l. cond (reaches k p l) 1 0) list lists, sum_by-cons (λ l. cond (reaches (k + 1) p l) 1 0) list lists, sum_by-cons (λ l. cond (reaches (k + 1) k l) 1 0) list lists)
    where
      parts : (a b : Bool) → (a ≡ true → b ≡ true → ⊥) → cond (a || (b && true)) 1 0 ≡ cond a 1 0 + cond b 1 0
      parts true true apart = absurd (apart refl refl)
      parts true false apart = refl
      parts false true apart = refl
      parts false false apart = refl
