-- The row of a number, bound by bound, and the rows of the cuts, cut by cut.
use Rattle.std.proofs.Common.{◌≡◌, ℕ, ◌+◌, ◌<◌, ◌≤◌, ℤ, Bool, true, false, List, [], ◌∷◌, ◌++◌, ◌||◌, length, map, get_or, refl, sym, ap, subst, ◌∙◌, ◌⊎◌, inl, inr, arith, All, nat_eq}
use Rattle.std.specs.declared.alloc.Global.{Global}
use Rattle.std.specs.declared.vec.Vec.{Vec}
use Rattle.std.specs.List.{list_any}
use Rattle.std.proofs.lemmas.Bool.{cases_lt, eq-eqb, ne_eqb}
use Rattle.std.proofs.lemmas.List.{get_or_append_left, get_or_push, length-map, map-append}
use Rattle.std.proofs.lemmas.List.Elements.{All-push, All-weaker}
use Rattle.std.proofs.lemmas.List.Folds.{list_any-append, list_any_none}
use Rattle.value_facets.specs.Cuts.{IsRow, cut_at, row_at}

-- the bounds below k are in the row where the test says so
pub record IsRowTo (test : ℕ → Bool) (k : ℕ) (row : List ℕ) : Type 0 where
  pub within : All (λ j. j < k) row
  pub has : (j : ℕ) → j < k → list_any (nat_eq j) row ≡ test j

absent : (j k : ℕ) (row : List ℕ) → All (λ i. i < k) row → k ≤ j → list_any (nat_eq j) row ≡ false
absent j k row all le = list_any_none (nat_eq j) row (λ i d lt. ne_eqb j (get_or row i d) (λ e. omega (arith, e, all i d lt, le)))

or_none : (b : Bool) → (b || (false || false)) ≡ b
or_none true = refl
or_none false = refl

pub row_taken : (test : ℕ → Bool) (k : ℕ) (row more : List ℕ) → IsRowTo test k row → test k ≡ true → more ≡ row ++ k ∷ [] → IsRowTo test (k + 1) more
row_taken test k row more so is new = subst (IsRowTo test (k + 1)) (sym new) (record {
  within = All-push (λ j. j < k + 1) row k (All-weaker (λ j. j < k) (λ j. j < k + 1) (λ j lt. omega arith) row so.within) (omega arith);
  has = λ j lt. list_any-append (nat_eq j) row (k ∷ []) ∙ by j (cases_lt j k) lt;
})
  where
    by : (j : ℕ) → (j < k) ⊎ (k ≤ j) → j < k + 1 → (list_any (nat_eq j) row || list_any (nat_eq j) (k ∷ [])) ≡ test j
    by j (inl low) lt = (λ i. so.has j low i || (ne_eqb j k (λ e. omega (arith, e, low)) i || false)) ∙ or_none (test j)
    by j (inr high) lt = let at : j ≡ k = omega arith in (λ i. absent j k row so.within high i || (eq-eqb j k at i || false)) ∙ sym (ap test at ∙ is)

pub row_left : (test : ℕ → Bool) (k : ℕ) (row more : List ℕ) → IsRowTo test k row → test k ≡ false → more ≡ row → IsRowTo test (k + 1) more
row_left test k row more so is same = subst (IsRowTo test (k + 1)) (sym same) (record {
  within = All-weaker (λ j. j < k) (λ j. j < k + 1) (λ j lt. omega arith) row so.within;
  has = λ j lt. by j (cases_lt j k) lt;
})
  where
    by : (j : ℕ) → (j < k) ⊎ (k ≤ j) → j < k + 1 → list_any (nat_eq j) row ≡ test j
    by j (inl low) lt = so.has j low
    by j (inr high) lt = let at : j ≡ k = omega arith in absent j k row so.within high ∙ sym (ap test at ∙ is)

-- ---- the rows of the cuts

module _ (old : List (Vec ℕ Global)) (one : Vec ℕ Global) (new : List (Vec ℕ Global)) (is : new ≡ old ++ one ∷ []) where
  all_items : map (λ (row : Vec ℕ Global). row.items) new ≡ map (λ (row : Vec ℕ Global). row.items) old ++ one.items ∷ []
  all_items = ap (map (λ (row : Vec ℕ Global). row.items)) is ∙ map-append (λ (row : Vec ℕ Global). row.items) old (one ∷ [])

  pub row_before : (i : ℕ) → i < length old → row_at new i ≡ row_at old i
  row_before i lt = ap (λ rs. get_or rs i []) all_items ∙ get_or_append_left (map (λ (row : Vec ℕ Global). row.items) old) (one.items ∷ []) [] i (omega (arith, lt, length-map old (λ (row : Vec ℕ Global). row.items)))

  pub row_last : (i : ℕ) → length old ≡ i → row_at new i ≡ one.items
  row_last i at = ap (λ rs. get_or rs i []) all_items ∙ get_or_push (map (λ (row : Vec ℕ Global). row.items) old) one.items [] i (length-map old (λ (row : Vec ℕ Global). row.items) ∙ at)

  pub rows_more : (bounds : List (ℤ × ℤ)) (cuts : List ℤ) (n : ℕ) → length old ≡ n + 1 → ((i : ℕ) → i < n → IsRow bounds (cut_at cuts i) (row_at old (i + 1))) → IsRow bounds (cut_at cuts n) one.items
      → (i : ℕ) → i < n + 1 → IsRow bounds (cut_at cuts i) (row_at new (i + 1))
  rows_more bounds cuts n len each last i lt = by (cases_lt i n)
    where
      by : (i < n) ⊎ (n ≤ i) → IsRow bounds (cut_at cuts i) (row_at new (i + 1))
      by (inl low) = subst (IsRow bounds (cut_at cuts i)) (sym (row_before (i + 1) (omega (arith, len)))) (each i low)
      by (inr high) = let at : n ≡ i = omega arith in subst (λ m. IsRow bounds (cut_at cuts m) (row_at new (m + 1))) at (subst (IsRow bounds (cut_at cuts n)) (sym (row_last (n + 1) len)) last)
