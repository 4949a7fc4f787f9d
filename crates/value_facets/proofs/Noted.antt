-- Counting a document by one counter after the other.
use Rattle.std.proofs.Common.{◌≡◌, ℕ, ◌+◌, ◌<◌, ◌≤◌, Bool, true, false, cond, not, ◌&&◌, ◌||◌, ◌==◌, ◌⊎◌, inl, inr, nat_eq, zero, suc, set, replicate, take, Some, None, List, [], ◌∷◌, ◌++◌, length, get_or, refl, sym, ap, ◌∙◌, arith}
use Rattle.std.specs.List.{list_any}
use Rattle.std.proofs.lemmas.Bool.{cases_lt, eq-eqb, eqb-true, ne_eqb}
use Rattle.std.proofs.lemmas.List.Folds.{list_any_more}
use Rattle.std.proofs.lemmas.Option.{same_Some}
use Rattle.std.proofs.lemmas.List.{get_or-replicate, get_or-set_other, get_or-set_same, get_or_past, length-replicate}
use Rattle.std.proofs.lemmas.List.Sums.{sum_by_push}
use Rattle.value_facets.specs.Marking.{IsSlotOfAll, Marked, is_in_row, is_marked, joined_slot}
use Rattle.value_facets.specs.Tallying.{IsNoted, HasCounted, IsTally, Tallied, rows_to, total_of}

same_itself : (n : ℕ) → (n == n) ≡ true
same_itself n = eq-eqb n n refl

pub noted_none : (hit number : ℕ) (counts last : List ℕ) → IsNoted (λ k. false) hit number counts last counts last
noted_none hit number counts last = record {
  as_many = refl;
  as_long = refl;
  counted = λ k lt. omega arith;
  noted = λ k lt. refl;
}

pub noted_same : (test tested : ℕ → Bool) (hit number : ℕ) (c l c' l' : List ℕ) → ((k : ℕ) → tested k ≡ test k) → IsNoted test hit number c l c' l' → IsNoted tested hit number c l c' l'
noted_same test tested hit number c l c' l' same is = record {
  as_many = is.as_many;
  as_long = is.as_long;
  counted = λ k lt. is.counted k lt ∙ ap (λ b. get_or c k 0 + cond (b && not (get_or l k 0 == hit)) number 0) (sym (same k));
  noted = λ k lt. is.noted k lt ∙ ap (λ b. cond b hit (get_or l k 0)) (sym (same k));
}

-- a counter counts the document only the first time
added : (a b : Bool) (x hit number : ℕ) → cond (a && not (x == hit)) number 0 + cond (b && not (cond a hit x == hit)) number 0 ≡ cond ((a || b) && not (x == hit)) number 0
added true true x hit number = by (x == hit) (hit == hit) (same_itself hit)
  where
    by : (p q : Bool) → q ≡ true → cond (not p) number 0 + cond (not q) number 0 ≡ cond (not p) number 0
    by p true e = omega arith
    by p false e = absurd cc
added true false x hit number = omega arith
added false true x hit number = omega arith
added false false x hit number = refl

kept : (a b : Bool) (x hit : ℕ) → cond b hit (cond a hit x) ≡ cond (a || b) hit x
kept true true x hit = refl
kept true false x hit = refl
kept false true x hit = refl
kept false false x hit = refl

pub noted_more : (test more : ℕ → Bool) (hit number : ℕ) (c l c' l' c'' l'' : List ℕ) → IsNoted test hit number c l c' l' → IsNoted more hit number c' l' c'' l'' → IsNoted (λ k. test k || more k) hit number c l c'' l''
noted_more test more hit number c l c' l' c'' l'' is then = record {
  as_many = then.as_many ∙ is.as_many;
  as_long = then.as_long ∙ is.as_long;
  counted = λ k lt.
      let low : k < length c' = omega (arith, lt, is.as_many) in
      then.counted k low
      ∙ (λ i. is.counted k lt i + cond (more k && not (is.noted k lt i == hit)) number 0)
      ∙ omega (arith, added (test k) (more k) (get_or l k 0) hit number);
  noted = λ k lt.
      then.noted k (omega (arith, lt, is.as_many)) ∙ ap (λ x. cond (more k) hit x) (is.noted k lt) ∙ kept (test k) (more k) (get_or l k 0) hit;
}

pub noted_most : (test : ℕ → Bool) (hit number : ℕ) (c l c' l' : List ℕ) → IsNoted test hit number c l c' l' → (k : ℕ) → k < length c → get_or c' k 0 ≤ get_or c k 0 + number
noted_most test hit number c l c' l' is k lt = by (test k && not (get_or l k 0 == hit)) (is.counted k lt)
  where
    by : (b : Bool) → get_or c' k 0 ≡ get_or c k 0 + cond b number 0 → get_or c' k 0 ≤ get_or c k 0 + number
    by true e = omega (arith, e)
    by false e = omega (arith, e)

-- where no such counter has noted the hit, each has the number more
pub all_added : (test : ℕ → Bool) (hit number : ℕ) (c l c' l' : List ℕ) → IsNoted test hit number c l c' l' → ((k : ℕ) → k < length c → get_or l k 0 < hit) → (k : ℕ) → k < length c → get_or c' k 0 ≡ get_or c k 0 + cond (test k) number 0
all_added test hit number c l c' l' is past k lt = is.counted k lt ∙ ap (λ b. get_or c k 0 + cond b number 0) (by (test k))
  where
    off : not (get_or l k 0 == hit) ≡ true
    off = ap not (ne_eqb (get_or l k 0) hit (λ e. omega (arith, e, past k lt)))

    by : (b : Bool) → (b && not (get_or l k 0 == hit)) ≡ b
    by true = off
    by false = refl

-- none has noted a later hit
pub noted_past : (test : ℕ → Bool) (hit number : ℕ) (c l c' l' : List ℕ) → IsNoted test hit number c l c' l' → ((k : ℕ) → k < length c → get_or l k 0 ≤ hit) → (k : ℕ) → k < length c → get_or l' k 0 ≤ hit
noted_past test hit number c l c' l' is past k lt = by (test k) (is.noted k lt) (past k lt)
  where
    by : (b : Bool) → get_or l' k 0 ≡ cond b hit (get_or l k 0) → get_or l k 0 ≤ hit → get_or l' k 0 ≤ hit
    by true e le = omega (arith, e)
    by false e le = omega (arith, e, le)

-- ---- a document

-- a tally after one more document that was counted by its counters
pub tally_more : (test : ℕ → Bool) (hits : ℕ) (c l r c' l' : List ℕ) → IsTally c l r hits → hits < 1000000 → IsNoted test (hits + 1) 1 c l c' l' → IsTally c' l' r (hits + 1)
tally_more test hits c l r c' l' tally few is = record {
  as_long = is.as_long ∙ tally.as_long ∙ sym is.as_many;
  few = λ k lt. let low : k < length c = omega (arith, lt, is.as_many) in omega (arith, noted_most test (hits + 1) 1 c l c' l' is k low, tally.few k low);
  past = λ k lt. noted_past test (hits + 1) 1 c l c' l' is (λ j low. omega (arith, tally.past j low)) k (omega (arith, lt, is.as_many));
  rows_few = λ slot. omega (arith, tally.rows_few slot);
  most = omega (arith, few);
}

module _ (rows : List (List ℕ)) (k : ℕ) where
  pub rows_none : (numbers : List ℕ) → rows_to rows numbers k 0 ≡ 0
  unfolding rows_to
  rows_none numbers = refl

  rows_next : (numbers : List ℕ) (n : ℕ) → rows_to rows numbers k (suc n) ≡ rows_to rows numbers k n + cond (is_in_row rows k n) (get_or numbers n 0) 0
  unfolding rows_to
  rows_next numbers n = refl

  set_beyond : (numbers : List ℕ) (s y n : ℕ) → n ≤ s → rows_to rows (set numbers s y) k n ≡ rows_to rows numbers k n
  set_beyond numbers s y zero le = rows_none (set numbers s y) ∙ sym (rows_none numbers)
  set_beyond numbers s y (suc n) le =
      rows_next (set numbers s y) n
      ∙ (λ i. set_beyond numbers s y n (omega arith) i + cond (is_in_row rows k n) (get_or-set_other numbers s n y 0 (λ e. omega (arith, e, le)) i) 0)
      ∙ sym (rows_next numbers n)

  one_more : (b : Bool) (x y : ℕ) → x + cond b (y + 1) 0 ≡ (x + cond b y 0) + cond b 1 0
  one_more true x y = omega arith
  one_more false x y = omega arith

  row_step : (numbers : List ℕ) (s n y : ℕ) → y ≡ get_or numbers s 0 + 1 → s < length numbers → s < suc n
      → (s < n → rows_to rows (set numbers s y) k n ≡ rows_to rows numbers k n + cond (is_in_row rows k s) 1 0) → (s < n) ⊎ (n ≤ s)
      → rows_to rows (set numbers s y) k n + cond (is_in_row rows k n) (get_or (set numbers s y) n 0) 0 ≡ (rows_to rows numbers k n + cond (is_in_row rows k n) (get_or numbers n 0) 0) + cond (is_in_row rows k s) 1 0
  row_step numbers s n y is some lt before (inl low) =
      let there : cond (is_in_row rows k n) (get_or (set numbers s y) n 0) 0 ≡ cond (is_in_row rows k n) (get_or numbers n 0) 0 = ap (λ x. cond (is_in_row rows k n) x 0) (get_or-set_other numbers s n y 0 (λ e. omega (arith, e, low))) in
      omega (arith, before low, there)
  row_step numbers s n y is some lt before (inr high) =
      let at : s ≡ n = omega arith in
      let here : rows_to rows (set numbers s y) k n ≡ rows_to rows numbers k n = set_beyond numbers s y n high in
      let there : cond (is_in_row rows k n) (get_or (set numbers s y) n 0) 0 ≡ cond (is_in_row rows k n) (get_or numbers n 0 + 1) 0 =
      ap (λ x. cond (is_in_row rows k n) x 0) (ap (λ m. get_or (set numbers s y) m 0) (sym at) ∙ get_or-set_same numbers s y 0 some ∙ is ∙ ap (λ m. get_or numbers m 0 + 1) at) in
      let one : ◌≡◌ {A = ℕ} (cond (is_in_row rows k n) 1 0) (cond (is_in_row rows k s) 1 0) = (λ i. cond (is_in_row rows k (sym at i)) 1 0) in
      omega (arith, here, there, one, one_more (is_in_row rows k n) (rows_to rows numbers k n) (get_or numbers n 0))

  -- one more in a row
  pub row_more : (numbers : List ℕ) (s n y : ℕ) → y ≡ get_or numbers s 0 + 1 → s < length numbers → s < n → rows_to rows (set numbers s y) k n ≡ rows_to rows numbers k n + cond (is_in_row rows k s) 1 0
  row_more numbers s zero y is some lt = absurd (omega arith)
  row_more numbers s (suc n) y is some lt =
      let step : rows_to rows (set numbers s y) k n + cond (is_in_row rows k n) (get_or (set numbers s y) n 0) 0 ≡ (rows_to rows numbers k n + cond (is_in_row rows k n) (get_or numbers n 0) 0) + cond (is_in_row rows k s) 1 0
      = row_step numbers s n y is some lt (λ low. row_more numbers s n y is some low) (cases_lt s n) in
      omega (arith, step, rows_next (set numbers s y) n, rows_next numbers n)

  up_step : (numbers : List ℕ) (m n : ℕ) → m ≤ suc n → (m ≤ n → rows_to rows numbers k m ≤ rows_to rows numbers k n) → (n < m) ⊎ (m ≤ n) → rows_to rows numbers k m ≤ rows_to rows numbers k (suc n)
  up_step numbers m n le before (inl high) = let at : m ≡ suc n = omega arith in let same : rows_to rows numbers k m ≡ rows_to rows numbers k (suc n) = ap (rows_to rows numbers k) at in omega (arith, same)
  up_step numbers m n le before (inr low) = omega (arith, before low, rows_next numbers n)

  -- fewer rows have counted no more
  pub rows_up : (numbers : List ℕ) (m n : ℕ) → m ≤ n → rows_to rows numbers k m ≤ rows_to rows numbers k n
  rows_up numbers m zero le = let at : m ≡ 0 = omega arith in let same : rows_to rows numbers k m ≡ rows_to rows numbers k 0 = ap (rows_to rows numbers k) at in omega (arith, same)
  rows_up numbers m (suc n) le = up_step numbers m n le (λ low. rows_up numbers m n low) (cases_lt n m)

  nothing : (m n : ℕ) → ◌≡◌ {A = ℕ} (get_or (replicate m 0) n 0) 0
  nothing m n = by (cases_lt n m)
    where
      by : (n < m) ⊎ (m ≤ n) → ◌≡◌ {A = ℕ} (get_or (replicate m 0) n 0) 0
      by (inl lt) = get_or-replicate m n 0 0 lt
      by (inr le) = let long : length (replicate {A = ℕ} m 0) ≡ m = length-replicate m 0 in get_or_past (replicate m 0) n 0 (omega (arith, le, long))

  off : (b : Bool) → ◌≡◌ {A = ℕ} (cond b 0 0) 0
  off true = refl
  off false = refl

  -- at first no row has counted
  pub rows_fresh : (m n : ℕ) → rows_to rows (replicate m 0) k n ≡ 0
  rows_fresh m zero = rows_none (replicate m 0)
  rows_fresh m (suc n) = rows_next (replicate m 0) n ∙ (λ i. rows_fresh m n i + cond (is_in_row rows k n) (nothing m n i) 0) ∙ omega (arith, off (is_in_row rows k n))

  -- the next row
  pub rows_step : (numbers : List ℕ) (n : ℕ) → rows_to rows numbers k (n + 1) ≡ rows_to rows numbers k n + cond (is_in_row rows k n) (get_or numbers n 0) 0
  rows_step numbers n = let at : n + 1 ≡ suc n = omega arith in ap (rows_to rows numbers k) at ∙ rows_next numbers n

-- a tally after one more document that was counted by its row
pub tally_row : (hits s : ℕ) (c l r : List ℕ) → IsTally c l r hits → hits < 1000000 → s < length r → IsTally c l (set r s (get_or r s 0 + 1)) (hits + 1)
tally_row hits s c l r tally few lt = record {
  as_long = tally.as_long;
  few = λ k low. omega (arith, tally.few k low);
  past = λ k low. omega (arith, tally.past k low);
  rows_few = λ slot. by slot (cases_lt slot s) (cases_lt s slot);
  most = omega (arith, few);
}
  where
    other : (slot : ℕ) → (slot ≡ s → ⊥) → get_or (set r s (get_or r s 0 + 1)) slot 0 ≤ hits + 1
    other slot ne = omega (arith, get_or-set_other r s slot (get_or r s 0 + 1) 0 ne, tally.rows_few slot)

    by : (slot : ℕ) → (slot < s) ⊎ (s ≤ slot) → (s < slot) ⊎ (slot ≤ s) → get_or (set r s (get_or r s 0 + 1)) slot 0 ≤ hits + 1
    by slot (inl low) b = other slot (λ e. omega (arith, e, low))
    by slot (inr ge) (inl high) = other slot (λ e. omega (arith, e, high))
    by slot (inr ge) (inr le) = let at : slot ≡ s = omega arith in let here : get_or (set r s (get_or r s 0 + 1)) slot 0 ≡ get_or (set r s (get_or r s 0 + 1)) s 0 = ap (λ m. get_or (set r s (get_or r s 0 + 1)) m 0) at in omega (arith, here, get_or-set_same r s (get_or r s 0 + 1) 0 lt, tally.rows_few s)

-- each counter that the document counts for has one more
pub totals_more : (marks : Marked) (leaves : List ℕ) (old new : Tallied) → length new.counts ≡ length old.counts
    → ((k : ℕ) → k < length old.counts → total_of marks new k ≡ total_of marks old k + cond (list_any (is_marked marks k) leaves) 1 0)
    → (lists : List (List ℕ)) → HasCounted marks lists old → HasCounted marks (lists ++ leaves ∷ []) new
totals_more marks leaves old new long more lists has k lt =
    let low : k < length old.counts = omega (arith, lt, long) in
    more k low
    ∙ ap (λ n. n + cond (list_any (is_marked marks k) leaves) 1 0) (has k low)
    ∙ sym (sum_by_push (λ ls. cond (list_any (is_marked marks k) ls) 1 0) lists leaves)

pub counted_row : (marks : Marked) (leaves : List ℕ) (s : ℕ) (old : Tallied) (n : ℕ) → IsSlotOfAll marks leaves s → s < length old.rows
    → (lists : List (List ℕ)) → HasCounted marks lists old → HasCounted marks (lists ++ leaves ∷ []) (record { counts = old.counts; rows = set old.rows s (get_or old.rows s 0 + 1); hits = n })
counted_row marks leaves s old n is lt = totals_more marks leaves old (record { counts = old.counts; rows = set old.rows s (get_or old.rows s 0 + 1); hits = n }) refl
    (λ k low. let same : ◌≡◌ {A = ℕ} (cond (list_any (is_marked marks k) leaves) 1 0) (cond (is_in_row marks.rows k s) 1 0) = (λ i. cond (is.same k i) 1 0) in omega (arith, row_more marks.rows k old.rows s (length marks.rows) (get_or old.rows s 0 + 1) refl lt is.within, same))

pub counted_after : (marks : Marked) (leaves : List ℕ) (hits n : ℕ) (c l r c' l' : List ℕ) → IsTally c l r hits → IsNoted (λ k. list_any (is_marked marks k) leaves) (hits + 1) 1 c l c' l'
    → (lists : List (List ℕ)) → HasCounted marks lists (record { counts = c; rows = r; hits = hits }) → HasCounted marks (lists ++ leaves ∷ []) (record { counts = c'; rows = r; hits = n })
counted_after marks leaves hits n c l r c' l' tally is = totals_more marks leaves (record { counts = c; rows = r; hits = hits }) (record { counts = c'; rows = r; hits = n }) is.as_many
    (λ k low. omega (arith, all_added (λ j. list_any (is_marked marks j) leaves) (hits + 1) 1 c l c' l' is (λ j lt. omega (arith, tally.past j lt)) k low))

-- ---- adding the rows

-- The first so many rows were added.
pub record AreAddedTo (rows : List (List ℕ)) (numbers : List ℕ) (hits n : ℕ) (counts counts' last' : List ℕ) : Type 0 where
  pub as_many : length counts' ≡ length counts
  pub as_long : length last' ≡ length counts
  pub each : (k : ℕ) → k < length counts → get_or counts' k 0 ≡ get_or counts k 0 + rows_to rows numbers k n
  pub past : (k : ℕ) → k < length counts → get_or last' k 0 ≤ hits + n

pub none_added : (rows : List (List ℕ)) (c l r : List ℕ) (hits : ℕ) → IsTally c l r hits → AreAddedTo rows r hits 0 c c l
none_added rows c l r hits tally = record {
  as_many = refl;
  as_long = tally.as_long;
  each = λ k lt. omega (arith, rows_none rows k r);
  past = λ k lt. omega (arith, tally.past k lt);
}

pub added_more : (rows : List (List ℕ)) (numbers : List ℕ) (hits n number : ℕ) (row c c' l' c'' l'' : List ℕ) → AreAddedTo rows numbers hits n c c' l' → row ≡ get_or rows n [] → number ≡ get_or numbers n 0
    → IsNoted (λ k. list_any (nat_eq k) row) (hits + 1 + n) number c' l' c'' l'' → AreAddedTo rows numbers hits (n + 1) c c'' l''
added_more rows numbers hits n number row c c' l' c'' l'' are here so is = record {
  as_many = is.as_many ∙ are.as_many;
  as_long = is.as_long ∙ are.as_long;
  each = λ k lt.
      let low : k < length c' = omega (arith, lt, are.as_many) in
      let one : get_or c'' k 0 ≡ get_or c' k 0 + cond (list_any (nat_eq k) row) number 0 = all_added (λ j. list_any (nat_eq j) row) (hits + 1 + n) number c' l' c'' l'' is (λ j lt. omega (arith, are.past j (omega (arith, lt, are.as_many)))) k low in
      let same : cond (list_any (nat_eq k) row) number 0 ≡ cond (is_in_row rows k n) (get_or numbers n 0) 0 = (λ i. cond (list_any (nat_eq k) (here i)) (so i) 0) in
      let up : rows_to rows numbers k (n + 1) ≡ rows_to rows numbers k n + cond (is_in_row rows k n) (get_or numbers n 0) 0 = rows_step rows k numbers n in
      omega (arith, one, same, up, are.each k lt);
  past = λ k lt.
      let low : k < length c' = omega (arith, lt, are.as_many) in
      omega (arith, noted_past (λ j. list_any (nat_eq j) row) (hits + 1 + n) number c' l' c'' l'' is (λ j lt. omega (arith, are.past j (omega (arith, lt, are.as_many)))) k low);
}

-- there is room in each counter
pub added_room : (rows : List (List ℕ)) (numbers : List ℕ) (hits n m : ℕ) (c c' l' : List ℕ) → AreAddedTo rows numbers hits n c c' l' → n ≤ m
    → ((k : ℕ) → k < length c → get_or c k 0 + rows_to rows numbers k m ≤ 1000000) → (k : ℕ) → k < length c' → get_or c' k 0 ≤ 1000000
added_room rows numbers hits n m c c' l' are le room k lt =
    let low : k < length c = omega (arith, lt, are.as_many) in
    omega (arith, room k low, are.each k low, rows_up rows k numbers n m le)

-- ---- the slot of all labels of a document

module _ (rows : List (List ℕ)) (none : get_or rows 0 [] ≡ []) (k : ℕ) where
  in_none : is_in_row rows k 0 ≡ false
  in_none = ap (list_any (nat_eq k)) none

  or_self : (b : Bool) → b ≡ (b || b)
  or_self true = refl
  or_self false = refl

  or_false : (b : Bool) → b ≡ (b || false)
  or_false true = refl
  or_false false = refl

  pub joined_has : (one other both : ℕ) → joined_slot one other ≡ Some both → is_in_row rows k both ≡ (is_in_row rows k one || is_in_row rows k other)
  joined_has one other both is = by (one == 0) refl (one == other) refl (other == 0) refl is
    where
      by : (p : Bool) → (one == 0) ≡ p → (q : Bool) → (one == other) ≡ q → (r : Bool) → (other == 0) ≡ r → cond (p || q) (Some other) (cond r (Some one) None) ≡ Some both → is_in_row rows k both ≡ (is_in_row rows k one || is_in_row rows k other)
      by true a q b r c e = (λ i. is_in_row rows k (sym (same_Some other both e) i)) ∙ (λ i. sym (ap (is_in_row rows k) (eqb-true one 0 a) ∙ in_none) i || is_in_row rows k other)
      by false a true b r c e = (λ i. is_in_row rows k (sym (same_Some other both e) i)) ∙ or_self (is_in_row rows k other) ∙ (λ i. is_in_row rows k (sym (eqb-true one other b) i) || is_in_row rows k other)
      by false a false b true c e = (λ i. is_in_row rows k (sym (same_Some one both e) i)) ∙ or_false (is_in_row rows k one) ∙ (λ i. is_in_row rows k one || sym (ap (is_in_row rows k) (eqb-true other 0 c) ∙ in_none) i)
      by false a false b false c e = absurd cc

pub joined_within : (one other both n : ℕ) → joined_slot one other ≡ Some both → one < n → other < n → both < n
joined_within one other both n is lt less = by (one == 0 || one == other) (other == 0) is
  where
    by : (p r : Bool) → cond p (Some other) (cond r (Some one) None) ≡ Some both → both < n
    by true r e = omega (arith, less, same_Some other both e)
    by false true e = omega (arith, lt, same_Some one both e)
    by false false e = absurd cc

pub slot_none : (marks : Marked) → 0 < length marks.rows → get_or marks.rows 0 [] ≡ [] → IsSlotOfAll marks [] 0
slot_none marks some none = record { within = some; same = λ k. sym (in_none marks.rows none k) }

pub slot_more : (marks : Marked) (leaves : List ℕ) (i one other both : ℕ) → get_or marks.rows 0 [] ≡ [] → i < length leaves → other ≡ get_or marks.slots (get_or leaves i 0) 0 → other < length marks.rows
    → joined_slot one other ≡ Some both → IsSlotOfAll marks (take i leaves) one → IsSlotOfAll marks (take (i + 1) leaves) both
slot_more marks leaves i one other both none lt at low is all = record {
  within = joined_within one other both (length marks.rows) is all.within low;
  same = λ k. list_any_more (is_marked marks k) leaves i 0 lt ∙ (λ j. all.same k j || is_in_row marks.rows k (sym at j)) ∙ sym (joined_has marks.rows none k one other both is);
}
