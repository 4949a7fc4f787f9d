-- A device call keeps the core valid.
use Rattle.std.proofs.Common.{◌≡◌, ℕ, ◌+◌, ◌<◌, ◌≤◌, Bool, true, false, List, [], ◌∷◌, ◌++◌, length, Option, Some, None, refl, sym, ap, ◌∙◌, arith, rules}
use Rattle.std.specs.Prelude.{◌==◌, ◌&&◌, ◌||◌, not, nat_lt, nat_le, is_none, unwrap_or}
use Rattle.std.specs.List.{list_all, list_any}
use Rattle.std.specs.Option.{option_map_or}
use Rattle.std.proofs.lemmas.Bool.{and_parts, and_from, or_left, or_right, le-leb, leb-true, lt-ltb, le-ltb, eqb-true, eqb-false, ltb-true, eq-eqb, ne_eqb}
use Rattle.std.proofs.lemmas.List.Folds.{list_all-append, list_all-map, list_any-append}
use Rattle.facet_model.specs.Histories.{covers}
use Rattle.facet_model.specs.Core.{State, Commit, device_done, device_failed, labels_of_commit, with_device}
use Rattle.facet_model.specs.CoreStates.{Valid, is_at_least, operations_of, are_labels_taken, is_good_index, is_good_commit, has_renamed, is_kept, is_same_pair, is_alone}
use Rattle.facet_model.proofs.Fronts.{weaker}
use Rattle.facet_core.proofs.Kept.{map_push, itself, all_cover}

push : {A : Type 0} (p : A → Bool) (xs : List A) (x : A) → list_all p xs ≡ true → p x ≡ true → list_all p (xs ++ x ∷ []) ≡ true
push p xs x each last = list_all-append p xs (x ∷ []) ∙ and_from _ _ each (and_from _ true last refl)

second : (x y : Bool) → x ≡ false → (x || y) ≡ true → y ≡ true
second x y none h = ap (λ b. b || y) (sym none) ∙ h

-- what passes of each passes of a number that is among them
pub in_numbers : (p : ℕ → Bool) (xs : List ℕ) (x : ℕ) → list_any (λ a. a == x) xs ≡ true → list_all p xs ≡ true → p x ≡ true
in_numbers p [] x some each = absurd (search (rules, some))
in_numbers p (y ∷ xs) x some each = by (y == x) refl some (and_parts (p y) (list_all p xs) each) (λ more rest. in_numbers p xs x more rest)
  where
    by : (b : Bool) → (y == x) ≡ b → ((y == x) || list_any (λ a. a == x) xs) ≡ true → (p y ≡ true) × (list_all p xs ≡ true) → (list_any (λ a. a == x) xs ≡ true → list_all p xs ≡ true → p x ≡ true) → p x ≡ true
    by true e some each rest = ap p (sym (eqb-true y x e)) ∙ each.0
    by false e some each rest = rest (second (y == x) (list_any (λ a. a == x) xs) e some) each.1

module _ (s : State) (n k m : ℕ) (v : Valid s)
    (there : nat_le n (length s.history) ≡ true) (above : is_at_least n (operations_of s.idx_may) ≡ true)
    (taken : are_labels_taken s s.tax_may n (Some m) ≡ true) where
  abbrev next : Commit
  next = record { operations = n; labels = Some m; calls = k }

  bound : (nat_le m (length s.labels) ≡ true) × (is_at_least m s.tax_may ≡ true)
  bound = and_parts (nat_le m (length s.labels)) (is_at_least m s.tax_may) (and_parts _ (covers s.labels m s.history n) taken).0

  covered : covers s.labels m s.history n ≡ true
  covered = (and_parts (nat_le m (length s.labels) && is_at_least m s.tax_may) (covers s.labels m s.history n) taken).1

  read_below : s.tax_read ≤ m
  read_below = leb-true s.tax_read m (in_numbers (λ a. nat_le a m) s.tax_may s.tax_read v.tax_read bound.1)

  -- what is at most each number that a crash may leave is at most m
  at_most : (j : ℕ) → list_all (nat_le j) s.tax_may ≡ true → nat_le j m ≡ true
  at_most j each = let below : j ≤ s.tax_read = leb-true j s.tax_read (in_numbers (nat_le j) s.tax_may s.tax_read v.tax_read each) in le-leb j m (omega (arith, below, read_below))

  least : nat_le 1 m ≡ true
  least = at_most 1 (weaker (λ a. nat_le 1 a && nat_le a (length s.labels)) (nat_le 1) (λ a h. (and_parts (nat_le 1 a) (nat_le a (length s.labels)) h).0) s.tax_may v.tax_may)

  -- the label list that call 9 may leave
  tax_pushed : list_all (λ a. nat_le 1 a && nat_le a (length s.labels)) (s.tax_may ++ m ∷ []) ≡ true
  tax_pushed = push (λ a. nat_le 1 a && nat_le a (length s.labels)) s.tax_may m v.tax_may (and_from _ _ least bound.0)

  index_pushed : list_all (λ i. nat_le i.0 (length s.history) && covers s.labels i.1 s.history i.0 && list_all (nat_le i.1) (s.tax_may ++ m ∷ [])) s.idx_may ≡ true
  index_pushed = weaker (is_good_index s) (λ i. nat_le i.0 (length s.history) && covers s.labels i.1 s.history i.0 && list_all (nat_le i.1) (s.tax_may ++ m ∷ []))
      (λ i h. let both = and_parts (nat_le i.0 (length s.history) && covers s.labels i.1 s.history i.0) (list_all (nat_le i.1) s.tax_may) h in and_from _ _ both.0 (push (nat_le i.1) s.tax_may m both.1 (at_most i.1 both.1))) s.idx_may v.idx_may

  kept_pushed : (p : ℕ × ℕ) → is_kept s p ≡ true → is_kept (record s { tax_may = s.tax_may ++ m ∷ [] }) p ≡ true
  kept_pushed p h = let both = and_parts (list_all (nat_le p.1) s.tax_may) (list_all (λ i. nat_le p.0 i.0) s.idx_may) h in and_from _ _ (push (nat_le p.1) s.tax_may m both.0 (at_most p.1 both.0)) both.1

  -- call 9 failed: its rename may have happened
  pub failed_at_9 : Valid (record s { commit = None; closed = true; tax_may = s.tax_may ++ m ∷ [] })
  failed_at_9 = record {
    labels = v.labels;
    known = v.known;
    published = v.published;
    refresh = v.refresh;
    commit = refl;
    calls = refl;
    renamed = refl;
    tax_may = tax_pushed;
    idx_may = index_pushed;
    kept = weaker (is_kept s) (is_kept (record s { tax_may = s.tax_may ++ m ∷ [] })) kept_pushed s.acknowledged v.kept;
    tax_read = list_any-append (λ a. a == s.tax_read) s.tax_may (m ∷ []) ∙ or_left _ _ v.tax_read;
    idx_read = v.idx_read;
  }

  pub done_9 : k ≡ 9 → Valid (record s { commit = Some next; tax_read = m; tax_may = s.tax_may ++ m ∷ [] })
  done_9 is = record {
    labels = v.labels;
    known = v.known;
    published = v.published;
    refresh = v.refresh;
    commit = and_from _ _ (and_from _ _ (and_from _ _ there above) (or_right (k == 0) true refl)) (and_from _ _ (and_from _ _ bound.0 (push (λ a. nat_le a m) s.tax_may m bound.1 (le-leb m m (omega arith)))) covered);
    calls = lt-ltb k 12 (omega (arith, is));
    renamed = and_from _ _ (and_from _ _ (or_right (nat_lt k 9) _ (eq-eqb m m refl)) (or_left _ _ (lt-ltb k 10 (omega (arith, is))))) (or_left _ _ (lt-ltb k 11 (omega (arith, is))));
    tax_may = tax_pushed;
    idx_may = index_pushed;
    kept = weaker (is_kept s) (is_kept (record s { tax_may = s.tax_may ++ m ∷ [] })) kept_pushed s.acknowledged v.kept;
    tax_read = list_any-append (λ a. a == m) s.tax_may (m ∷ []) ∙ or_right _ _ (ap (λ b. b || false) (eq-eqb m m refl));
    idx_read = v.idx_read;
  }

  -- any other call that failed
  pub failed_else : Valid (record s { commit = None; closed = true })
  failed_else = record { labels = v.labels; known = v.known; published = v.published; refresh = v.refresh; commit = refl; calls = refl; renamed = refl; tax_may = v.tax_may; idx_may = v.idx_may; kept = v.kept; tax_read = v.tax_read; idx_read = v.idx_read }

pub in_pairs : (q : ℕ → Bool) (xs : List (ℕ × ℕ)) (x : ℕ × ℕ) → list_any (is_same_pair x) xs ≡ true → list_all (λ i. q i.0) xs ≡ true → q x.0 ≡ true
in_pairs q [] x some each = absurd (search (rules, some))
in_pairs q (y ∷ xs) x some each = by (is_same_pair x y) refl some (and_parts (q y.0) (list_all (λ i. q i.0) xs) each) (λ more rest. in_pairs q xs x more rest)
  where
    by : (b : Bool) → is_same_pair x y ≡ b → (is_same_pair x y || list_any (is_same_pair x) xs) ≡ true → (q y.0 ≡ true) × (list_all (λ i. q i.0) xs ≡ true) → (list_any (is_same_pair x) xs ≡ true → list_all (λ i. q i.0) xs ≡ true → q x.0 ≡ true) → q x.0 ≡ true
    by true e some each rest = ap q (eqb-true x.0 y.0 (and_parts (x.0 == y.0) (x.1 == y.1) e).0) ∙ each.0
    by false e some each rest = rest (second (is_same_pair x y) (list_any (is_same_pair x) xs) e some) each.1

alone_least : (m : ℕ) (xs : List ℕ) → is_alone m xs ≡ true → list_all (nat_le m) xs ≡ true
alone_least m [] h = refl
alone_least m (x ∷ []) h = let same : x ≡ m = eqb-true x m h in and_from _ true (le-leb m x (omega (arith, same))) refl
alone_least m (x ∷ y ∷ ys) h = absurd cc

module _ (s : State) (n k m : ℕ) (v : Valid s)
    (there : nat_le n (length s.history) ≡ true) (above : is_at_least n (operations_of s.idx_may) ≡ true)
    (taken : are_labels_taken s s.tax_may n (Some m) ≡ true) (read : (s.tax_read == m) ≡ true) where
  bounds : (nat_le m (length s.labels) ≡ true) × (is_at_least m s.tax_may ≡ true)
  bounds = bound s n k m v there above taken

  covers_it : covers s.labels m s.history n ≡ true
  covers_it = covered s n k m v there above taken

  itself_pair : is_same_pair (n, m) (n, m) ≡ true
  itself_pair = and_from _ _ (eq-eqb n n refl) (eq-eqb m m refl)

  kept_one : (p : ℕ × ℕ) → is_kept s p ≡ true → is_kept (record s { tax_may = m ∷ [] }) p ≡ true
  kept_one p h = let both = and_parts (list_all (nat_le p.1) s.tax_may) (list_all (λ i. nat_le p.0 i.0) s.idx_may) h in and_from _ _ (and_from _ true (at_most s n k m v there above taken p.1 both.0) refl) both.1

  pub done_10 : k ≡ 10 → Valid (record s { commit = Some (next s n k m v there above taken); tax_may = m ∷ [] })
  done_10 is = record {
    labels = v.labels;
    known = v.known;
    published = v.published;
    refresh = v.refresh;
    commit = and_from _ _ (and_from _ _ (and_from _ _ there above) (or_right (k == 0) true refl)) (and_from _ _ (and_from _ _ bounds.0 (and_from _ true (le-leb m m (omega arith)) refl)) covers_it);
    calls = lt-ltb k 12 (omega (arith, is));
    renamed = and_from _ _ (and_from _ _ (or_right (nat_lt k 9) _ read) (or_right (nat_lt k 10) _ (eq-eqb m m refl))) (or_left _ _ (lt-ltb k 11 (omega (arith, is))));
    tax_may = and_from _ true (and_from _ _ (least s n k m v there above taken) bounds.0) refl;
    idx_may = weaker (is_good_index s) (λ i. nat_le i.0 (length s.history) && covers s.labels i.1 s.history i.0 && list_all (nat_le i.1) (m ∷ []))
        (λ i h. let both = and_parts (nat_le i.0 (length s.history) && covers s.labels i.1 s.history i.0) (list_all (nat_le i.1) s.tax_may) h in and_from _ _ both.0 (and_from _ true (at_most s n k m v there above taken i.1 both.1) refl)) s.idx_may v.idx_may;
    kept = weaker (is_kept s) (is_kept (record s { tax_may = m ∷ [] })) kept_one s.acknowledged v.kept;
    tax_read = ap (λ b. b || false) (eq-eqb m s.tax_read (sym (eqb-true s.tax_read m read)));
    idx_read = v.idx_read;
  }

  module _ (alone : is_alone m s.tax_may ≡ true) where
    new_index : is_good_index s (n, m) ≡ true
    new_index = and_from _ _ (and_from _ _ there covers_it) (alone_least m s.tax_may alone)

    index_read_below : (q : ℕ) → list_all (λ i. nat_le q i.0) s.idx_may ≡ true → nat_le q n ≡ true
    index_read_below q each =
        let low : q ≤ s.idx_read.0 = leb-true q s.idx_read.0 (in_pairs (nat_le q) s.idx_may s.idx_read v.idx_read each) in
        let high : s.idx_read.0 ≤ n = leb-true s.idx_read.0 n (in_pairs (λ j. nat_le j n) s.idx_may s.idx_read v.idx_read (sym (list_all-map (λ j. nat_le j n) (λ (i : ℕ × ℕ). i.0) s.idx_may) ∙ above)) in
        le-leb q n (omega (arith, low, high))

    kept_more : (p : ℕ × ℕ) → is_kept s p ≡ true → is_kept (record s { idx_may = s.idx_may ++ (n, m) ∷ [] }) p ≡ true
    kept_more p h = let both = and_parts (list_all (nat_le p.1) s.tax_may) (list_all (λ i. nat_le p.0 i.0) s.idx_may) h in and_from _ _ both.0 (push (λ i. nat_le p.0 i.0) s.idx_may (n, m) both.1 (index_read_below p.0 both.1))

    kept_last : (p : ℕ × ℕ) → is_kept s p ≡ true → is_kept (record s { idx_may = (n, m) ∷ [] }) p ≡ true
    kept_last p h = let both = and_parts (list_all (nat_le p.1) s.tax_may) (list_all (λ i. nat_le p.0 i.0) s.idx_may) h in and_from _ _ both.0 (and_from _ true (index_read_below p.0 both.1) refl)

    pub failed_at_11 : Valid (record s { commit = None; closed = true; idx_may = s.idx_may ++ (n, m) ∷ [] })
    failed_at_11 = record {
      labels = v.labels;
      known = v.known;
      published = v.published;
      refresh = v.refresh;
      commit = refl;
      calls = refl;
      renamed = refl;
      tax_may = v.tax_may;
      idx_may = push (is_good_index s) s.idx_may (n, m) v.idx_may new_index;
      kept = weaker (is_kept s) (is_kept (record s { idx_may = s.idx_may ++ (n, m) ∷ [] })) kept_more s.acknowledged v.kept;
      tax_read = v.tax_read;
      idx_read = list_any-append (is_same_pair s.idx_read) s.idx_may ((n, m) ∷ []) ∙ or_left _ _ v.idx_read;
    }

    pub done_11 : k ≡ 11 → Valid (record s { commit = Some (next s n k m v there above taken); idx_read = (n, m); idx_may = s.idx_may ++ (n, m) ∷ [] })
    done_11 is = record {
      labels = v.labels;
      known = v.known;
      published = v.published;
      refresh = v.refresh;
      commit = and_from _ _ (and_from _ _ (and_from _ _ there (ap (is_at_least n) (map_push (λ (i : ℕ × ℕ). i.0) s.idx_may (n, m)) ∙ push (λ j. nat_le j n) (operations_of s.idx_may) n above (le-leb n n (omega arith)))) (or_right (k == 0) true refl)) taken;
      calls = lt-ltb k 12 (omega (arith, is));
      renamed = and_from _ _ (and_from _ _ (or_right (nat_lt k 9) _ read) (or_right (nat_lt k 10) _ alone)) (or_right (nat_lt k 11) _ itself_pair);
      tax_may = v.tax_may;
      idx_may = push (is_good_index s) s.idx_may (n, m) v.idx_may new_index;
      kept = weaker (is_kept s) (is_kept (record s { idx_may = s.idx_may ++ (n, m) ∷ [] })) kept_more s.acknowledged v.kept;
      tax_read = v.tax_read;
      idx_read = list_any-append (is_same_pair (n, m)) s.idx_may ((n, m) ∷ []) ∙ or_right _ _ (ap (λ b. b || false) itself_pair);
    }

    pub done_12 : is_same_pair s.idx_read (n, m) ≡ true → Valid (record s { commit = None; idx_may = (n, m) ∷ []; acknowledged = s.acknowledged ++ (n, m) ∷ [] })
    done_12 pair = record {
      labels = v.labels;
      known = v.known;
      published = v.published;
      refresh = v.refresh;
      commit = refl;
      calls = refl;
      renamed = refl;
      tax_may = v.tax_may;
      idx_may = and_from _ true new_index refl;
      kept = push (is_kept (record s { idx_may = (n, m) ∷ [] })) s.acknowledged (n, m)
          (weaker (is_kept s) (is_kept (record s { idx_may = (n, m) ∷ [] })) kept_last s.acknowledged v.kept)
          (and_from _ _ (alone_least m s.tax_may alone) (and_from _ true (le-leb n n (omega arith)) refl));
      tax_read = v.tax_read;
      idx_read = ap (λ b. b || false) pair;
    }

-- ---- the calls by their number

module _ (s : State) (c : Commit) (v : Valid s) (good : is_good_commit s c ≡ true) (few : nat_lt c.calls 12 ≡ true) (renamed : has_renamed s c c.labels ≡ true) where
  abbrev n : ℕ
  n = c.operations

  abbrev k : ℕ
  k = c.calls + 1

  abbrev m : ℕ
  m = labels_of_commit s c

  first : (nat_le n (length s.history) && is_at_least n (operations_of s.idx_may) ≡ true) × ((c.calls == 0 || not (is_none c.labels)) ≡ true)
  first = and_parts (nat_le n (length s.history) && is_at_least n (operations_of s.idx_may)) (c.calls == 0 || not (is_none c.labels)) (and_parts _ (are_labels_taken s s.tax_may n c.labels) good).0

  there : nat_le n (length s.history) ≡ true
  there = (and_parts (nat_le n (length s.history)) (is_at_least n (operations_of s.idx_may)) first.0).0

  above : is_at_least n (operations_of s.idx_may) ≡ true
  above = (and_parts (nat_le n (length s.history)) (is_at_least n (operations_of s.idx_may)) first.0).1

  taken_of : (l : Option ℕ) → are_labels_taken s s.tax_may n l ≡ true → are_labels_taken s s.tax_may n (Some (unwrap_or l (length s.labels))) ≡ true
  taken_of None h = and_from _ _ (and_from _ _ (itself (length s.labels)) (weaker (λ a. nat_le 1 a && nat_le a (length s.labels)) (λ a. nat_le a (length s.labels)) (λ a h. (and_parts (nat_le 1 a) (nat_le a (length s.labels)) h).1) s.tax_may v.tax_may)) (all_cover s n v)
  taken_of (Some l) h = h

  taken : are_labels_taken s s.tax_may n (Some m) ≡ true
  taken = taken_of c.labels (and_parts _ (are_labels_taken s s.tax_may n c.labels) good).1

  fixed_of : (l : Option ℕ) → 1 ≤ c.calls → (c.calls == 0 || not (is_none l)) ≡ true → has_renamed s c l ≡ true → has_renamed s c (Some (unwrap_or l (length s.labels))) ≡ true
  fixed_of None some called h = let none : false ≡ true = second (c.calls == 0) false (ne_eqb c.calls 0 (λ e. omega (arith, some, e))) called in absurd (search (rules, none))
  fixed_of (Some l) some called h = h

  fixed : 1 ≤ c.calls → has_renamed s c (Some m) ≡ true
  fixed some = fixed_of c.labels some first.1 renamed

  abbrev two : Bool
  two = is_alone m s.tax_may

  after_9 : 9 ≤ c.calls → (s.tax_read == m) ≡ true
  after_9 le = second (nat_lt c.calls 9) (s.tax_read == m) (le-ltb c.calls 9 le) (and_parts (nat_lt c.calls 9 || s.tax_read == m) (nat_lt c.calls 10 || two) (and_parts _ (nat_lt c.calls 11 || is_same_pair s.idx_read (n, m)) (fixed (omega (arith, le)))).0).0

  after_10 : 10 ≤ c.calls → two ≡ true
  after_10 le = second (nat_lt c.calls 10) two (le-ltb c.calls 10 le) (and_parts (nat_lt c.calls 9 || s.tax_read == m) (nat_lt c.calls 10 || two) (and_parts _ (nat_lt c.calls 11 || is_same_pair s.idx_read (n, m)) (fixed (omega (arith, le)))).0).1

  after_11 : 11 ≤ c.calls → is_same_pair s.idx_read (n, m) ≡ true
  after_11 le = second (nat_lt c.calls 11) (is_same_pair s.idx_read (n, m)) (le-ltb c.calls 11 le) (and_parts ((nat_lt c.calls 9 || s.tax_read == m) && (nat_lt c.calls 10 || two)) (nat_lt c.calls 11 || is_same_pair s.idx_read (n, m)) (fixed (omega (arith, le)))).1

  other_call : nat_lt k 12 ≡ true → has_renamed s (record { operations = n; labels = Some m; calls = k }) (Some m) ≡ true → Valid (record s { commit = Some (record { operations = n; labels = Some m; calls = k }) })
  other_call few_calls r = record {
    labels = v.labels;
    known = v.known;
    published = v.published;
    refresh = v.refresh;
    commit = and_from _ _ (and_from _ _ (and_from _ _ there above) (or_right (k == 0) true refl)) taken;
    calls = few_calls;
    renamed = r;
    tax_may = v.tax_may;
    idx_may = v.idx_may;
    kept = v.kept;
    tax_read = v.tax_read;
    idx_read = v.idx_read;
  }

  -- a call that is none of the last four comes before them
  other_calls : (k == 9) ≡ false → (k == 10) ≡ false → (k == 11) ≡ false → (k == 12) ≡ false → k < 9
  other_calls e9 e10 e11 e12 = omega (arith, ltb-true c.calls 12 few, eqb-false k 9 e9, eqb-false k 10 e10, eqb-false k 11 e11, eqb-false k 12 e12)

  other_renamed : k < 9 → has_renamed s (record { operations = n; labels = Some m; calls = k }) (Some m) ≡ true
  other_renamed lt = and_from _ _ (and_from _ _ (or_left _ _ (lt-ltb k 9 lt)) (or_left _ _ (lt-ltb k 10 (omega (arith, lt))))) (or_left _ _ (lt-ltb k 11 (omega (arith, lt))))

  keeps_done : (t9 t10 t11 t12 : Bool) → (k == 9) ≡ t9 → (k == 10) ≡ t10 → (k == 11) ≡ t11 → (k == 12) ≡ t12 → Valid (device_done s k n m)
  keeps_done true t10 t11 t12 e9 e10 e11 e12 = rw e9 (done_9 s n k m v there above taken (eqb-true k 9 e9))
  keeps_done false true t11 t12 e9 e10 e11 e12 = rw (e9, e10) (let is : k ≡ 10 = eqb-true k 10 e10 in done_10 s n k m v there above taken (after_9 (omega (arith, is))) is)
  keeps_done false false true t12 e9 e10 e11 e12 = rw (e9, e10, e11) (let is : k ≡ 11 = eqb-true k 11 e11 in done_11 s n k m v there above taken (after_9 (omega (arith, is))) (after_10 (omega (arith, is))) is)
  keeps_done false false false true e9 e10 e11 e12 = rw (e9, e10, e11, e12) (let is : k ≡ 12 = eqb-true k 12 e12 in done_12 s n k m v there above taken (after_9 (omega (arith, is))) (after_10 (omega (arith, is))) (after_11 (omega (arith, is))))
  keeps_done false false false false e9 e10 e11 e12 = rw (e9, e10, e11, e12) (let lt = other_calls e9 e10 e11 e12 in other_call (lt-ltb k 12 (omega (arith, lt))) (other_renamed lt))

  keeps_failed : (t9 t11 : Bool) → (k == 9) ≡ t9 → (k == 11) ≡ t11 → Valid (device_failed s k n m)
  keeps_failed true t11 e9 e11 = rw e9 (failed_at_9 s n k m v there above taken)
  keeps_failed false true e9 e11 = rw (e9, e11) (let is : k ≡ 11 = eqb-true k 11 e11 in failed_at_11 s n k m v there above taken (after_9 (omega (arith, is))) (after_10 (omega (arith, is))))
  keeps_failed false false e9 e11 = rw (e9, e11) (failed_else s n k m v there above taken)

  keeps_call : (done : Bool) → Valid (with_device s done (Some c))
  keeps_call true = keeps_done (k == 9) (k == 10) (k == 11) (k == 12) refl refl refl refl
  keeps_call false = keeps_failed (k == 9) (k == 11) refl refl

pub keeps_device : (s : State) (done : Bool) (o : Option Commit) → s.commit ≡ o → Valid s → Valid (with_device s done o)
keeps_device s done None is v = v
keeps_device s done (Some c) is v =
    keeps_call s c v (sym (ap (λ o. option_map_or (is_good_commit s) o true) is) ∙ v.commit) (sym (ap (λ o. option_map_or (λ c. nat_lt c.calls 12) o true) is) ∙ v.calls)
    (sym (ap (λ o. option_map_or (λ c. has_renamed s c c.labels) o true) is) ∙ v.renamed) done
