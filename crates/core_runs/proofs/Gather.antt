-- The entries of a history as deeds, and those of a number among them.
use Rattle.std.proofs.Common.{◌≡◌, ⊎_elim, ℕ, suc, ◌+◌, ◌≤◌, eqb, Bool, true, false, cond, List, [], ◌∷◌, ◌++◌, length, map, refl, ap, ◌∙◌, arith, append-nil}
use Rattle.std.specs.Prelude.{nat_le}
use Rattle.std.proofs.lemmas.Bool.{and_parts, eq-eqb, leb-true}
use Rattle.std.proofs.lemmas.List.Elements.{filter-append}
use Rattle.facet_model.specs.Histories.{Change, never_falls}
use Rattle.facet_output.specs.Seen.{Entries, entered_by}
use Rattle.facet_output.proofs.Among.{In}
use Rattle.core_runs.proofs.Deeds.{Act, Deed, before, change_at, lex_not, point, publish_of}
use Rattle.core_runs.proofs.Sorting.{Strict}

module _ {A : Type 0} (f : ℕ → A → Deed) where
  -- each with its place, from a number on
  abbrev pub each_at : ℕ → Entries A → List Act
  each_at k [] = []
  each_at k (e ∷ es) = (e.0, f k e.1) ∷ each_at (k + 1) es

  each_none : (n k : ℕ) (xs : Entries A) → entered_by n xs ≡ [] → entered_by n (each_at k xs) ≡ []
  each_none n k [] none = refl
  each_none n k (x ∷ xs) none = by (eqb x.0 n) none (each_none n (k + 1) xs)
    where
      by : (b : Bool) → cond b (x ∷ entered_by n xs) (entered_by n xs) ≡ [] → (entered_by n xs ≡ [] → entered_by n (each_at (k + 1) xs) ≡ []) → cond b ((x.0, f k x.1) ∷ entered_by n (each_at (k + 1) xs)) (entered_by n (each_at (k + 1) xs)) ≡ []
      by true none rest = absurd cc
      by false none rest = rest none

  pub each_append : (k : ℕ) (xs ys : Entries A) → each_at k (xs ++ ys) ≡ each_at k xs ++ each_at (k + length xs) ys
  each_append k [] ys = ap (λ j. each_at j ys) (let e : k ≡ k + 0 = omega arith in e)
  each_append k (x ∷ xs) ys = ap (λ (l : List Act). (x.0, f k x.1) ∷ l) (each_append (k + 1) xs ys ∙ ap (λ j. each_at (k + 1) xs ++ each_at j ys) (let e : k + 1 + length xs ≡ k + suc (length xs) = omega arith in e))

  own_append : (n k : ℕ) (xs ys : Entries A) → entered_by n (each_at k (xs ++ ys)) ≡ entered_by n (each_at k xs) ++ entered_by n (each_at (k + length xs) ys)
  own_append n k xs ys = ap (entered_by n) (each_append k xs ys) ∙ filter-append (λ e. eqb e.0 n) (each_at k xs) (each_at (k + length xs) ys)

  -- nothing of a number was entered
  pub own_still : (n k : ℕ) (old rest : Entries A) → entered_by n rest ≡ [] → entered_by n (each_at k (old ++ rest)) ≡ entered_by n (each_at k old)
  own_still n k old rest none = own_append n k old rest ∙ ap (λ l. entered_by n (each_at k old) ++ l) (each_none n (k + length old) rest none) ∙ append-nil (entered_by n (each_at k old))

  -- an entry of a number after entries of other numbers
  pub own_more : (n k : ℕ) (x : A) (old rest : Entries A) → entered_by n rest ≡ []
      → entered_by n (each_at k ((old ++ rest) ++ (n, x) ∷ [])) ≡ entered_by n (each_at k old) ++ (n, f (k + length (old ++ rest)) x) ∷ []
  own_more n k x old rest none = own_append n k (old ++ rest) ((n, x) ∷ []) ∙ (λ i. own_still n k old rest none i ++ last i)
    where
      last : entered_by n (each_at (k + length (old ++ rest)) ((n, x) ∷ [])) ≡ (n, f (k + length (old ++ rest)) x) ∷ []
      last = let e : eqb n n ≡ true = eq-eqb n n refl in rw e refl

-- ---- operations and publications are in strict order

abbrev pub pub_at : ℕ → ℕ × ℕ → Deed
pub_at k p = publish_of p.0 k

changes_from : (k : ℕ) (xs : Entries Change) (z : Act) → In z (each_at change_at k xs) → k + k + 1 ≤ (point z.1).0
changes_from k [] z there = absurd there
changes_from k (x ∷ xs) z there = ⊎_elim
    (λ is. let e = ap (λ (a : Act). (point a.1).0) is in omega arith)
    (λ later. let l = changes_from (k + 1) xs z later in omega arith) there

pub changes_strict : (k : ℕ) (xs : Entries Change) → Strict before (each_at change_at k xs)
changes_strict k [] = tt
changes_strict k (x ∷ xs) = ((λ z there. let l = changes_from (k + 1) xs z there in lex_not (point z.1) (k + k + 1, 0) (λ o. ⊎_elim (λ lt. omega arith) (λ e. let f = e.0 in omega arith) o)), changes_strict (k + 1) xs)

pubs_from : (n k : ℕ) (xs : Entries (ℕ × ℕ)) → never_falls (n ∷ map (λ p. p.0) (map (λ (e : ℕ × (ℕ × ℕ)). e.1) xs)) ≡ true → (z : Act) → In z (each_at pub_at k xs) → (n + n ≤ (point z.1).0) × (k ≤ (point z.1).1)
pubs_from n k [] rise z there = absurd there
pubs_from n k (x ∷ xs) rise z there =
    let both = and_parts (nat_le n x.1.0) _ rise in
    let le = leb-true n x.1.0 both.0 in ⊎_elim
    (λ is. let e = ap (λ (a : Act). (point a.1).0) is in let f = ap (λ (a : Act). (point a.1).1) is in (omega arith, omega arith))
    (λ later. let l = pubs_from x.1.0 (k + 1) xs both.1 z later in let a = l.0 in let b = l.1 in (omega arith, omega arith)) there

pub pubs_strict : (k : ℕ) (xs : Entries (ℕ × ℕ)) → never_falls (map (λ p. p.0) (map (λ (e : ℕ × (ℕ × ℕ)). e.1) xs)) ≡ true → Strict before (each_at pub_at k xs)
pubs_strict k [] rise = tt
pubs_strict k (x ∷ xs) rise = (
  (λ z there. let l = pubs_from x.1.0 (k + 1) xs rise z there in let a = l.0 in let b = l.1 in
      lex_not (point z.1) (x.1.0 + x.1.0, k) (λ o. ⊎_elim (λ lt. omega arith) (λ e. let f = e.0 in let g = e.1 in omega arith) o)),
  pubs_strict (k + 1) xs (tail_rises x.1.0 (map (λ p. p.0) (map (λ (e : ℕ × (ℕ × ℕ)). e.1) xs)) rise),
)
  where
    tail_rises : (n : ℕ) (ns : List ℕ) → never_falls (n ∷ ns) ≡ true → never_falls ns ≡ true
    tail_rises n [] rise = refl
    tail_rises n (m ∷ ns) rise = (and_parts (nat_le n m) (never_falls (m ∷ ns)) rise).1
