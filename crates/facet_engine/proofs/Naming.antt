-- Held pairs by their names.
use Rattle.std.proofs.Common.{◌≡◌, ◌≢◌, ◌∙◌, ◌<◌, ◌≤◌, ◌+◌, ℕ, drop, length, get_or, zero, suc, Bool, true, false, List, [], ◌∷◌, Option, Some, None, option_map, refl, sym, ap, subst, arith}
use Rattle.std.specs.Borrow.{Bor}
use Rattle.std.specs.Prelude.{All, MatchOption, is_some, not, filter, string_bytes}
use Rattle.std.specs.Str.{bytes_eq}
use Rattle.std.proofs.lemmas.List.{drop_more}
use Rattle.std.proofs.lemmas.Slice.Eq.{bytes_eq-Decides}
use Rattle.facet_output.specs.Held.{held_under}
use Rattle.facet_output.proofs.Among.{filter-map}
use Rattle.pair_manager.specs.Published.{Published}
use Rattle.facet_engine.specs.declared.held.Held.{Held as HeldLease}
use Rattle.facet_engine.specs.Leases.{pairs_in}
use Rattle.facet_engine.specs.HeldPairs.{HeldPair, pair_under, without, numbers_of, numbers_held}

some_none : {A : Type 0} (a : A) → Some a ≡ None → ⊥
some_none a e = absurd cc

apart : false ≡ true → ⊥
apart e = absurd cc

-- ---- the first under a name

pub under_here : (h : HeldPair) (hs : List HeldPair) (name : List ℕ) → bytes_eq h.name name ≡ true → pair_under (h ∷ hs) name ≡ Some h.pair
under_here h hs name e = rw e refl

pub under_later : (h : HeldPair) (hs : List HeldPair) (name : List ℕ) → bytes_eq h.name name ≡ false → pair_under (h ∷ hs) name ≡ pair_under hs name
under_later h hs name e = rw e refl

-- what holds of all pairs holds of the one under a name
pub all_under : (P : Published → Type 0) (held : List HeldPair) (name : List ℕ) (p : Published) → All (λ h. P h.pair) held → pair_under held name ≡ Some p → P p
all_under P [] name p all e = absurd cc
all_under P (h ∷ hs) name p all e = by (bytes_eq h.name name) refl (all_under P hs name p (λ k d lt. all (suc k) d (omega arith)))
  where
    by : (b : Bool) → bytes_eq h.name name ≡ b → (pair_under hs name ≡ Some p → P p) → P p
    by true t rest = let is : Some h.pair ≡ Some p = sym (under_here h hs name t) ∙ e in let same : h.pair ≡ p = cc in subst P same (all 0 h (omega arith))
    by false t rest = rest (sym (under_later h hs name t) ∙ e)

-- where none is under it no pair has that name
pub none_under : (held : List HeldPair) (name : List ℕ) → pair_under held name ≡ None → All (λ h. h.name ≢ name) held
none_under [] name e k d lt = absurd (omega arith)
none_under (h ∷ hs) name e k d lt = by (bytes_eq h.name name) refl (λ none. none_under hs name none) k lt
  where
    by : (b : Bool) → bytes_eq h.name name ≡ b → (pair_under hs name ≡ None → All (λ h. h.name ≢ name) hs) → (k : ℕ) → k < length (h ∷ hs) → (get_or (h ∷ hs) k d).name ≢ name
    by true t rest k lt = absurd (some_none h.pair (sym (under_here h hs name t) ∙ e))
    by false t rest zero lt = λ is. apart (sym t ∙ (bytes_eq-Decides h.name name).1 is)
    by false t rest (suc k) lt = rest (sym (under_later h hs name t) ∙ e) k d (omega arith)

-- ---- going through leases

module _ (items : List HeldLease) (k : ℕ) (h : HeldLease) (lt : k < length items) (here : get_or items k h ≡ h) (name : List ℕ) where
  abbrev pair_of : HeldLease → HeldPair
  pair_of x = record { name = string_bytes x.name; pair = x.lease }

  cut : pairs_in (drop k items) ≡ pair_of h ∷ pairs_in (drop (k + 1) items)
  cut = ap pairs_in (drop_more items k h lt ∙ ap (λ x. x ∷ drop (k + 1) items) here)

  pub lease_here : bytes_eq (string_bytes h.name) name ≡ true → pair_under (pairs_in (drop k items)) name ≡ Some h.lease
  lease_here e = ap (λ held. pair_under held name) cut ∙ under_here (pair_of h) (pairs_in (drop (k + 1) items)) name e

  pub lease_later : bytes_eq (string_bytes h.name) name ≡ false → pair_under (pairs_in (drop k items)) name ≡ pair_under (pairs_in (drop (k + 1) items)) name
  lease_later e = ap (λ held. pair_under held name) cut ∙ under_later (pair_of h) (pairs_in (drop (k + 1) items)) name e

pub none_left : {A : Type 0} (xs : List A) (k : ℕ) → length xs ≤ k → drop k xs ≡ []
none_left [] k le = drop_nil k
  where
    drop_nil : {A : Type 0} (k : ℕ) → drop {A = A} k [] ≡ []
    drop_nil zero = refl
    drop_nil (suc k) = refl
none_left (x ∷ xs) zero le = absurd (omega arith)
none_left (x ∷ xs) (suc k) le = none_left xs k (omega arith)

-- what is retained, as contracts see it
pub retained : (items : List HeldLease) (name : List ℕ) → pairs_in (filter (λ x. not (bytes_eq (string_bytes x.name) name)) items) ≡ without (pairs_in items) name
retained items name = let pair_of : HeldLease → HeldPair = λ x. record { name = string_bytes x.name; pair = x.lease } in sym (filter-map pair_of (λ h. not (bytes_eq h.name name)) items)

-- ---- their numbers

pub numbers_under : (held : List HeldPair) (name : List ℕ) → held_under (numbers_held held) name ≡ option_map numbers_of (pair_under held name)
numbers_under [] name = refl
numbers_under (h ∷ hs) name = by (bytes_eq h.name name) refl (numbers_under hs name)
  where
    by : (b : Bool) → bytes_eq h.name name ≡ b → held_under (numbers_held hs) name ≡ option_map numbers_of (pair_under hs name) → held_under (numbers_held (h ∷ hs)) name ≡ option_map numbers_of (pair_under (h ∷ hs) name)
    by true t rest = rw t refl
    by false t rest = let skips : held_under (numbers_held (h ∷ hs)) name ≡ held_under (numbers_held hs) name = rw t refl in skips ∙ rest ∙ ap (option_map numbers_of) (sym (under_later h hs name t))

pub numbers_without : (held : List HeldPair) (name : List ℕ) → numbers_held (without held name) ≡ filter (λ h. not (bytes_eq h.0 name)) (numbers_held held)
numbers_without held name = let number : HeldPair → List ℕ × (ℕ × ℕ) = λ h. (h.name, numbers_of h.pair) in sym (filter-map number (λ h. not (bytes_eq h.0 name)) held)

-- ---- what was found

module _ (held : List HeldPair) (name : List ℕ) where
  pub some_under : (found : Option (Bor Published)) → MatchOption found (pair_under held name ≡ None) (λ p. pair_under held name ≡ Some p.now) → is_some found ≡ true → (p : Published) × (pair_under held name ≡ Some p)
  some_under None is some = absurd (apart some)
  some_under (Some p) is some = (p.now, is)

  pub not_under : (found : Option (Bor Published)) → MatchOption found (pair_under held name ≡ None) (λ p. pair_under held name ≡ Some p.now) → is_some found ≡ false → pair_under held name ≡ None
  not_under None is none = is
  not_under (Some p) is none = absurd (apart (sym none))
