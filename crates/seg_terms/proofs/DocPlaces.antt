-- The places of the documents that have a term, document by document.
use Rattle.std.proofs.Common.{◌≡◌, ℕ, ◌<◌, ◌+◌, ◌-◌, zero, suc, Bool, true, false, cond, ◌||◌, List, [], ◌∷◌, ◌++◌, length, Some, None, refl, sym, ap, ◌∙◌, arith}
use Rattle.std.specs.Prelude.{nat_eq, slice_get}
use Rattle.std.specs.List.{list_any, AllByRecursion}
use Rattle.std.specs.Option.{option_map_or}
use Rattle.std.proofs.lemmas.Bool.{ne_eqb}
use Rattle.std.proofs.lemmas.List.{append-nil}
use Rattle.std.proofs.lemmas.List.Folds.{list_any-append}
use Rattle.facet_names.proofs.Places.{places_from, with_place as with_first}
use Rattle.facet_model.specs.Documents.{Doc}
use Rattle.facet_model.specs.CountedPaths.{places}
use Rattle.facet_model.specs.Terms.{doc_terms}
use Rattle.seg_terms.specs.Noting.{Table, found, put_place, with_place, AreNoted}
use Rattle.seg_terms.specs.Laws.{has_term, term_places}

module _ {A : Type 0} (passes : A → Bool) where
  -- one element more
  places_more : (xs : List A) (n k : ℕ) (y : A) → n + length xs ≡ k → places_from passes n (xs ++ y ∷ []) ≡ places_from passes n xs ++ cond (passes y) (k ∷ []) []
  places_more [] n k y size = by (passes y)
    where
      here : n ≡ k
      here = omega (arith, size)

      by : (b : Bool) → with_first passes b n y [] ≡ cond b (k ∷ []) []
      by true = λ i. here i ∷ []
      by false = refl
  places_more (x ∷ xs) n k y size = by (passes x) (places_more xs (n + 1) k y (omega (arith, size)))
    where
      by : (b : Bool) → places_from passes (n + 1) (xs ++ y ∷ []) ≡ places_from passes (n + 1) xs ++ cond (passes y) (k ∷ []) [] → with_first passes b n x (xs ++ y ∷ []) ≡ with_first passes b n x xs ++ cond (passes y) (k ∷ []) []
      by true rest = ap (λ ps. n ∷ ps) rest
      by false rest = rest

  -- each place is before the end
  pub places_below : (xs : List A) (n k : ℕ) → n + length xs ≡ k → AllByRecursion (λ p. p < k) (places_from passes n xs)
  places_below [] n k size = tt
  places_below (x ∷ xs) n k size = by (passes x) (places_below xs (n + 1) k (omega (arith, size)))
    where
      by : (b : Bool) → AllByRecursion (λ p. p < k) (places_from passes (n + 1) xs) → AllByRecursion (λ p. p < k) (with_first passes b n x xs)
      by true rest = (omega (arith, size), rest)
      by false rest = rest

  pub no_places : (xs : List A) (n : ℕ) → list_any passes xs ≡ false → places_from passes n xs ≡ []
  no_places [] n none = refl
  no_places (x ∷ xs) n none = by (passes x) none (no_places xs (n + 1))
    where
      by : (b : Bool) → (b || list_any passes xs) ≡ false → (list_any passes xs ≡ false → places_from passes (n + 1) xs ≡ []) → with_first passes b n x xs ≡ []
      by true none rest = absurd cc
      by false none rest = rest none

none_is : (ps : List ℕ) (i k : ℕ) → AllByRecursion (λ p. p < k) ps → option_map_or (nat_eq k) (slice_get ps i) false ≡ false
none_is [] zero k below = refl
none_is [] (suc i) k below = refl
none_is (p ∷ ps) zero k below = ne_eqb k p (λ e. omega (arith, below.0, e))
none_is (p ∷ ps) (suc i) k below = none_is ps i k below.1

put_behind : (ps : List ℕ) (k : ℕ) → AllByRecursion (λ p. p < k) ps → put_place ps k ≡ ps ++ k ∷ []
put_behind ps k below = ap (λ b. cond b ps (ps ++ k ∷ [])) (none_is ps (length ps - 1) k below)

-- the places after one document more
pub one_document_more : (docs : List Doc) (doc : Doc) (old new : Table) → ((t : List ℕ) → found old t ≡ term_places docs t) → AreNoted (length docs) (doc_terms doc) old new → (t : List ℕ) → found new t ≡ term_places (docs ++ doc ∷ []) t
one_document_more docs doc old new before noted t =
    noted t
    ∙ ap (λ o. cond (has_term t doc) (with_place o (length docs)) o) (before t)
    ∙ joined (list_any (has_term t) docs) (has_term t doc) (no_places (has_term t) docs 0)
    ∙ sym (λ i. cond (list_any-append (has_term t) docs (doc ∷ []) i) (Some (places_more (has_term t) docs 0 (length docs) doc size i)) None)
  where
    size : 0 + length docs ≡ length docs
    size = omega arith

    joined : (a b : Bool) → (a ≡ false → places (has_term t) docs ≡ []) → cond b (with_place (cond a (Some (places (has_term t) docs)) None) (length docs)) (cond a (Some (places (has_term t) docs)) None) ≡ cond (a || (b || false)) (Some (places (has_term t) docs ++ cond b (length docs ∷ []) [])) None
    joined true true none = ap Some (put_behind (places (has_term t) docs) (length docs) (places_below (has_term t) docs 0 (length docs) size))
    joined true false none = ap Some (sym (append-nil (places (has_term t) docs)))
    joined false true none = ap (λ ps. Some (ps ++ length docs ∷ [])) (sym (none refl))
    joined false false none = refl
