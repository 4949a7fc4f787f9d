-- Places noted under terms one after the other, and the places of documents.
use Rattle.std.proofs.Common.{◌≡◌, ℕ, ◌-◌, Bool, true, false, cond, ◌||◌, List, [], ◌∷◌, ◌++◌, length, Option, Some, None, refl, sym, ap, ◌∙◌, arith}
use Rattle.std.specs.Prelude.{nat_eq, slice_get}
use Rattle.std.specs.List.{list_any}
use Rattle.std.specs.Option.{option_map_or}
use Rattle.std.proofs.lemmas.Bool.{eq-eqb}
use Rattle.std.proofs.lemmas.List.{length-append}
use Rattle.std.proofs.lemmas.List.Folds.{list_any-append}
use Rattle.std.specs.Str.{bytes_eq}
use Rattle.seg_terms.specs.Noting.{Table, found, ends_with, put_place, with_place, AreNoted}

-- ---- one place after the other

last_at : (ps : List ℕ) (p : ℕ) → slice_get (ps ++ p ∷ []) (length ps) ≡ Some p
last_at [] p = refl
last_at (x ∷ xs) p = last_at xs p

slice_get_pushed : (ps : List ℕ) (p : ℕ) → slice_get (ps ++ p ∷ []) (length (ps ++ p ∷ []) - 1) ≡ Some p
slice_get_pushed ps p =
    let at : length (ps ++ p ∷ []) - 1 ≡ length ps = omega (arith, length-append ps (p ∷ [])) in
    ap (slice_get (ps ++ p ∷ [])) at ∙ last_at ps p

pub ends_pushed : (ps : List ℕ) (p : ℕ) → ends_with (ps ++ p ∷ []) p ≡ true
ends_pushed ps p = ap (λ o. option_map_or (nat_eq p) o false) (slice_get_pushed ps p) ∙ eq-eqb p p refl

put_again : (ps : List ℕ) (p : ℕ) → put_place (put_place ps p) p ≡ put_place ps p
put_again ps p = by (ends_with ps p) refl
  where
    by : (b : Bool) → ends_with ps p ≡ b → put_place (put_place ps p) p ≡ put_place ps p
    by true e = ap (λ xs. put_place xs p) (ap (λ b. cond b ps (ps ++ p ∷ [])) e)
    by false e =
        let is : put_place ps p ≡ ps ++ p ∷ [] = ap (λ b. cond b ps (ps ++ p ∷ [])) e in
        ap (λ xs. put_place xs p) is ∙ ap (λ b. cond b (ps ++ p ∷ []) ((ps ++ p ∷ []) ++ p ∷ [])) (ends_pushed ps p) ∙ sym is

pub with_again : (o : Option (List ℕ)) (p : ℕ) → with_place (with_place o p) p ≡ with_place o p
with_again None p = ap Some (ap (λ b. cond b (p ∷ []) (p ∷ p ∷ [])) (eq-eqb p p refl))
with_again (Some ps) p = ap Some (put_again ps p)

-- ---- terms after terms

pub noted_none : (place : ℕ) (t : Table) → AreNoted place [] t t
noted_none place t q = refl

pub noted_more : (place : ℕ) (xs ys : List (List ℕ)) (a b c : Table) → AreNoted place xs a b → AreNoted place ys b c → AreNoted place (xs ++ ys) a c
noted_more place xs ys a b c first then t = by (list_any (bytes_eq t) xs) (list_any (bytes_eq t) ys) refl refl
  where
    by : (x y : Bool) → list_any (bytes_eq t) xs ≡ x → list_any (bytes_eq t) ys ≡ y → found c t ≡ cond (list_any (bytes_eq t) (xs ++ ys)) (with_place (found a t) place) (found a t)
    by x y ex ey =
        let both : list_any (bytes_eq t) (xs ++ ys) ≡ (x || y) = list_any-append (bytes_eq t) xs ys ∙ (λ i. ex i || ey i) in
        let after : found c t ≡ cond y (with_place (found b t) place) (found b t) = then t ∙ ap (λ v. cond v (with_place (found b t) place) (found b t)) ey in
        let before : found b t ≡ cond x (with_place (found a t) place) (found a t) = first t ∙ ap (λ v. cond v (with_place (found a t) place) (found a t)) ex in
        after ∙ ap (λ o. cond y (with_place o place) o) before ∙ joined x y (found a t) ∙ sym (ap (λ v. cond v (with_place (found a t) place) (found a t)) both)
      where
        joined : (x y : Bool) (o : Option (List ℕ)) → cond y (with_place (cond x (with_place o place) o) place) (cond x (with_place o place) o) ≡ cond (x || y) (with_place o place) o
        joined true true o = with_again o place
        joined true false o = refl
        joined false true o = refl
        joined false false o = refl
