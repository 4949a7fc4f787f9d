-- One label more changes the arrays at one old place: the child of its parent. Parents and siblings grow at the end alone.
use Rattle.std.proofs.Common.{◌≡◌, ℕ, ◌+◌, ◌-◌, ◌<◌, ◌≤◌, ℤ, pos, negsuc, List, [], ◌∷◌, ◌++◌, length, take, get_or, set, slice_get, replicate, refl, true, false, true≢false, sym, ap, subst, ◌∙◌, arith, Some, None}
use Rattle.std.specs.Prelude.{IfSome}
use Rattle.std.proofs.Math.Dec.{leb-suc-zero}
use lib.Signed.{lt_z}
use lib.IntN.{nat_abs}
use Rattle.std.proofs.lemmas.Option.{get_or_from_slice_get}
use Rattle.std.proofs.lemmas.List.{length-append, length-take-le, get_or_push, get_or-take, take_at, take_more}
use Rattle.std.proofs.lemmas.List.FromFn.{length-map-range_with_len}
use Rattle.facet_names.specs.Arrays.{or_none}
use Rattle.taxo_list.specs.ArrayLists.{ArrayLists}
use Rattle.taxo_list.specs.Links.{ordinal, parent_in, last_child, last_sibling, arrays_by, AreParents, AreLinked}
use Rattle.taxo_list.proofs.Linked.{linked_front, linked_root, linked_child, linked_whole}

set_end : (xs : List ℤ) (a b : ℤ) (n : ℕ) → n ≡ length xs → set (xs ++ a ∷ []) n b ≡ xs ++ b ∷ []
set_end [] a b n is = ap (λ k. set (a ∷ []) k b) is
set_end (x ∷ xs) a b n is = ap (λ k. set (x ∷ (xs ++ a ∷ [])) k b) is ∙ ap (λ l. x ∷ l) (set_end xs a b (length xs) refl)

-- the first of them are parents too
pub first_parents : (parents : List ℤ) (n : ℕ) → n ≤ length parents → AreParents parents → AreParents (take n parents)
first_parents parents n within smaller i lt =
    let low : i < n = omega (arith, lt, length-take-le n parents within) in
    subst (λ o. IfSome o (λ q. q < i)) (sym (ap ordinal (get_or-take n parents i (negsuc 0) low))) (smaller i (omega (arith, low, within)))

-- one label more of them, by what the code reads of it
pub next_parent : (parents grown : List ℤ) (n : ℕ) (read : ℤ) → grown ≡ take n parents → n < length parents → read ≡ get_or parents n read → take (n + 1) parents ≡ grown ++ read ∷ []
next_parent parents grown n read is lt reads = take_more parents n read lt ∙ (λ i. sym is i ++ sym reads i ∷ [])

-- each label has an entry in each of the three
pub sizes : (arrays : ArrayLists) → arrays ≡ arrays_by arrays.parents → (length arrays.children ≡ length arrays.parents) × (length arrays.siblings ≡ length arrays.parents)
sizes arrays is =
    let parents : List ℤ = arrays.parents in
    (ap (λ (a : ArrayLists). length a.children) is ∙ length-map-range_with_len (λ i. or_none (last_child parents (length parents) i)) 0 (length parents), ap (λ (a : ArrayLists). length a.siblings) is ∙ length-map-range_with_len (λ i. or_none (last_sibling parents i)) 0 (length parents))

module _ (parents : List ℤ) (x : ℤ) (all_smaller : AreParents (parents ++ x ∷ [])) where
  abbrev n : ℕ
  n = length parents

  abbrev all : List ℤ
  all = parents ++ x ∷ []

  long : length all ≡ n + 1
  long = length-append parents (x ∷ [])

  first : take n all ≡ parents
  first = take_at parents (x ∷ []) n refl

  last : parent_in all n ≡ ordinal x
  last = ap ordinal (get_or_push parents x (negsuc 0) n refl)

  abbrev old : ArrayLists
  old = arrays_by parents

  one : length all - n ≡ 1
  one = omega (arith, long)

  so_far : AreLinked all n (old.children ++ negsuc 0 ∷ []) (old.siblings ++ negsuc 0 ∷ [])
  so_far =
      let whole : AreLinked all n (old.children ++ replicate (length all - n) (negsuc 0)) (old.siblings ++ replicate (length all - n) (negsuc 0)) = linked_front all n (omega (arith, long)) all_smaller old (ap arrays_by (sym first)) in
      subst (λ m. AreLinked all n (old.children ++ replicate m (negsuc 0)) (old.siblings ++ replicate m (negsuc 0))) one whole

  as_many_siblings : length old.siblings ≡ n
  as_many_siblings = length-map-range_with_len (λ i. or_none (last_sibling parents i)) 0 n

  -- without a parent it is the child of none
  pub more_roots : ordinal x ≡ None → ◌≡◌ {A = ArrayLists} (record { parents = all; children = old.children ++ negsuc 0 ∷ []; siblings = old.siblings ++ negsuc 0 ∷ [] }) (arrays_by all)
  more_roots none =
      let linked : AreLinked all (n + 1) (old.children ++ negsuc 0 ∷ []) (old.siblings ++ negsuc 0 ∷ []) = linked_root all (old.children ++ negsuc 0 ∷ []) (old.siblings ++ negsuc 0 ∷ []) n (omega (arith, long)) so_far (last ∙ none) in
      linked_whole all (old.children ++ negsuc 0 ∷ []) (old.siblings ++ negsuc 0 ∷ []) (subst (λ m. AreLinked all m (old.children ++ negsuc 0 ∷ []) (old.siblings ++ negsuc 0 ∷ [])) (sym long) linked)

  module _ (p : ℕ) (is : ordinal x ≡ Some p) where
    -- its parent is an old label
    pub parent_below : p < n
    parent_below = subst (λ o. IfSome o (λ q. q < n)) (last ∙ is) (all_smaller n (omega (arith, long)))

    -- it is the child of its parent, and the child before it becomes its sibling
    pub more_children : ◌≡◌ {A = ArrayLists} (record { parents = all; children = set (old.children ++ negsuc 0 ∷ []) p (pos n); siblings = old.siblings ++ get_or (old.children ++ negsuc 0 ∷ []) p (negsuc 0) ∷ [] }) (arrays_by all)
    more_children =
        let kid : ℤ = get_or (old.children ++ negsuc 0 ∷ []) p (negsuc 0) in
        let kids : List ℤ = set (old.children ++ negsuc 0 ∷ []) p (pos n) in
        let linked : AreLinked all (n + 1) kids (set (old.siblings ++ negsuc 0 ∷ []) n kid) = linked_child all (old.children ++ negsuc 0 ∷ []) (old.siblings ++ negsuc 0 ∷ []) n (omega (arith, long)) so_far p (last ∙ is) parent_below in
        let sibs : set (old.siblings ++ negsuc 0 ∷ []) n kid ≡ old.siblings ++ kid ∷ [] = set_end old.siblings (negsuc 0) kid n (sym as_many_siblings) in
        linked_whole all kids (old.siblings ++ kid ∷ []) (subst (λ m. AreLinked all m kids (old.siblings ++ kid ∷ [])) (sym long) (subst (AreLinked all (n + 1) kids) sibs linked))

-- ---- what the code writes

-- a number that is not negative is an ordinal
pub not_negative : (x raw : ℤ) → raw ≡ x → lt_z raw (pos 0) ≡ false → ordinal x ≡ Some (nat_abs raw)
not_negative (pos p) raw is by = ap Some (sym (ap nat_abs is))
not_negative (negsuc m) raw is by = absurd (true≢false (ap (λ y. lt_z y (pos 0)) (sym is) ∙ by))

pub negative : (x raw : ℤ) → raw ≡ x → lt_z raw (pos 0) ≡ true → ordinal x ≡ None
negative (pos p) raw is by = absurd (true≢false (sym by ∙ ap (λ y. lt_z y (pos 0)) is ∙ leb-suc-zero p))
negative (negsuc m) raw is by = refl

module _ (old new : ArrayLists) (x : ℤ) (smaller : AreParents (old.parents ++ x ∷ [])) (are : old ≡ arrays_by old.parents) (parents : new.parents ≡ old.parents ++ x ∷ []) where
  pub entered_root : ordinal x ≡ None → new.children ≡ old.children ++ negsuc 0 ∷ [] → new.siblings ≡ old.siblings ++ negsuc 0 ∷ [] → new ≡ arrays_by (old.parents ++ x ∷ [])
  entered_root none kids sibs =
      let kids_are : new.children ≡ (arrays_by old.parents).children ++ negsuc 0 ∷ [] = kids ∙ ap (λ (a : ArrayLists). a.children ++ negsuc 0 ∷ []) are in
      let sibs_are : new.siblings ≡ (arrays_by old.parents).siblings ++ negsuc 0 ∷ [] = sibs ∙ ap (λ (a : ArrayLists). a.siblings ++ negsuc 0 ∷ []) are in
      (λ i. record { parents = parents i; children = kids_are i; siblings = sibs_are i }) ∙ more_roots old.parents x smaller none

  pub entered_child : (p : ℕ) (kid : ℤ) → ordinal x ≡ Some p → slice_get (old.children ++ negsuc 0 ∷ []) p ≡ Some kid → new.children ≡ set (old.children ++ negsuc 0 ∷ []) p (pos (length old.parents)) → new.siblings ≡ old.siblings ++ kid ∷ []
      → new ≡ arrays_by (old.parents ++ x ∷ [])
  entered_child p kid is at kids sibs =
      let kid_is : kid ≡ get_or ((arrays_by old.parents).children ++ negsuc 0 ∷ []) p (negsuc 0) = sym (get_or_from_slice_get (old.children ++ negsuc 0 ∷ []) p kid (negsuc 0) at) ∙ ap (λ (a : ArrayLists). get_or (a.children ++ negsuc 0 ∷ []) p (negsuc 0)) are in
      let kids_are : new.children ≡ set ((arrays_by old.parents).children ++ negsuc 0 ∷ []) p (pos (length old.parents)) = kids ∙ ap (λ (a : ArrayLists). set (a.children ++ negsuc 0 ∷ []) p (pos (length old.parents))) are in
      let sibs_are : new.siblings ≡ (arrays_by old.parents).siblings ++ get_or ((arrays_by old.parents).children ++ negsuc 0 ∷ []) p (negsuc 0) ∷ [] = sibs ∙ (λ i. (are i).siblings ++ kid_is i ∷ []) in
      (λ i. record { parents = parents i; children = kids_are i; siblings = sibs_are i }) ∙ more_children old.parents x smaller p is
