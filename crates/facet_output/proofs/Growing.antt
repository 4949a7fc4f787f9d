-- Labels that are entered in the order of a document's paths, none skipped, are the first of those that were missing.
use Rattle.std.proofs.Common.{◌≡◌, inl, inr, ⊎_elim, ℕ, zero, suc, ◌+◌, ◌≤◌, ◌<◌, Bool, true, false, List, [], ◌∷◌, ◌++◌, length, Some, None, slice_get, refl, sym, ap, ◌∙◌, subst, arith, append_assoc, length-append}
use Rattle.std.specs.Prelude.{◌||◌, not, take, fold, if◌then◌else◌, unwrap_or}
use Rattle.std.specs.List.{list_any, list_all, position_or_len, prefix_len}
use Rattle.std.proofs.lemmas.Bool.{and_parts, both_ways, cases_lt, or_left}
use Rattle.std.proofs.lemmas.List.Folds.{list_any-append}
use mathlib.Core.List.{IsPrefix}
use Rattle.facet_names.specs.Labels.{stands, with_label, skips_none}
use Rattle.facet_names.specs.Paths.{path_eq, path_eq_equiv}
use Rattle.facet_names.proofs.LabelLists.{same_path}
use Rattle.facet_output.proofs.Among.{In, any_in, in_right}
use Rattle.facet_output.proofs.Fronts.{prefix_whole, take_prefix, get_there, get_below}
use Rattle.std.proofs.Math.Bool.{or-true}
use Rattle.chronicle.proofs.Prefixes.{prefix_self, prefix_trans, prefix_get}

module _ {A : Type 0} where
  pub take_whole : (xs : List A) → take (length xs) xs ≡ xs
  take_whole [] = refl
  take_whole (x ∷ xs) = ap (λ (l : List A). x ∷ l) (take_whole xs)

  -- a beginning that goes on with the next element
  pub prefix_snoc : (xs ys : List A) (x : A) → IsPrefix xs ys → slice_get ys (length xs) ≡ Some x → IsPrefix (xs ++ x ∷ []) ys
  prefix_snoc xs ys x begins at = by begins.0 begins.1
    where
      next : (xs rest : List A) → slice_get (xs ++ rest) (length xs) ≡ slice_get rest 0
      next [] rest = refl
      next (y ∷ xs) rest = next xs rest

      by : (rest : List A) → xs ++ rest ≡ ys → IsPrefix (xs ++ x ∷ []) ys
      by [] e = let none : None ≡ Some x = sym (next xs []) ∙ ap (λ l. slice_get l (length xs)) e ∙ at in absurd cc
      by (r ∷ rest) e =
          let same : Some r ≡ Some x = sym (next xs (r ∷ rest)) ∙ ap (λ l. slice_get l (length xs)) e ∙ at in
          let is : r ≡ x = ap (λ o. unwrap_or o r) same in
          (rest, append_assoc xs (x ∷ []) rest ∙ ap (λ y. xs ++ y ∷ rest) (sym is) ∙ e)

  some_taken : (p : A → Bool) (xs : List A) (i k : ℕ) (x : A) → k < i → slice_get xs k ≡ Some x → p x ≡ true → list_any p (take i xs) ≡ true
  some_taken p [] i k x lt at h = absurd cc
  some_taken p (y ∷ xs) zero k x lt at h = absurd (omega arith)
  some_taken p (y ∷ xs) (suc i) zero x lt at h = let same : y ≡ x = ap (λ o. unwrap_or o y) at in let e : p y ≡ true = ap p same ∙ h in rw e refl
  some_taken p (y ∷ xs) (suc i) (suc k) x lt at h = let r = some_taken p xs i k x (omega arith) at h in rw r (or-true (p y))

  place_of : (p : A → Bool) (xs : List A) → list_any p xs ≡ true → (k : ℕ) × (x : A) × (slice_get xs k ≡ Some x) × (p x ≡ true)
  place_of p [] h = absurd cc
  place_of p (x ∷ xs) h = by (p x) refl (place_of p xs) h
    where
      by : (b : Bool) → p x ≡ b → (list_any p xs ≡ true → (k : ℕ) × (y : A) × (slice_get xs k ≡ Some y) × (p y ≡ true)) → (b || list_any p xs) ≡ true → (k : ℕ) × (y : A) × (slice_get (x ∷ xs) k ≡ Some y) × (p y ≡ true)
      by true e rest h = (0, x, refl, e)
      by false e rest h = let r = rest h in (suc r.0, r.1, r.2, r.3)

grown_with : (labels : List (List (List ℕ))) (p : List (List ℕ)) (b : Bool) → stands labels p ≡ b → with_label labels p ≡ (if b then labels else labels ++ p ∷ [])
grown_with labels p b e = rw e refl

pub begins_fold : (paths labels : List (List (List ℕ))) → IsPrefix labels (fold with_label labels paths)
begins_fold [] labels = prefix_self labels
begins_fold (p ∷ paths) labels = prefix_trans labels (with_label labels p) (fold with_label labels (p ∷ paths)) (by (stands labels p) refl) (begins_fold paths (with_label labels p))
  where
    by : (b : Bool) → stands labels p ≡ b → IsPrefix labels (with_label labels p)
    by true e = rw e (prefix_self labels)
    by false e = rw e (p ∷ [], refl)

stands_with : (labels : List (List (List ℕ))) (p : List (List ℕ)) → stands (with_label labels p) p ≡ true
stands_with labels p = by (stands labels p) refl
  where
    by : (b : Bool) → stands labels p ≡ b → stands (with_label labels p) p ≡ true
    by true e = rw (grown_with labels p true e) e
    by false e = rw (grown_with labels p false e) (any_in (path_eq p) (labels ++ p ∷ []) p (in_right labels (p ∷ []) p (inl refl)) (path_eq_equiv.refl p))

stands_on : (labels all : List (List (List ℕ))) (p : List (List ℕ)) → IsPrefix labels all → stands labels p ≡ true → stands all p ≡ true
stands_on labels all p begins h = subst (λ l. stands l p ≡ true) begins.1 (list_any-append (path_eq p) labels begins.0 ∙ or_left (stands labels p) (stands begins.0 p) h)

-- all paths stand where each was added that was missing
pub all_stand : (paths labels : List (List (List ℕ))) (p : List (List ℕ)) → In p paths → stands (fold with_label labels paths) p ≡ true
all_stand [] labels p there = absurd there
all_stand (q ∷ paths) labels p there = ⊎_elim
    (λ is. stands_on (with_label labels q) (fold with_label (with_label labels q) paths) p (begins_fold paths (with_label labels q)) (subst (λ r. stands (with_label labels q) r ≡ true) (sym is) (stands_with labels q)))
    (λ later. all_stand paths (with_label labels q) p later) there

module _ (all : List (List (List ℕ))) (once : (i : ℕ) (p : List (List ℕ)) → slice_get all i ≡ Some p → stands (take i all) p ≡ false) where
  -- the labels from there on are among these paths, and none of the paths was skipped
  abbrev pub Enters : List (List (List ℕ)) → List (List (List ℕ)) → Type 0
  Enters labels paths = (i : ℕ) (p : List (List ℕ)) → length labels ≤ i → slice_get all i ≡ Some p → (stands paths p ≡ true) × (skips_none (take i all) paths p ≡ true)

  abbrev IsNext : ℕ → List (List (List ℕ)) → List (List ℕ) → Type 0
  IsNext i paths p = (stands paths p ≡ true) × (skips_none (take i all) paths p ≡ true)

  -- what stands in a beginning stands before each later label
  stands_before : (labels : List (List (List ℕ))) (p : List (List ℕ)) (i : ℕ) → IsPrefix labels all → length labels ≤ i → stands labels p ≡ true → stands (take i all) p ≡ true
  stands_before labels p i begins le h = let r = place_of (path_eq p) labels h in
      let lt = get_below labels r.0 r.1 r.2 in
      some_taken (path_eq p) all i r.0 r.1 (omega arith) (prefix_get labels all r.0 r.1 begins r.2) r.3

  -- the first path is passed over, since it stands there already
  narrower : (p : List (List ℕ)) (paths : List (List (List ℕ))) (i : ℕ) (q : List (List ℕ)) → slice_get all i ≡ Some q → stands (take i all) p ≡ true → IsNext i (p ∷ paths) q → IsNext i paths q
  narrower p paths i q at there next = by (path_eq q p) refl next.0
    where
      passed : (b : Bool) → path_eq q p ≡ b → b ≡ false → skips_none (take i all) (p ∷ paths) q ≡ true → skips_none (take i all) paths q ≡ true
      passed true e no_match h = absurd cc
      passed false e no_match h =
          let k = prefix_len (λ x. not (path_eq q x)) paths in
          let place : position_or_len (path_eq q) (p ∷ paths) ≡ suc k = rw e (let n : 1 + k ≡ suc k = omega arith in n) in
          let front : list_all (stands (take i all)) (take (suc k) (p ∷ paths)) ≡ true = subst (λ (n : ℕ). list_all (stands (take i all)) (take n (p ∷ paths)) ≡ true) place h in
          (and_parts (stands (take i all) p) (list_all (stands (take i all)) (take k paths)) front).1

      by : (b : Bool) → path_eq q p ≡ b → (b || stands paths q) ≡ true → IsNext i paths q
      by true e h = let same : q ≡ p = same_path q p e in absurd (both_ways (stands (take i all) q) (once i q at) (subst (λ r. stands (take i all) r ≡ true) (sym same) there))
      by false e h = (h, passed false e refl next.1)

  -- the first path stands there, or is entered next
  forward : (p : List (List ℕ)) (paths labels : List (List (List ℕ))) → IsPrefix labels all → Enters labels (p ∷ paths) → (stands labels p ≡ false → length labels < length all) → IsPrefix (with_label labels p) all × Enters (with_label labels p) paths
  forward p paths labels begins enters more = by (stands labels p) refl
    where
      narrowed : (now : List (List (List ℕ))) → IsPrefix now all → length labels ≤ length now → stands now p ≡ true → Enters now paths
      narrowed now begins' longer there i q le at = narrower p paths i q at (stands_before now p i begins' le there) (enters i q (omega arith) at)

      skipped : (q : List (List ℕ)) → path_eq q p ≡ false → skips_none (take (length labels) all) (p ∷ paths) q ≡ true → stands (take (length labels) all) p ≡ true
      skipped q e h =
          let k = prefix_len (λ x. not (path_eq q x)) paths in
          let place : position_or_len (path_eq q) (p ∷ paths) ≡ suc k = rw e (let n : 1 + k ≡ suc k = omega arith in n) in
          let front : list_all (stands (take (length labels) all)) (take (suc k) (p ∷ paths)) ≡ true = subst (λ (n : ℕ). list_all (stands (take (length labels) all)) (take n (p ∷ paths)) ≡ true) place h in
          (and_parts (stands (take (length labels) all) p) (list_all (stands (take (length labels) all)) (take k paths)) front).0

      is_next : (q : List (List ℕ)) (c : Bool) → path_eq q p ≡ c → stands labels p ≡ false → slice_get all (length labels) ≡ Some q → q ≡ p
      is_next q true f e at = same_path q p f
      is_next q false f e at =
          let there = skipped q f (enters (length labels) q (omega arith) at).1 in
          let front : take (length labels) all ≡ labels = take_prefix labels all (length labels) begins (omega arith) ∙ take_whole labels in
          absurd (both_ways (stands labels p) e (subst (λ l. stands l p ≡ true) front there))

      by : (b : Bool) → stands labels p ≡ b → IsPrefix (with_label labels p) all × Enters (with_label labels p) paths
      by true e = subst (λ l. IsPrefix l all × Enters l paths) (sym (grown_with labels p true e)) (begins, narrowed labels begins (omega arith) e)
      by false e =
          let r = get_there all (length labels) (more e) in
          let same = is_next r.0 (path_eq r.0 p) refl e r.1 in
          let longer : IsPrefix (labels ++ p ∷ []) all = prefix_snoc labels all p begins (subst (λ q. slice_get all (length labels) ≡ Some q) same r.1) in
          let there : stands (labels ++ p ∷ []) p ≡ true = any_in (path_eq p) (labels ++ p ∷ []) p (in_right labels (p ∷ []) p (inl refl)) (path_eq_equiv.refl p) in
          subst (λ l. IsPrefix l all × Enters l paths) (sym (grown_with labels p false e)) (longer, narrowed (labels ++ p ∷ []) longer (omega (arith, length-append labels (p ∷ []))) there)

  -- they are the first of the missing ones
  pub first_missing : (paths labels : List (List (List ℕ))) → IsPrefix labels all → Enters labels paths → all ≡ take (length all) (fold with_label labels paths)
  first_missing [] labels begins enters = ⊎_elim
      (λ lt. let r = get_there all (length labels) lt in let none = (enters (length labels) r.0 (omega arith) r.1).0 in absurd cc)
      (λ le. let same = prefix_whole labels all begins le in subst (λ l. all ≡ take (length all) l) (sym same) (sym (take_whole all)))
      (cases_lt (length labels) (length all))
  first_missing (p ∷ paths) labels begins enters = ⊎_elim
      (λ lt. let s = forward p paths labels begins enters (λ e. lt) in first_missing paths (with_label labels p) s.0 s.1)
      (λ le. let same = prefix_whole labels all begins le in
      let fits = take_prefix labels (fold with_label labels (p ∷ paths)) (length labels) (begins_fold (p ∷ paths) labels) (omega arith) in
      subst (λ l. l ≡ take (length l) (fold with_label labels (p ∷ paths))) same (sym (take_whole labels) ∙ sym fits))
      (cases_lt (length labels) (length all))

  -- where all paths stand there, they are all of the missing ones
  pub all_missing : (paths labels : List (List (List ℕ))) → IsPrefix labels all → Enters labels paths → ((p : List (List ℕ)) → In p paths → stands all p ≡ true) → all ≡ fold with_label labels paths
  all_missing [] labels begins enters there = ⊎_elim
      (λ lt. let r = get_there all (length labels) lt in let none = (enters (length labels) r.0 (omega arith) r.1).0 in absurd cc)
      (λ le. sym (prefix_whole labels all begins le))
      (cases_lt (length labels) (length all))
  all_missing (p ∷ paths) labels begins enters there =
      let more : stands labels p ≡ false → length labels < length all = λ e. ⊎_elim (λ lt. lt)
      (λ le. absurd (both_ways (stands labels p) e (subst (λ l. stands l p ≡ true) (sym (prefix_whole labels all begins le)) (there p (inl refl))))) (cases_lt (length labels) (length all)) in
      let s = forward p paths labels begins enters more in
      all_missing paths (with_label labels p) s.0 s.1 (λ q among. there q (inr among))
