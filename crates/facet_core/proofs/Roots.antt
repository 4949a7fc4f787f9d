-- The root, which is always among the labels and is no path.
use Rattle.std.proofs.Common.{◌≡◌, ℕ, ◌-◌, ◌≤◌, Bool, true, false, List, [], ◌∷◌, length, take, Some, None, zero, suc, refl, sym, ap, ◌∙◌, arith}
use Rattle.std.specs.Prelude.{slice_get, nat_le}
use Rattle.std.proofs.lemmas.Bool.{leb-true}
use Rattle.facet_names.specs.Paths.{parent_of}
use Rattle.facet_names.specs.Labels.{stands, above}

-- the root beside the labels makes no difference to a path that has a dimension
pub under_root : (path : List (List ℕ)) (dim : List ℕ) (labels : List (List (List ℕ))) → slice_get path 0 ≡ Some dim → stands labels path ≡ stands ([] ∷ labels) path
under_root [] dim labels is = absurd cc
under_root (p ∷ ps) dim labels is = refl

-- of a path with one component the root is the parent
pub root_above : (path : List (List ℕ)) (labels : List (List (List ℕ))) → None ≡ parent_of path → true ≡ stands ([] ∷ labels) (above path)
root_above path labels is = by (nat_le (length path) 1) refl
  where
    by : (b : Bool) → nat_le (length path) 1 ≡ b → true ≡ stands ([] ∷ labels) (above path)
    by true h = let none : length path - 1 ≡ 0 = (let le : length path ≤ 1 = leb-true (length path) 1 h in omega (arith, le)) in ap (λ n. stands ([] ∷ labels) (take n path)) (sym none)
    by false h = absurd (let e : None ≡ Some (above path) = is ∙ rw h refl in cc)

-- a first part of the labels that has the root
pub root_taken : (m : ℕ) (labels : List (List (List ℕ))) → 1 ≤ m → [] ∷ take (m - 1) labels ≡ take m ([] ∷ labels)
root_taken zero labels some = absurd (omega arith)
root_taken (suc m) labels some = ap (λ k. [] ∷ take k labels) (let same : suc m - 1 ≡ m = omega arith in same)
