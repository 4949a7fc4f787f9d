-- The dimensions whose flags differ in two configs.
use Rattle.std.specs.Prelude.{◌≡◌, ◌≢◌, ◌↔◌, ◌||◌, ℕ, not, Bool, false, if◌then◌else◌, List, map, fold, Option, Some}
use Rattle.std.specs.Prelude.{None, IfSome, IfNone}
use Rattle.std.specs.Ordering.{nat_cmp, is_lt}
use Rattle.std.specs.Cmp.Lexicographic.{slice_cmp}
use Rattle.facet_model.specs.Flags.{Config, flags}

-- The dimension's flags differ, and those of no dimension that is less by its bytes.
pub record IsFirstDifference (one other : Config) (dim : List ℕ) : Type 0 where
  pub differs : flags one dim ≢ flags other dim
  pub first : (d : List ℕ) → flags one d ≢ flags other d → is_lt (slice_cmp nat_cmp d dim) ≡ false

-- one of the two is true
abbrev pub is_one_true : Bool → Bool → Bool
is_one_true a b = if a then not b else b

-- one of the three flags differs
abbrev pub is_different : Config → Config → List ℕ → Bool
is_different one other dim =
    is_one_true (flags one dim).hierarchical (flags other dim).hierarchical
    || is_one_true (flags one dim).multi_valued (flags other dim).multi_valued
    || is_one_true (flags one dim).require_dim_count (flags other dim).require_dim_count

-- the lesser of the two
abbrev pub lesser : Option (List ℕ) → List ℕ → Option (List ℕ)
lesser None dim = Some dim
lesser (Some d) dim = if is_lt (slice_cmp nat_cmp dim d) then Some dim else Some d

-- the lesser of the two if the dimension differs
abbrev pub nearer : Config → Config → Option (List ℕ) → List ℕ → Option (List ℕ)
nearer one other first dim = if is_different one other dim then lesser first dim else first

-- the least of the declared dimensions whose flags differ
abbrev pub first_different : Config → Config → Option (List ℕ)
first_different one other = fold (nearer one other) (fold (nearer one other) None (map (λ d. d.0) one))
    (map (λ d. d.0) other)

-- What is found is the first difference. If nothing is found, no dimension's flags differ.
pub record IsFoundDifference (one other : Config) (found : Option (List ℕ)) : Type 0 where
  pub some : IfSome found (λ dim. IsFirstDifference one other dim)
  pub none : IfNone found ((dim : List ℕ) → flags one dim ≡ flags other dim)

-- there is exactly one first difference, and comparing the declarations of both finds it
abbrev pub OneDifference : Type 0
OneDifference = (one other : Config) (found : Option (List ℕ))
    → IsFoundDifference one other found ↔ (found ≡ first_different one other)
