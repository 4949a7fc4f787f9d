-- A history: entries in the order in which they were entered, each with the number of the token that entered it.
use Rattle.std.specs.Prelude.{◌==◌, ◌≤◌, nat_lt, length, if◌then◌else◌, ℕ, Bool, true, false, List, [], All, filter}
use Rattle.std.specs.Prelude.{map}

module _ {E : Type 0} where
  -- the entries alone
  abbrev pub entries : List (ℕ × E) → List E
  entries log = map (λ x. x.1) log

  -- these entries, all under one number
  abbrev pub numbered : ℕ → List E → List (ℕ × E)
  numbered n es = map (λ e. (n, e)) es

  -- what was entered under a number
  abbrev pub entered_by : ℕ → List (ℕ × E) → List (ℕ × E)
  entered_by n log = filter (λ x. x.0 == n) log

  -- what a token of this number entered; a note enters nothing
  abbrev pub own_of : Bool → ℕ → List (ℕ × E) → List (ℕ × E)
  own_of true n log = []
  own_of false n log = entered_by n log

  -- no entry is under a greater number
  abbrev pub NumbersUpTo : ℕ → List (ℕ × E) → Type 0
  NumbersUpTo n log = All (λ x. x.0 ≤ n) log

-- the longer of two lists
abbrev pub longer : {A : Type 0} → List A → List A → List A
longer xs ys = if nat_lt (length xs) (length ys) then ys else xs
