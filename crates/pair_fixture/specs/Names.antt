-- The names of what a session adds.
use Rattle.std.specs.Prelude.{◌≡◌, ◌<◌, ◌^◌, ℕ, List, [], ◌∷◌, ◌++◌, codes}
use Rattle.std.specs.Fmt.{decimal}

-- the session's number, a space and the number of what it adds
abbrev pub name_of : ℕ → ℕ → List ℕ
name_of session number = decimal session ++ (codes " " ++ decimal number)

-- the label of that name, under one dimension
abbrev pub label_of : ℕ → ℕ → List (List ℕ)
label_of session number = codes "Name" ∷ name_of session number ∷ []

-- labels of different sessions or numbers are different
abbrev pub LabelsDiffer : Type 0
LabelsDiffer = (session number other next : ℕ) → session < 2 ^ 32 → number < 2 ^ 32 → other < 2 ^ 32 → next < 2 ^ 32
    → label_of session number ≡ label_of other next → (session ≡ other) × (number ≡ next)
