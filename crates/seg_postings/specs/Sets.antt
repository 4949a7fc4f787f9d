-- Rising lists as sets.
use Rattle.std.specs.Prelude.{ℕ, Bool, not, List, [], ◌∷◌, nat_lt, ◌==◌, if◌then◌else◌}
use Rattle.std.specs.List.{filter}
use Rattle.seg_postings.specs.Rising.{is_in}

-- the numbers of xs that pass the test of whether they are in ys
unfoldable pub picked : (Bool → Bool) → List ℕ → List ℕ → List ℕ
picked test xs ys = filter (λ x. test (is_in x ys)) xs

-- the numbers of xs that are not in ys
unfoldable pub without : List ℕ → List ℕ → List ℕ
without xs ys = picked not xs ys

-- a rising list with x at its place, once
unfoldable pub put_in : ℕ → List ℕ → List ℕ
put_in x [] = x ∷ []
put_in x (y ∷ ys) = if nat_lt x y then x ∷ y ∷ ys else (if x == y then y ∷ ys else y ∷ put_in x ys)

-- the numbers that are in one or in both, each once
unfoldable pub either : List ℕ → List ℕ → List ℕ
either [] ys = ys
either (x ∷ xs) ys = put_in x (either xs ys)
