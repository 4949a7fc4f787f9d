-- Values of one kind, one after the other.
use Rattle.std.specs.Prelude.{◌≡◌, ℕ, zero, suc, ◌+◌, List, [], ◌∷◌, length, Result, Ok}
use Rattle.std.specs.List.{AllByRecursion}
use Rattle.facet_codec.specs.Places.{Place}
use Rattle.facet_codec.specs.Reading.{◌>>=◌}

-- so many values, or the first fault among them
unfoldable pub list_at : {A F : Type 0} → (Place → Result (A × Place) F) → ℕ → Place → Result (List A × Place) F
list_at read zero p = Ok ([], p)
list_at read (suc n) p = do
  first ← read p
  others ← list_at read n first.1
  Ok (first.0 ∷ others.0, others.1)

-- so many values, each of which fits
pub record AreSoMany {A : Type 0} (Fits : A → Type 0) (n : ℕ) (xs : List A) : Type 0 where
  pub count : length xs ≡ n
  pub fit : AllByRecursion Fits xs

-- where the spelling of each value begins, the first of them at `at`
abbrev pub offsets : {A : Type 0} → (A → List ℕ) → ℕ → List A → List ℕ
offsets spell at [] = []
offsets spell at (x ∷ xs) = at ∷ offsets spell (at + length (spell x)) xs
