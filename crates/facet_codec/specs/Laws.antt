-- How reading and spelling are related.
use Rattle.std.specs.Prelude.{◌≡◌, ℕ, ◌+◌, ◌<◌, ◌≤◌, true, List, ◌++◌, length, Result, Ok}
use Rattle.std.specs.Str.{is_utf8}
use Rattle.facet_codec.specs.Places.{Place, IsBytes}

-- Reading came from p to q, and what it took is spelled so.
pub record Takes (p : Place) (spelling : List ℕ) (q : Place) : Type 0 where
  pub rest : p.rest ≡ spelling ++ q.rest
  pub at : q.at ≡ p.at + length spelling
  pub bytes : IsBytes q.rest

-- What a successful read took is the spelling of its value, which fits. So a value has one spelling.
abbrev pub IsSpelled : {A F : Type 0} → (Place → Result (A × Place) F) → (A → List ℕ) → (A → Type 0) → Type 0
IsSpelled {A} read spell Fits = (p : Place) (x : A) (q : Place) → IsBytes p.rest → read p ≡ Ok (x, q)
    → Takes p (spell x) q × Fits x

-- Reading a spelling and whatever follows returns the value and leaves what follows.
abbrev pub ReadsBack : {A F : Type 0} → (Place → Result (A × Place) F) → (A → List ℕ) → (A → Type 0) → Type 0
ReadsBack {A} read spell Fits = (at : ℕ) (x : A) (rest : List ℕ) → Fits x
    → read (record { at = at; rest = spell x ++ rest }) ≡ Ok (x, record { at = at + length (spell x); rest = rest })

-- a number below a bound
abbrev pub IsBelow : ℕ → ℕ → Type 0
IsBelow n x = x < n

-- so many bytes
abbrev pub HasLength : ℕ → List ℕ → Type 0
HasLength n bytes = length bytes ≡ n

-- a text of at most so many bytes
pub record IsText (max : ℕ) (bytes : List ℕ) : Type 0 where
  pub length : length bytes ≤ max
  pub utf8 : is_utf8 bytes ≡ true
