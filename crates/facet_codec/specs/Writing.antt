-- What a call that appends does.
use Rattle.std.specs.Prelude.{◌≡◌, ℕ, List, ◌++◌, Result, Ok, Err}

-- After `Ok` the spelling was appended, and after an error the items are as before.
abbrev pub Appends : {A F : Type 0} → List ℕ → Result A F → List ℕ → List ℕ → Type 0
Appends spelling (Ok x) old new = new ≡ old ++ spelling
Appends spelling (Err e) old new = new ≡ old
