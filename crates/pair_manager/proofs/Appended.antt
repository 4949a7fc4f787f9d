-- How many documents there may be, and whether one more fits.
use Rattle.std.proofs.Common.{◌≡◌, ◌≢◌, ◌∙◌, ◌<◌, ◌≤◌, ℕ, zero, suc, List, [], ◌∷◌, Result, Ok, Err, sym, subst, arith}
use Rattle.std.specs.Prelude.{All}
use native.Mathlib.Decide.{dec_lt}
use mathlib.Core.Logic.{dite}
use Rattle.index_state.specs.declared.fault.AppendFault.{AppendFault}
use Rattle.index_state.specs.declared.fault.AppendFault.TheVariants.{DocsFull, NoMemory}

-- what holds of one holds of all that stand in a list of it alone
pub all_one : {X : Type 0} (P : X → Type 0) (x : X) → P x → All P (x ∷ [])
all_one P x p zero d lt = p
all_one P x p (suc k) d lt = absurd (omega arith)

-- and back
pub only_one : (P : ℕ → Type 0) (numbers : List ℕ) (n : ℕ) → numbers ≡ n ∷ [] → All P numbers → P n
only_one P numbers n is all = let one : All P (n ∷ []) = subst (All P) is all in one 0 n (omega arith)

-- where a document was appended there was room for it
pub room_left : (most many at : ℕ) → (most ≤ many → (let x : Result ℕ AppendFault = Ok at in x) ≡ Err (DocsFull many)) → many < most
room_left most many at full = dite (dec_lt many most) (λ lt. lt) (λ none. absurd (apart (full (omega (arith, none)))))
  where
    apart : (let x : Result ℕ AppendFault = Ok at in x) ≡ Err (DocsFull many) → ⊥
    apart e = cc

-- a fault that tells a number of documents tells how many there are, which are no fewer than there may be
pub is_full : (most many count : ℕ) (fault : AppendFault) → fault ≡ DocsFull count → (fault ≢ NoMemory → (fault ≡ DocsFull many) × (most ≤ many)) → (count ≡ many) × (most ≤ count)
is_full most many count fault is refused =
    let full = refused (λ memory. apart count (sym is ∙ memory)) in
    let number : count ≡ many = same count many (sym is ∙ full.0) in
    (number, omega (arith, number, full.1))
  where
    apart : (count : ℕ) → DocsFull count ≡ NoMemory → ⊥
    apart count e = cc

    same : (a b : ℕ) → DocsFull a ≡ DocsFull b → a ≡ b
    same a b e = cc
