-- Counts of faults.
use Rattle.std.specs.Prelude.{◌≡◌, ◌<◌, ◌≤◌, ◌-◌, ◌^◌, ◌⊎◌, ℕ}

-- A count rose, or it stays at the greatest value of 64 bits.
abbrev pub Rose : ℕ → ℕ → Type 0
Rose before now = (before < now) ⊎ (2 ^ 64 - 1 ≤ now)

-- A count of faults does not fall. It rose if the call failed, and stays otherwise.
pub record CountsFaults (before now : ℕ) (failed : Type 0) : Type 0 where
  pub later : before ≤ now
  pub cause : failed → Rose before now
  pub still : (failed → ⊥) → now ≡ before
