-- The place of reading.
use Rattle.std.specs.Prelude.{ℕ, ◌+◌, ◌<◌, List, drop, get_or}

-- how many bytes were read, and the bytes that are left
pub record Place : Type 0 where
  pub at : ℕ
  pub rest : List ℕ

-- after the next n bytes
abbrev pub skip : ℕ → Place → Place
skip n p = record { at = p.at + n; rest = drop n p.rest }

-- each number is below 256
abbrev pub IsBytes : List ℕ → Type 0
IsBytes bytes = (i : ℕ) → get_or bytes i 0 < 256
