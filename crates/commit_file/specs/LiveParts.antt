-- Segments of documents, some of whose records may no longer be live.
use Rattle.std.specs.Prelude.{ℕ, ◌+◌, ◌-◌, List, length}
use Rattle.commit_file.specs.declared.index.DocumentPart.{DocumentPart}

-- a segment of documents, and the places of its records that are not live
pub record LivePart : Type 0 where
  pub part : DocumentPart
  pub dead : List ℕ

-- how many of its records are live
abbrev pub live_of : LivePart → ℕ
live_of p = p.part.documents - length p.dead

-- the live records of a segment and of those before it
abbrev pub with_live : ℕ → LivePart → ℕ
with_live before p = before + live_of p
