-- Commit files that were read.
use Rattle.std.specs.Prelude.{ℕ, List}
use Rattle.store_opening.specs.declared.reading.CommitBytes.{CommitBytes}

-- the number and the bytes of a commit file
abbrev pub commit_bytes : CommitBytes → ℕ × List ℕ
commit_bytes f = (f.number, f.bytes.items)
