-- The disk calls of a plan in their order, and calls that ended early.
use Rattle.std.specs.Prelude.{◌≡◌, ◌⊎◌, ◌+◌, ◌*◌, ◌++◌, ◌∷◌, [], ℕ, List, length, map, Option, Some, None}
use Rattle.std.specs.List.{flat_map}
use Rattle.facet_disk.specs.declared.disk.Disk.{Ghosts}
use Rattle.facet_disk.specs.declared.name.Dir.{Dir}
use Rattle.facet_disk.specs.declared.name.Dir.TheVariants.{Taxonomy, Index}
use Rattle.facet_disk.specs.declared.name.Kind.TheVariants.{Pending, Commit}
use Rattle.facet_disk.specs.declared.name.FileName.{FileName}
use Rattle.facet_disk.specs.declared.fault.DiskFault.{DiskFault}
use Rattle.facet_disk.specs.declared.fault.DiskFault.TheVariants.{Failed}
use Rattle.facet_disk.specs.Calls.{Rose}
use Rattle.facet_disk.specs.Images.{Told, put_in, half_put_in, synced_in, renamed_in, removed_in}
use Rattle.commit_calls.specs.declared.plan.Write.{Write}
use Rattle.commit_calls.specs.declared.plan.Plan.{Plan}
use Rattle.commit_calls.specs.Held.{file}

-- an I/O error happened, and the count of failures rose
abbrev pub IsFailure : ℕ → ℕ → DiskFault → Type 0
IsFailure before now e = (e ≡ Failed) × Rose before now

-- a disk call that may change something
pub data Call : Type 0 where
  put : FileName → List ℕ → Call
  sync : FileName → Call
  rename : FileName → FileName → Call
  sync_names : Dir → Call
  remove : FileName → Call

-- what the disk reads after a call
abbrev pub told_by : Call → Told → Told
told_by (put name bytes) s = put_in s name bytes
told_by (sync name) s = synced_in s name
told_by (rename from to) s = renamed_in s from to
told_by (sync_names dir) s = s
told_by (remove name) s = removed_in s name

-- what the disk reads after these calls
abbrev pub told_by_all : List Call → Told → Told
told_by_all [] s = s
told_by_all (call ∷ calls) s = told_by_all calls (told_by call s)

-- what may be read after a failed call: a file may be written or half written, a rename or removal may have happened
abbrev pub IsFailed : Call → Told → Option Told → Type 0
IsFailed (put name bytes) s now = (now ≡ Some s) ⊎ (now ≡ Some (half_put_in s name))
    ⊎ ((any : List ℕ) × (now ≡ Some (put_in s name any)))
IsFailed (sync name) s now = now ≡ Some s
IsFailed (rename from to) s now = (now ≡ Some s) ⊎ (now ≡ Some (renamed_in s from to))
IsFailed (sync_names dir) s now = now ≡ Some s
IsFailed (remove name) s now = (now ≡ Some s) ⊎ (now ≡ Some (removed_in s name))

-- the calls of a file: it is written, and then synced
abbrev pub file_calls : FileName → List ℕ → List Call
file_calls name bytes = put name bytes ∷ sync name ∷ []

-- the calls of a part: its pending file becomes its commit file, then the directory's names are synced; none if it is
-- left out
abbrev pub part_calls : Dir → Option ℕ → List Call
part_calls dir None = []
part_calls dir (Some n) = rename (file dir Pending n) (file dir Commit n) ∷ sync_names dir ∷ []

-- the calls of the files of a plan
abbrev pub files_calls : List Write → List Call
files_calls = flat_map (λ w. file_calls w.name w.bytes.items)

-- the calls of a plan: its files, the taxonomy's part, the index's, and its strays
abbrev pub calls_of : Plan → List Call
calls_of p = files_calls p.writes.items ++ (part_calls Taxonomy p.taxonomy
    ++ (part_calls Index p.index ++ map remove p.strays.items))

-- how many calls a part makes
abbrev pub part_count : Option ℕ → ℕ
part_count None = 0
part_count (Some n) = 2

-- how many calls a plan makes: two for each file, two for each part that is not left out, and one for each stray
abbrev pub call_count : Plan → ℕ
call_count p = 2 * length p.writes.items + part_count p.taxonomy + part_count p.index + length p.strays.items

-- The first of these calls succeeded, the next one failed, and none was made after it.
pub record StopsAt {D : Type 0} (disk : Ghosts D) (calls : List Call) (old new : D) : Type 0 where
  pub made : List Call
  pub failed : Call
  pub left : List Call
  pub split : calls ≡ made ++ failed ∷ left
  pub moment : disk.moment new ≡ disk.moment old + length made + 1
  pub told : (s : Told) → disk.told old ≡ Some s → IsFailed failed (told_by_all made s) (disk.told new)
