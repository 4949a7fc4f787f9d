-- What a crash leaves by a pick, in terms of when each name was last settled.
use Rattle.std.specs.Prelude.{◌≡◌, ◌≢◌, ◌⊎◌, ◌<◌, ◌≤◌, ◌+◌, ◌||◌, ℕ, List, Some, Bool, true, false, take, length}
use Rattle.std.specs.Prelude.{slice_get}
use Rattle.facet_disk.specs.declared.name.FileName.{FileName}
use Rattle.facet_disk.specs.declared.change.Noted.{Noted}
use Rattle.facet_disk.specs.declared.change.Change.{Change}
use Rattle.facet_disk.specs.declared.change.Change.TheVariants.{Put, Synced, Renamed, NamesSynced, Removed}
use Rattle.facet_disk.specs.declared.stopped.Pick.{Pick}
use Rattle.facet_disk.specs.FileNames.{same_name}
use Rattle.facet_disk.specs.Images.{Image}
use Rattle.facet_disk.specs.Record.{told_after, told_at_first}
use Rattle.facet_disk.specs.Stopped.{picked}

-- the change gives this name a file, moves it or removes it
abbrev pub touches : FileName → Change → Bool
touches name (Put put bytes) = same_name name put
touches name (Synced synced) = false
touches name (Renamed from to) = same_name name from || same_name name to
touches name (NamesSynced dir) = false
touches name (Removed removed) = same_name name removed

-- the change puts a file
abbrev pub is_put : Change → Bool
is_put (Put put bytes) = true
is_put (Synced synced) = false
is_put (Renamed from to) = false
is_put (NamesSynced dir) = false
is_put (Removed removed) = false

-- the last change that touches the name is a put, or none touches it
abbrev pub IsInPlace : List Noted → FileName → Type 0
IsInPlace changes name = (i : ℕ) (noted : Noted) → slice_get changes i ≡ Some noted → touches name noted.change ≡ true
    → ((j : ℕ) (later : Noted) → i < j → slice_get changes j ≡ Some later → touches name later.change ≡ false)
    → is_put noted.change ≡ true

-- After this change the name is as it reads, whether or not renames and removals before it happened: its file is put or
-- synced, the names
-- of its directory are synced, a file there is synced that is not where it was put, or a file goes from one directory
-- to the other.
abbrev pub Settles : List Noted → Change → FileName → Type 0
Settles before (Put put bytes) name = name ≡ put
Settles before (Synced synced) name = (name ≡ synced) ⊎ ((name.dir ≡ synced.dir) × ¬ IsInPlace before synced)
Settles before (Renamed from to) name = from.dir ≢ to.dir
Settles before (NamesSynced dir) name = name.dir ≡ dir
Settles before (Removed removed) name = ⊥

-- so many changes had been made when the name was last settled; none if it was not settled since the beginning
pub record IsLastSettled (changes : List Noted) (name : FileName) (k : ℕ) : Type 0 where
  pub within : k ≤ length changes
  pub settled : (i : ℕ) (noted : Noted) → k ≡ i + 1 → slice_get changes i ≡ Some noted
      → Settles (take i changes) noted.change name
  pub since : (i : ℕ) (noted : Noted) → k ≤ i → slice_get changes i ≡ Some noted
      → ¬ Settles (take i changes) noted.change name

-- What a crash leaves by a pick: with `names_done` each name is as it reads, and otherwise as it read when it was last
-- settled.
-- The pick decides on a file that was not synced then.
pub record IsLeft (start : Image) (changes : List Noted) (pick : Pick) (image : Image) : Type 0 where
  pub done : pick.names_done ≡ true → image ≡ picked pick.files (told_after (told_at_first start) changes)
  pub undone : pick.names_done ≡ false → (name : FileName) (k : ℕ) → IsLastSettled changes name k
      → image name ≡ picked pick.files (told_after (told_at_first start) (take k changes)) name
  pub last : (name : FileName) → (k : ℕ) × IsLastSettled changes name k
