-- Files, and the commits that name them.
use Rattle.std.specs.Prelude.{◌≡◌, ℕ, Ok}
use Rattle.facet_disk.specs.declared.name.Dir.TheVariants.{Taxonomy, Index}
use Rattle.facet_disk.specs.declared.disk.Disk.{Ghosts}
use Rattle.facet_disk.specs.Images.{Image, Told}
use Rattle.facet_model.specs.Flags.{Config}
use Rattle.commit_calls.specs.Held.{Held, Below, Stands}
use Rattle.commit_calls.specs.Moments.{IsAt}
use Rattle.store_opening.specs.Files.{Found, files, files_of}
use Rattle.store_opening.specs.Quiet.{IsQuiet}
use Rattle.store_opening.specs.Settled.{IsSettled, held_in}

-- an image with what two directories hold represents the store of these
abbrev pub StandsForHeld : Type 0
StandsForHeld = (config : Config) (next : ℕ) (taxonomy index : Held) (c : Image) (f : Found)
    → Stands next taxonomy index c → files_of config taxonomy index ≡ Ok f → files config c ≡ Ok f

-- what an image represents is what its directories hold
abbrev pub HoldsFiles : Type 0
HoldsFiles = (config : Config) (c : Image) (f : Found) → files config c ≡ Ok f
    → files_of config (held_in Taxonomy c) (held_in Index c) ≡ Ok f

-- each image of a settled disk has what the directories hold as they read, and the numbers above all that are listed
-- are free
abbrev pub SettledStands : {D : Type 0} → Ghosts D → D → Type 0
SettledStands disk now = (config : Config) (s : Told) (f : Found) (next : ℕ) → IsSettled disk config s now
    → files config s.files ≡ Ok f → Below next s.files
    → IsAt disk.may_leave next (held_in Taxonomy s.files) (held_in Index s.files) now

-- a disk is settled if each of its images has what two directories hold, and that is a store
abbrev pub StandsSettles : {D : Type 0} → Ghosts D → D → Type 0
StandsSettles disk now = (config : Config) (s : Told) (f : Found) (next : ℕ) (taxonomy index : Held)
    → disk.may_leave now s.files
    → IsAt disk.may_leave next taxonomy index now → files_of config taxonomy index ≡ Ok f → IsSettled disk config s now

-- so is a disk whose only image is what it reads, such as an empty one, or one after a crash
abbrev pub OneImageSettles : {D : Type 0} → Ghosts D → D → Type 0
OneImageSettles disk now = (config : Config) (s : Told) → ((c : Image) → disk.may_leave now c → c ≡ s.files)
    → IsSettled disk config s now

-- a settled disk stays settled if nothing is changed
abbrev pub QuietStays : {D : Type 0} → Ghosts D → D → D → Type 0
QuietStays disk old new = (config : Config) (s : Told) → IsQuiet disk old new → IsSettled disk config s old
    → IsSettled disk config s new
