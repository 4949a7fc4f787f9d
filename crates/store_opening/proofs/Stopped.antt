-- A disk in memory has no other image, after a crash, than it reads.
use Rattle.std.proofs.Common.{◌≡◌, List, [], ◌∷◌}
use Rattle.facet_disk.specs.Images.{Image}
use Rattle.facet_disk.specs.declared.change.Noted.{Noted}
use Rattle.facet_disk.specs.Memory.{MemoryState, memory_told}
use Rattle.facet_disk.specs.Record.{told_after, leaves_after, told_at_first, held, only}
use Rattle.store_opening.specs.Stopped.{memory_disk, StoppedSettles}
use Rattle.store_opening.proofs.Held.{alone_settled}

one_image : (files c : Image) (changes : List Noted) → changes ≡ [] → leaves_after (told_at_first files) (only files) changes c → c ≡ (told_after (told_at_first files) changes).files
one_image files c [] none left = left
one_image files c (noted ∷ changes) none left = absurd (cc none)

pub stopped_settled : (d : MemoryState) → StoppedSettles d
stopped_settled d none config = alone_settled memory_disk d config (memory_told d) (λ c left. one_image (held d.start) c d.changes none left)
