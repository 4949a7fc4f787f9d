use Rattle.std.proofs.Common.{◌≡◌, map, take, slice_get, Some}
use Rattle.seg_decoding.proofs.entries.labels_at.Given as goal

abbrev pub invariant-loop-ord : goal.invariant-loop-ord
invariant-loop-ord g l = map (slice_get (g.L.Labelled.labels l.labels)) (take l.ord-index l.ordinals) ≡ map Some l.copies.items
