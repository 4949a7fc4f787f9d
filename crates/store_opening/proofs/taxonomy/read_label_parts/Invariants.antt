use Rattle.std.proofs.Common.{◌≡◌, [], ◌∷◌, ◌<◌, Some, length, drop}
use Rattle.facet_disk.specs.declared.name.Dir.TheVariants.{Taxonomy}
use Rattle.facet_disk.specs.Images.{Told}
use Rattle.facet_names.specs.Labels.{IsLabelList}
use Rattle.commit_file.specs.Commits.{AreInOrder}
use Rattle.store_opening.specs.Files.{segments_in, labels_of}
use Rattle.store_opening.specs.Newest.{AreListed}
use Rattle.store_opening.specs.Quiet.{IsQuiet}
use Rattle.store_opening.proofs.taxonomy.read_label_parts.Given as goal

abbrev pub invariant-loop-part : goal.invariant-loop-part
invariant-loop-part g l = record {
  read : (s : Told) → g.D.Disk.told l.fn.disk ≡ Some s → AreListed s.files l.listed → labels_of (segments_in Taxonomy s.files) l.labels (drop l.part-index l.parts) ≡ labels_of (segments_in Taxonomy s.files) ([] ∷ []) l.parts;
  list : IsLabelList l.labels;
  many : l.part-index < length l.labels;
  order : AreInOrder l.total (length l.labels) (drop l.part-index l.parts);
  still : g.D.Disk.faults l.disk ≡ g.D.Disk.faults l.fn.disk;
  unfailed : g.D.Disk.failures l.disk ≡ g.D.Disk.failures l.fn.disk;
  quiet : IsQuiet g.D.Disk l.fn.disk l.disk;
}
