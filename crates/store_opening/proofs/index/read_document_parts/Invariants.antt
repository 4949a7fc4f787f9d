use Rattle.std.proofs.Common.{◌≡◌, Some, map, take, drop}
use Rattle.std.specs.Arc.{arc_value}
use Rattle.std.specs.List.{AllZip}
use Rattle.facet_disk.specs.declared.name.Dir.TheVariants.{Index}
use Rattle.facet_disk.specs.Images.{Told}
use Rattle.store_opening.specs.Files.{segments_in, segments_of}
use Rattle.store_opening.specs.Newest.{AreListed, IsNamedAs}
use Rattle.store_opening.specs.Quiet.{IsQuiet}
use Rattle.store_opening.proofs.Loops.{behind}
use Rattle.store_opening.proofs.index.read_document_parts.Given as goal

abbrev pub invariant-loop-part : goal.invariant-loop-part
invariant-loop-part g l = record {
  read : (s : Told) → g.D.Disk.told l.fn.disk ≡ Some s → AreListed s.files l.listed
      → behind (map arc_value l.segments.items) (segments_of l.config l.labels l.needs (segments_in Index s.files) (drop l.part-index l.parts)) ≡ segments_of l.config l.labels l.needs (segments_in Index s.files) l.parts;
  named : AllZip (IsNamedAs l.config l.labels) (take l.part-index l.parts) (map arc_value l.segments.items);
  still : g.D.Disk.faults l.disk ≡ g.D.Disk.faults l.fn.disk;
  unfailed : g.D.Disk.failures l.disk ≡ g.D.Disk.failures l.fn.disk;
  quiet : IsQuiet g.D.Disk l.fn.disk l.disk;
}
