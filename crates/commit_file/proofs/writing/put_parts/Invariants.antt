use Rattle.std.proofs.Common.{◌≡◌, ◌++◌, take}
use Rattle.std.specs.List.{flat_map, AllByRecursion}
use Rattle.commit_file.specs.Limits.{IsDocumentPart}
use Rattle.commit_file.specs.Spelling.{part_bytes}
use Rattle.commit_file.proofs.writing.put_parts.Given as goal

abbrev pub invariant-loop-part : goal.invariant-loop-part
invariant-loop-part l = record {
  bytes : l.out.items ≡ l.fn.out.items ++ flat_map (part_bytes 2) (take l.part-index l.parts);
  fit : AllByRecursion (λ p. IsDocumentPart p.part) (take l.part-index l.parts);
}
