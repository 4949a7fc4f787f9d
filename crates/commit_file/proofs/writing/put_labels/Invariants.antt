use Rattle.std.proofs.Common.{◌≡◌, ◌++◌, take}
use Rattle.std.specs.List.{flat_map, AllByRecursion}
use Rattle.commit_file.specs.Limits.{IsLabelPart}
use Rattle.commit_file.specs.Spelling.{label_bytes}
use Rattle.commit_file.proofs.writing.put_labels.Given as goal

abbrev pub invariant-loop-part : goal.invariant-loop-part
invariant-loop-part l = record {
  bytes : l.out.items ≡ l.fn.out.items ++ flat_map label_bytes (take l.part-index l.parts);
  fit : AllByRecursion IsLabelPart (take l.part-index l.parts);
}
