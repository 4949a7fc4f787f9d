use Rattle.std.proofs.Common.{◌≡◌, ◌≤◌, ◌++◌, length, take, drop}
use Rattle.std.specs.List.{flat_map, AllByRecursion}
use Rattle.label_file.specs.LabelBytes.{IsStorable, label_bytes}
use Rattle.label_file.proofs.writing.put_labels.Given as goal

abbrev pub invariant-loop-ord : goal.invariant-loop-ord
invariant-loop-ord l = record {
  bytes : l.out.items ≡ l.fn.out.items ++ flat_map (label_bytes l.view) (drop l.first (take l.ord l.view));
  fit : AllByRecursion IsStorable (drop l.first (take l.ord l.view));
  within : l.ord ≤ length l.view;
}
