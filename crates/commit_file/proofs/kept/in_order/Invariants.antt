use Rattle.std.proofs.Common.{◌≡◌, ◌≤◌, map, drop, length}
use Rattle.commit_file.specs.Commits.{entry, in_order}
use Rattle.commit_file.proofs.kept.in_order.Given as goal

abbrev pub invariant-loop-at : goal.invariant-loop-at
invariant-loop-at l = record {
  within : l.at ≤ length l.config;
  order : map entry l.all.entries ≡ in_order (drop l.at l.config);
}

abbrev pub decreases-loop-at : goal.decreases-loop-at
decreases-loop-at l = l.at
