use Rattle.std.proofs.Common.{◌≡◌, ◌-◌, ◌≤◌}
use Rattle.facet_codec.proofs.Lists.{with_front}
use Rattle.commit_file.specs.LiveParts.{with_live}
use Rattle.commit_file.specs.Reading.{each_at, part_at, parts_at}
use Rattle.commit_file.proofs.parts.parts.Given as goal

abbrev pub invariant-loop : goal.invariant-loop
invariant-loop l = record {
  few : l.before ≤ 1000000;
  read : with_front l.parts.items (each_at (λ _. part_at l.version) with_live (l.n - l.counter) l.before l.cursor) ≡ parts_at l.version l.n l.fn.cursor;
}
