use Rattle.std.proofs.Common.{◌≡◌, ◌-◌}
use Rattle.facet_codec.proofs.Lists.{with_front}
use Rattle.commit_file.specs.Commits.{end_of}
use Rattle.commit_file.specs.Reading.{each_at, label_part_at, label_parts_at}
use Rattle.commit_file.proofs.taxonomy.label_parts.Given as goal

abbrev pub invariant-loop-at : goal.invariant-loop-at
invariant-loop-at l = with_front l.parts.items (each_at (label_part_at l.labels) (λ _ part. end_of part) (l.n - l.at) l.start l.cursor) ≡ label_parts_at l.labels l.n l.fn.cursor
