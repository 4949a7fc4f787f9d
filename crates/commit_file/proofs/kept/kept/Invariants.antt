use Rattle.std.proofs.Common.{◌≡◌, ◌++◌, map}
use Rattle.std.specs.List.{filter}
use Rattle.commit_file.specs.Commits.{declaration, entry, is_some_set}
use Rattle.commit_file.proofs.kept.kept.Given as goal

abbrev pub invariant-loop-dim : goal.invariant-loop-dim
invariant-loop-dim l = map declaration l.kept.items ++ filter (λ d. is_some_set d.1) (map entry l.dim-iterator) ≡ filter (λ d. is_some_set d.1) (map entry l.initial.dim-iterator)
