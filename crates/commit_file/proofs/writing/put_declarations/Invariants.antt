use Rattle.std.proofs.Common.{◌≡◌, ◌++◌, map, take}
use Rattle.std.specs.List.{flat_map, AllByRecursion}
use Rattle.commit_file.specs.Commits.{declaration}
use Rattle.commit_file.specs.Limits.{IsDeclaration}
use Rattle.commit_file.specs.Spelling.{declaration_bytes}
use Rattle.commit_file.proofs.writing.put_declarations.Given as goal

abbrev pub invariant-loop-one : goal.invariant-loop-one
invariant-loop-one l = record {
  bytes : l.out.items ≡ l.fn.out.items ++ flat_map declaration_bytes (map declaration (take l.one-index l.kept));
  fit : AllByRecursion IsDeclaration (map declaration (take l.one-index l.kept));
}
