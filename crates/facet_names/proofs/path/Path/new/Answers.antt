use Rattle.std.proofs.Common.{rules, string_bytes}
use Rattle.facet_names.specs.Paths.{texts}
use Rattle.facet_names.specs.Faults.{IsPath}
use Rattle.facet_names.proofs.Blocks.{path_block}
use Rattle.facet_names.proofs.path.Path.new.Goals as goal

pub invariant_of-result : goal.invariant_of-result
invariant_of-result c = let fits : IsPath (texts c.args.parts.now) = search rules in (path_block (string_bytes c.in_ok-text.text) (texts c.args.parts.now) fits c.in_ok-text.ensures).0

pub returns-clause-ok : goal.returns-clause-ok
returns-clause-ok c = let fits : IsPath (texts c.args.parts.now) = search rules in (path_block (string_bytes c.in_ok-text.text) (texts c.args.parts.now) fits c.in_ok-text.ensures).1
