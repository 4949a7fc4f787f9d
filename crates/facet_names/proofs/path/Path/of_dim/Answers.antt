use Rattle.std.proofs.Common.{rules, ◌∷◌, [], ◌∙◌, string_bytes}
use Rattle.facet_names.specs.Faults.{IsPath}
use Rattle.facet_names.proofs.Blocks.{empty_block, one_block, path_block}
use Rattle.facet_names.proofs.path.Path.of_dim.Goals as goal

pub block_with-requires-clause-is : goal.block_with-requires-clause-is
block_with-requires-clause-is c = empty_block

pub invariant_of-result : goal.invariant_of-result
invariant_of-result c = let fits : IsPath (c.args.dim.now ∷ []) = search rules in (path_block (string_bytes c.in_ok-text.text) (c.args.dim.now ∷ []) fits (c.in_ok-text.ensures ∙ one_block c.args.dim.now)).0

pub returns-clause-ok : goal.returns-clause-ok
returns-clause-ok c = let fits : IsPath (c.args.dim.now ∷ []) = search rules in (path_block (string_bytes c.in_ok-text.text) (c.args.dim.now ∷ []) fits (c.in_ok-text.ensures ∙ one_block c.args.dim.now)).1
