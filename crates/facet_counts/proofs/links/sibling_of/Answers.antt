use Rattle.std.proofs.Common.{arith, ap, ◌∙◌}
use Rattle.std.proofs.lemmas.Int.{to_z-of_z}
use mir.Syntax.{w32}
use Rattle.taxo_list.specs.Links.{ordinal}
use Rattle.taxo_list.proofs.Linked.{as_many_parents}
use Rattle.facet_counts.proofs.Entries.{sibling_entry}
use Rattle.facet_counts.proofs.links.sibling_of.Goals as goal

pub sibling-requires : goal.sibling-requires
sibling-requires c = omega (arith, as_many_parents c.args.view.now c.arrays.result.now c.arrays.ensures.arrays, c.requires)

pub returns : goal.returns
returns c = c.entry.ensures ∙ ap ordinal (to_z-of_z w32 c.sibling.result (record { sfits = c.sibling.type_inv }) ∙ c.sibling.ensures) ∙ sibling_entry c.args.view.now c.arrays.result.now c.arrays.ensures.arrays c.args.ord c.requires
