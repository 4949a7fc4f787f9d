use Rattle.std.proofs.Common.{arith, ap, ◌∙◌}
use Rattle.std.proofs.lemmas.Int.{to_z-of_z}
use mir.Syntax.{w32}
use Rattle.taxo_list.specs.Links.{ordinal}
use Rattle.taxo_list.proofs.Linked.{as_many_parents}
use Rattle.facet_counts.proofs.Entries.{child_entry}
use Rattle.facet_counts.proofs.links.child_of.Goals as goal

pub child-requires : goal.child-requires
child-requires c = omega (arith, as_many_parents c.args.view.now c.arrays.result.now c.arrays.ensures.arrays, c.requires)

pub returns : goal.returns
returns c = c.entry.ensures ∙ ap ordinal (to_z-of_z w32 c.child.result (record { sfits = c.child.type_inv }) ∙ c.child.ensures) ∙ child_entry c.args.view.now c.arrays.result.now c.arrays.ensures.arrays c.args.ord c.requires
