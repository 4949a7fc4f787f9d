use Rattle.std.proofs.Common.{◌≡◌, ◌∙◌, ap, sym}
use Rattle.facet_names.specs.Labels.{above, stands}
use Rattle.taxo_list.proofs.Labels.{parent_is_above}
use Rattle.taxo_list.proofs.taxonomy.Taxonomy.parent_of.Goals as goal

pub unwrap-requires : goal.unwrap-requires
unwrap-requires c =
    let same : c.in-Some.parent ≡ above c.args.path.now = parent_is_above c.args.path.now c.in-Some.parent (sym c.in_ok-parent.ensures ∙ c.in-Some.is) in
    c.find.ensures.there ∙ ap (stands c.args.self.now) same ∙ c.requires
