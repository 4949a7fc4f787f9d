use Rattle.std.proofs.Common.{◌∙◌, ◌++◌, ap}
use Rattle.taxo_list.proofs.taxonomy.Taxonomy.view.Goals as goal

pub view_after-requires : goal.view_after-requires
view_after-requires c = record { last = (c.self.inside.labels.keys, ap (λ l. l ++ c.self.inside.labels.keys) c.in_ok-root.ensures ∙ c.self.view_is) }
