use Rattle.std.proofs.Common.{rules}
use Rattle.facet_names.specs.Blocks.{parts_of}
use Rattle.facet_names.specs.Faults.{IsPath}
use Rattle.facet_names.proofs.Blocks.{some_in}
use Rattle.facet_names.proofs.path.Path.dim.Goals as goal
use Rattle.facet_names.proofs.LabelLists.{path_has_part}

pub cut-requires-clause-some : goal.cut-requires-clause-some
cut-requires-clause-some c =
    let fits : IsPath (parts_of c.deref.result.now) = search rules in
    some_in c.deref.result.now (path_has_part (parts_of c.deref.result.now) fits)
