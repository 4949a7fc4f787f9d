use Rattle.std.proofs.Common.{rules, ◌≡◌, ◌∙◌, not, ap}
use Rattle.std.specs.BTreeSet.{difference}
use Rattle.std.specs.List.{filter}
use Rattle.facet_disk.specs.contracts.name.FileNameOrd.TheImpl as name_ord
use Rattle.commit_plan.specs.Strays.{is_among}
use Rattle.commit_plan.proofs.InOrder.{differ_same}
use Rattle.commit_plan.proofs.names.strays.Goals as goal

pub returns : goal.returns
returns c =
    let is : c.in_ok-names.names.items ≡ difference (name_ord.ghosts).cmp c.in_ok-listed.listed c.args.named.now = search rules in
    is ∙ differ_same c.args.named.now.keys c.in_ok-listed.listed.keys ∙ ap (filter (λ name. not (is_among c.args.named.now.keys name))) c.in_ok-listed.ensures
