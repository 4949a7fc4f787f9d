use Rattle.std.proofs.Common.{subst}
use Rattle.std.specs.Prelude.{flat_map}
use Rattle.chronicle.specs.History.{entries}
use Rattle.chronicle.proofs.Prefixes.{prefix_self}
use Rattle.facet_names.specs.Labels.{prefixes}
use Rattle.taxo_adding.specs.Several.{AddsInTurn}
use Rattle.pair_manager.specs.Passes.{Managed}
use Rattle.pair_manager.proofs.Publishing.{still_right}
use Rattle.pair_manager.proofs.manager.Manager.resolve_each.Goals as goal

pub invariant_of-pass-clause-right : goal.invariant_of-pass-clause-right
invariant_of-pass-clause-right g c =
    let pass = c.args.pass.now in
    still_right pass.labels.seen c.resolve_each.new.token.seen pass.operations.seen pass.operations.seen c.resolve_each.ensures.more (prefix_self pass.operations.seen) (entries pass.pairs.seen) pass.right

pub returns-clause-adds : goal.returns-clause-adds
returns-clause-adds g c =
    subst (λ (m : Managed). AddsInTurn (flat_map prefixes c.args.paths.now) m.writer.limit c.args.pass.now.labels c.resolve_each.new.token) c.self.view_is c.resolve_each.ensures.adds
