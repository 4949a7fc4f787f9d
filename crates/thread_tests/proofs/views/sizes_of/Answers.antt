use Rattle.std.proofs.Common.{sym, subst}
use mathlib.Core.List.{IsPrefix}
use Rattle.taxo_cache.specs.Seen.{labels_of}
use Rattle.taxo_adding.proofs.Growing.{labels_begin}
use Rattle.thread_tests.proofs.views.sizes_of.Goals as goal

pub snapshot_from-requires-clause-last : goal.snapshot_from-requires-clause-last
snapshot_from-requires-clause-last g c =
    let now = c.resolve_each-2.new.token.seen in
    subst (λ v. IsPrefix v (labels_of now)) (sym c.in-Ok.ensures.view) (labels_begin c.snapshot.new.token.seen now c.resolve_each-2.ensures.more)
