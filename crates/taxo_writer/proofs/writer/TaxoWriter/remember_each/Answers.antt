use Rattle.std.proofs.Common.{arith, List, ℕ, sym, subst}
use Rattle.facet_names.specs.Labels.{prefixes}
use Rattle.taxo_cache.specs.Seen.{labels_of}
use Rattle.taxo_adding.specs.Adding.{HaveOrdinals}
use Rattle.taxo_adding.specs.Several.{EachHaveOrdinals}
use Rattle.taxo_adding.proofs.Several.{as_many_resolved, each_at}
use Rattle.taxo_writer.proofs.writer.TaxoWriter.remember_each.Goals as goal

pub bounds-resolved-at : goal.bounds-resolved-at
bounds-resolved-at g c = omega (arith, as_many_resolved (labels_of c.args.token.now.seen) c.args.paths.now c.args.resolved.now c.requires.ordinals, c.loop-at-test.true)

pub remember_from-requires-clause-ordinals : goal.remember_from-requires-clause-ordinals
remember_from-requires-clause-ordinals g c =
    let paths = c.args.paths.now in
    let resolved = c.args.resolved.now in
    let at = c.loop-at.at in
    let all : EachHaveOrdinals (labels_of c.loop-at.token.seen) paths resolved = subst (λ t. EachHaveOrdinals (labels_of t.seen) paths resolved) (sym c.loop-at.invariant) c.requires.ordinals in
    let here : HaveOrdinals (labels_of c.loop-at.token.seen) (prefixes c.index-paths-at.result) c.index-resolved-at.result = each_at paths at c.index-paths-at.result c.loop-at-test.true (sym c.index-paths-at.is) (labels_of c.loop-at.token.seen) resolved c.index-resolved-at.result (sym c.index-resolved-at.is) all in
    subst (λ (r : List ℕ). HaveOrdinals (labels_of c.loop-at.token.seen) (prefixes c.index-paths-at.result) r) (sym c.prefixes.ensures) here
