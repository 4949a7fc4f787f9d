use Rattle.std.proofs.Common.{◌≤◌, ◌∙◌, List, ℕ, length, ap, sym, subst}
use Rattle.std.specs.Prelude.{All}
use Rattle.std.specs.List.Sorted.{IsStrictlyIncreasing}
use Rattle.facet_config.specs.Expanding.{AreAsLong}
use Rattle.seg_documents.proofs.Few.{counted_few, counted_rise}
use Rattle.seg_documents.proofs.Ordinals.{resolved_as_long}
use Rattle.seg_documents.specs.Entries.{IsShort}
use Rattle.facet_adding.proofs.Entered.{as_many, entry_made}
use Rattle.facet_adding.proofs.adding.entry_of.Goals as goal

pub leaves_of-requires : goal.leaves_of-requires
leaves_of-requires c =
    let known = c.requires.known in
    record { as_long = subst (λ (paths : List (List (List ℕ))). AreAsLong paths c.args.resolved.now) (sym c.facets.ensures.labels) (resolved_as_long known.0 c.args.doc.labels c.args.resolved.now known.2) }

pub expand-requires : goal.expand-requires
expand-requires c = let known = c.requires.known in resolved_as_long known.0 c.args.doc.labels c.args.resolved.now known.2

pub invariant_of-result-clause-as_many : goal.invariant_of-result-clause-as_many
invariant_of-result-clause-as_many c =
    let known = c.requires.known in
    ap length c.in_ok-leaves.ensures.leaves ∙ as_many c.args.doc.labels c.args.resolved.now (resolved_as_long known.0 c.args.doc.labels c.args.resolved.now known.2)

pub invariant_of-result-clause-few : goal.invariant_of-result-clause-few
invariant_of-result-clause-few c =
    let known = c.requires.known in
    let rising : IsStrictlyIncreasing c.in_ok-counted.counted = subst IsStrictlyIncreasing (sym (c.in_ok-counted.ensures.paths known.0 known.1 known.2)) (counted_rise known.0 c.args.config.now c.args.doc.labels) in
    counted_few c.args.config.now c.args.doc.labels c.args.resolved.now c.in_ok-counted.counted (subst (λ (ls : List (List (List ℕ))). length ls ≤ 256) c.facets.ensures.labels c.facets.ensures.few)
    (subst (All IsShort) c.facets.ensures.labels c.in_ok-leaves.ensures.short) (resolved_as_long known.0 c.args.doc.labels c.args.resolved.now known.2) rising c.in_ok-counted.ensures

pub returns-clause-entry : goal.returns-clause-entry
returns-clause-entry c labels list at =
    entry_made c.args.config.now labels _ c.args.doc c.args.resolved.now (λ i. c.args.doc) c.in_ok-leaves.ensures.leaves (subst (All IsShort) c.facets.ensures.labels c.in_ok-leaves.ensures.short) list at c.requires.accepted c.in_ok-counted.ensures
