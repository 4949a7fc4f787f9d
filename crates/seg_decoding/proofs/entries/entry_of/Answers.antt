use Rattle.std.proofs.Common.{ℕ, List, [], Some, ◌≤◌, ◌∙◌, length, slice_get, sym, ap, subst}
use Rattle.std.specs.Prelude.{All}
use Rattle.std.proofs.lemmas.List.{length-map}
use Rattle.facet_config.specs.Expanding.{AreAsLong}
use Rattle.facet_model.specs.CountedPaths.{AreResolved}
use Rattle.facet_model.specs.Histories.{knows}
use Rattle.facet_model.proofs.Fronts.{knows_its_labels}
use Rattle.seg_documents.specs.Entries.{IsShort}
use Rattle.std.specs.List.Sorted.{IsStrictlyIncreasing}
use Rattle.seg_documents.proofs.Few.{counted_few, counted_rise}
use Rattle.seg_documents.proofs.Ordinals.{known_at, resolved_as_long}
use Rattle.seg_decoding.proofs.entries.entry_of.Goals as goal

pub resolve_all-requires : goal.resolve_all-requires
resolve_all-requires c =
    ap (λ (ps : List (List (List ℕ))). knows c.args.labels.now (record { id = []; text = []; labels = ps })) c.facets.ensures.labels ∙ knows_its_labels c.args.labels.now c.requires.list c.args.doc (known_at c.args.labels.now c.args.leaves.items c.args.doc.labels c.requires.labels)

pub expand-requires : goal.expand-requires
expand-requires c =
    let at : AreResolved c.args.labels.now c.args.doc.labels c.in_ok-resolved.resolved.items = subst (λ (ps : List (List (List ℕ))). AreResolved c.args.labels.now ps c.in_ok-resolved.resolved.items) c.facets.ensures.labels c.in_ok-resolved.ensures.ordinals in
    subst (AreAsLong c.args.doc.labels) (sym c.deref.ensures.value) (resolved_as_long c.args.labels.now c.args.doc.labels c.in_ok-resolved.resolved.items at)

pub invariant_of-result-clause-as_many : goal.invariant_of-result-clause-as_many
invariant_of-result-clause-as_many c = sym (length-map c.args.leaves.items (slice_get c.args.labels.now)) ∙ ap length c.requires.labels ∙ length-map c.args.doc.labels Some

pub invariant_of-result-clause-few : goal.invariant_of-result-clause-few
invariant_of-result-clause-few c =
    let at : AreResolved c.args.labels.now c.args.doc.labels c.in_ok-resolved.resolved.items = subst (λ (ps : List (List (List ℕ))). AreResolved c.args.labels.now ps c.in_ok-resolved.resolved.items) c.facets.ensures.labels c.in_ok-resolved.ensures.ordinals in
    let long : AreAsLong c.args.doc.labels c.deref.result.now = subst (AreAsLong c.args.doc.labels) (sym c.deref.ensures.value) (resolved_as_long c.args.labels.now c.args.doc.labels c.in_ok-resolved.resolved.items at) in
    let rising : IsStrictlyIncreasing c.in_ok-counted.counted = subst IsStrictlyIncreasing (sym (c.in_ok-counted.ensures.paths c.args.labels.now c.requires.list (subst (AreResolved c.args.labels.now c.args.doc.labels) (sym c.deref.ensures.value) at)))
    (counted_rise c.args.labels.now c.args.config.now c.args.doc.labels) in
    counted_few _ c.args.doc.labels c.deref.result.now c.in_ok-counted.counted (subst (λ (ls : List (List (List ℕ))). length ls ≤ 256) c.facets.ensures.labels c.facets.ensures.few) (subst (All IsShort) c.facets.ensures.labels c.in_ok-resolved.ensures.short) long rising c.in_ok-counted.ensures
