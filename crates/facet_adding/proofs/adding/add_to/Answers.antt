use Rattle.std.proofs.Common.{◌≡◌, ◌∙◌, List, ℕ, sym, ap, subst}
use Rattle.std.specs.Prelude.{flat_map}
use Rattle.chronicle.specs.Frame.{Frame}
use Rattle.chronicle.specs.Shown.{Shown}
use Rattle.facet_model.proofs.ConfigTexts.{config_told}
use Rattle.facet_model.specs.CountedPaths.{AreResolved}
use Rattle.facet_model.specs.Documents.{Doc}
use Rattle.facet_model.specs.Flags.{Config}
use Rattle.facet_model.specs.Histories.{add}
use Rattle.facet_names.specs.Labels.{prefixes}
use Rattle.seg_documents.proofs.Ordinals.{resolved_known}
use Rattle.seg_documents.specs.Entries.{IsEntry}
use Rattle.taxo_cache.specs.Seen.{labels_of}
use Rattle.taxo_list.specs.declared.fault.TaxoFault.TheVariants.{LabelsFull}
use Rattle.taxo_adding.specs.Several.{AddsInTurn, IsFullForOne}
use Rattle.facet_adding.proofs.Tried.{full_for, same_sees_on, tried_full, tried_placed}
use Rattle.facet_adding.proofs.adding.add_to.Goals as goal

pub entry_of-requires-clause-known : goal.entry_of-requires-clause-known
entry_of-requires-clause-known g c =
    let pass = c.resolve_each.new.pass in
    let known = labels_of pass.labels.seen in
    let resolved : AreResolved known c.args.doc.labels c.in-Ok.resolved.items = subst (λ (ps : List (List (List ℕ))). AreResolved known ps c.in-Ok.resolved.items) c.facets.ensures.labels c.in-Ok.ensures.resolved in
    (known, pass.list, subst (AreResolved known c.args.doc.labels) (sym c.deref.ensures.value) resolved)

pub append-requires-clause-entry : goal.append-requires-clause-entry
append-requires-clause-entry g c config texts =
    let pass = c.resolve_each.new.pass in
    let known = labels_of pass.labels.seen in
    let entry = c.in-Ok-entry_of.entry in
    let same = c.resolve_each.ensures.same in
    let is : config ≡ c.args.config.now = config_told config c.args.config.now (texts ∙ ap (λ (f : Frame). f.texts) same.operations.4 ∙ sym c.requires.config) in
    let of_facets : AreResolved known entry.doc.labels c.in-Ok.resolved.items = subst (λ (ps : List (List (List ℕ))). AreResolved known ps c.in-Ok.resolved.items) (c.facets.ensures.labels ∙ ap (λ (d : Doc). d.labels) (sym c.in-Ok-entry_of.ensures.doc)) c.in-Ok.ensures.resolved in
    let resolved : AreResolved known entry.doc.labels c.deref.result.now = subst (AreResolved known entry.doc.labels) (sym c.deref.ensures.value) of_facets in
    subst (λ (x : Config). IsEntry x known entry) (sym is) (c.in-Ok-entry_of.ensures.entry known pass.list resolved)

pub returns-in-Err-LabelsFull-clause-tried : goal.returns-in-Err-LabelsFull-clause-tried
returns-in-Err-LabelsFull-clause-tried g c =
    let mid = c.resolve_each.new.pass in
    let none = same_sees_on c.args.pass.now.operations mid.operations c.resolve_each.ensures.rest.0 in
    let full = full_for c.in-Err-LabelsFull.size c.args.manager.now.writer.limit (labels_of mid.labels.seen) c.facets.result.now c.in-Err-LabelsFull.field-0 c.in-Err-LabelsFull.field-0-is c.in-Err-LabelsFull.ensures.full in
    rw (c.in-Err-LabelsFull.field-0-is) (none, subst (IsFullForOne (LabelsFull c.in-Err-LabelsFull.size) c.args.manager.now.writer.limit (labels_of mid.labels.seen)) c.facets.ensures.labels full)

pub returns-in-Ok-append-clause-tried : goal.returns-in-Ok-append-clause-tried
returns-in-Ok-append-clause-tried g c =
    let mid = c.resolve_each.new.pass in
    let known = labels_of mid.labels.seen in
    let resolved : AreResolved known c.args.doc.labels c.in-Ok.resolved.items = subst (λ (ps : List (List (List ℕ))). AreResolved known ps c.in-Ok.resolved.items) c.facets.ensures.labels c.in-Ok.ensures.resolved in
    tried_placed c.args.manager.now.writer.limit c.args.session add c.args.doc c.args.pass.now mid c.append.new.pass c.in-Ok-entry_of.entry.doc c.in-Ok-entry_of.ensures.doc
    c.resolve_each.ensures.rest.0 c.append.ensures.rest.0 (resolved_known known c.args.doc.labels c.in-Ok.resolved.items resolved) c.in-Ok-append.at c.in-Ok-append.ensures.placed

pub returns-in-Err-DocsFull-clause-tried : goal.returns-in-Err-DocsFull-clause-tried
returns-in-Err-DocsFull-clause-tried g c =
    let mid = c.resolve_each.new.pass in
    let known = labels_of mid.labels.seen in
    let resolved : AreResolved known c.args.doc.labels c.in-Ok.resolved.items = subst (λ (ps : List (List (List ℕ))). AreResolved known ps c.in-Ok.resolved.items) c.facets.ensures.labels c.in-Ok.ensures.resolved in
    tried_full c.args.manager.now.writer.limit c.args.session add c.args.doc c.args.pass.now mid c.append.new.pass c.in-Ok-entry_of.entry.doc c.in-Ok-entry_of.ensures.doc
    c.resolve_each.ensures.rest.0 c.append.ensures.rest.0 (resolved_known known c.args.doc.labels c.in-Ok.resolved.items resolved) c.in-Err-DocsFull.count c.in-Err-DocsFull.ensures.none (c.in-Err-DocsFull.ensures.full c.in-Err-DocsFull.count c.in-Err-DocsFull.field-0-is)

pub returns-in-Ok-append-clause-adds : goal.returns-in-Ok-append-clause-adds
returns-in-Ok-append-clause-adds g c = subst (λ (t : Shown (List (List ℕ))). AddsInTurn (flat_map prefixes c.args.doc.labels) c.args.manager.now.writer.limit c.args.pass.now.labels t) (sym c.append.ensures.rest.0)
    (subst (λ (ps : List (List (List ℕ))). AddsInTurn (flat_map prefixes ps) c.args.manager.now.writer.limit c.args.pass.now.labels c.resolve_each.new.pass.labels) c.facets.ensures.labels c.resolve_each.ensures.adds)

pub returns-in-Err-DocsFull-clause-adds : goal.returns-in-Err-DocsFull-clause-adds
returns-in-Err-DocsFull-clause-adds g c = subst (λ (t : Shown (List (List ℕ))). AddsInTurn (flat_map prefixes c.args.doc.labels) c.args.manager.now.writer.limit c.args.pass.now.labels t) (sym c.append.ensures.rest.0)
    (subst (λ (ps : List (List (List ℕ))). AddsInTurn (flat_map prefixes ps) c.args.manager.now.writer.limit c.args.pass.now.labels c.resolve_each.new.pass.labels) c.facets.ensures.labels c.resolve_each.ensures.adds)

pub returns-clause-adds : goal.returns-clause-adds
returns-clause-adds g c = subst (λ (t : Shown (List (List ℕ))). AddsInTurn (flat_map prefixes c.args.doc.labels) c.args.manager.now.writer.limit c.args.pass.now.labels t) (sym c.append.ensures.rest.0)
    (subst (λ (ps : List (List (List ℕ))). AddsInTurn (flat_map prefixes ps) c.args.manager.now.writer.limit c.args.pass.now.labels c.resolve_each.new.pass.labels) c.facets.ensures.labels c.resolve_each.ensures.adds)

pub returns-in-Err-LabelsFull-clause-adds : goal.returns-in-Err-LabelsFull-clause-adds
returns-in-Err-LabelsFull-clause-adds g c = subst (λ (ps : List (List (List ℕ))). AddsInTurn (flat_map prefixes ps) c.args.manager.now.writer.limit c.args.pass.now.labels c.resolve_each.new.pass.labels) c.facets.ensures.labels c.resolve_each.ensures.adds

pub returns-in-Err-NoMemory-clause-adds : goal.returns-in-Err-NoMemory-clause-adds
returns-in-Err-NoMemory-clause-adds g c = subst (λ (ps : List (List (List ℕ))). AddsInTurn (flat_map prefixes ps) c.args.manager.now.writer.limit c.args.pass.now.labels c.resolve_each.new.pass.labels) c.facets.ensures.labels c.resolve_each.ensures.adds

pub returns-in_default-clause-adds : goal.returns-in_default-clause-adds
returns-in_default-clause-adds g c = subst (λ (ps : List (List (List ℕ))). AddsInTurn (flat_map prefixes ps) c.args.manager.now.writer.limit c.args.pass.now.labels c.resolve_each.new.pass.labels) c.facets.ensures.labels c.resolve_each.ensures.adds
