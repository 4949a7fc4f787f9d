use Rattle.std.proofs.Common.{◌≡◌, ◌∙◌, ℕ, true, List, length, ap, sym, subst}
use Rattle.std.proofs.lemmas.Result.{IfOk-weaker}
use Rattle.std.specs.List.{list_all}
use Rattle.std.proofs.lemmas.List.{length-map}
use Rattle.facet_model.specs.Documents.{Doc}
use Rattle.facet_model.specs.Flags.{Config}
use Rattle.facet_model.specs.Histories.{Operation, docs, brought, knows}
use Rattle.facet_model.specs.Stored.{Decodes}
use Rattle.chronicle.specs.Frame.{Frame}
use Rattle.chronicle.specs.History.{entries}
use Rattle.taxo_cache.specs.Seen.{labels_of}
use Rattle.facet_model.proofs.ConfigTexts.{config_told}
use Rattle.pair_manager.proofs.manager.Manager.take_index.Goals as goal

pub returns-clause-decodes : goal.returns-clause-decodes
returns-clause-decodes g c = IfOk-weaker c.snapshot-view.result _ _ (λ v decodes config same.
    let index = c.take-index.result in
    let is : index.config ≡ config = config_told index.config config (ap (λ (f : Frame). f.texts) (c.take-index.ensures.value.1 ∙ c.take-index.ensures.turn.0.4) ∙ sym same) in
    let all : index.docs ≡ docs (entries c.give.new.token.seen) = c.take-index.ensures.value.0.documents ∙ ap (λ l. docs (entries l)) (sym c.give.ensures.seen.0) in
    subst (λ (x : Config). Decodes (labels_of v.labels.seen) x v.segments (docs (entries c.give.new.token.seen))) is
    (subst (λ (ds : List Doc). Decodes (labels_of v.labels.seen) index.config v.segments ds) all decodes)) c.snapshot-view.ensures.decodes

pub returns-clause-operations : goal.returns-clause-operations
returns-clause-operations g c = IfOk-weaker c.snapshot-view.result _ _ (λ v count.
    count ∙ ap length c.take-index.ensures.value.0.numbers ∙ length-map (entries c.take-index.new.token.seen) (λ (o : Operation). o.session) ∙ length-map c.take-index.new.token.seen (λ (x : ℕ × Operation). x.1)
    ∙ ap length (sym c.give.ensures.seen.0)) c.snapshot-view.ensures.operations

pub returns-clause-documents : goal.returns-clause-documents
returns-clause-documents g c = IfOk-weaker c.snapshot-view.result _ _ (λ v count.
    count ∙ ap length c.take-index.ensures.value.0.documents ∙ ap (λ (l : List (ℕ × Operation)). length (docs (entries l))) (sym c.give.ensures.seen.0)) c.snapshot-view.ensures.documents

pub returns-clause-covers : goal.returns-clause-covers
returns-clause-covers g c = IfOk-weaker c.snapshot-view.result _ _ (λ v note.
    subst (λ (l : List (ℕ × List (List ℕ))). list_all (knows (labels_of l)) (brought (entries c.give.new.token.seen)) ≡ true) (sym note.2)
    (subst (λ (l : List (ℕ × Operation)). list_all (knows (labels_of c.take-index.result.labels.seen)) (brought (entries l)) ≡ true) (sym c.give.ensures.seen.0) c.take-index.ensures.value.0.known)) c.snapshot-view.ensures.note
