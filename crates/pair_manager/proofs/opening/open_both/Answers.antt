use Rattle.std.proofs.Common.{◌≡◌, ◌∙◌, ℕ, true, List, ap, sym, subst}
use Rattle.std.specs.List.{list_all}
use Rattle.std.specs.Arc.{arc_value}
use Rattle.facet_names.proofs.LabelLists.{Labels}
use Rattle.facet_model.specs.Documents.{Doc}
use Rattle.facet_model.specs.Histories.{Operation, brought, knows}
use Rattle.chronicle.specs.History.{entries}
use Rattle.taxo_cache.specs.Seen.{labels_of}
use Rattle.index_state.proofs.Standing.{decoded_known, brought_opened}
use Rattle.pair_manager.proofs.opening.open_both.Goals as goal

pub open_pairs-requires-clause-covers : goal.open_pairs-requires-clause-covers
open_pairs-requires-clause-covers g c =
    let known : Labels = labels_of c.args.labels.now.seen in
    let docs : List Doc = c.in_ok-index.index.docs in
    subst (λ (l : List (ℕ × List (List ℕ))). list_all (knows (labels_of l)) (brought (entries c.in_ok-operations.first.seen)) ≡ true) (ap (λ t. t.seen) (sym c.open_index.ensures.labels))
    (ap (λ (h : List Operation). list_all (knows known) (brought h)) c.in_ok-operations.ensures.entries ∙ ap (list_all (knows known)) (brought_opened docs)
    ∙ decoded_known known (arc_value c.args.config) c.in_ok-index.taken.segments docs c.in_ok-index.ensures.decodes)
