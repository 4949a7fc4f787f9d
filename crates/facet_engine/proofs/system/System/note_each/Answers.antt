use Rattle.std.proofs.Common.{ℕ, List, sym, subst}
use Rattle.chronicle.specs.History.{entries}
use Rattle.facet_names.specs.Labels.{IsLabelList}
use Rattle.pair_manager.specs.Published.{ArePublications}
use Rattle.taxo_cache.specs.Seen.{labels_of}
use Rattle.facet_engine.proofs.system.System.note_each.Goals as goal

pub invariant_of-result-clause-list : goal.invariant_of-result-clause-list
invariant_of-result-clause-list g c = subst (λ (seen : List (ℕ × List (List ℕ))). IsLabelList (labels_of seen)) (sym c.note-labels.ensures.note.2) c.requires.labels.1

pub invariant_of-result-clause-right : goal.invariant_of-result-clause-right
invariant_of-result-clause-right g c =
    subst (λ (T : Type 0). T) (λ i. ArePublications (sym c.note-labels.ensures.note.2 i) (sym c.note-operations.ensures.note.2 i) (entries (sym c.note-pairs.ensures.note.2 i))) c.requires.right
