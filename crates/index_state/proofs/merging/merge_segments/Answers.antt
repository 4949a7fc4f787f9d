use Rattle.std.proofs.Common.{◌∷◌, [], map, sym, subst}
use Rattle.std.specs.Arc.{arc_value}
use Rattle.facet_model.specs.Stored.{Records, Decodes}
use Rattle.seg_documents.specs.Storing.{IsStored}
use Rattle.seg_documents.proofs.Storing.{live_stored}
use Rattle.seg_merge.specs.Merged.{IsMergeOf}
use Rattle.seg_merge.proofs.Standing.{decoded_have, merged_decodes}
use Rattle.index_state.proofs.merging.merge_segments.Goals as goal

pub merge-requires-clause-terms : goal.merge-requires-clause-terms
merge-requires-clause-terms c =
    let decodes = c.requires.decodes.3 in
    (decodes.0, decoded_have c.requires.decodes.0 c.requires.decodes.1 (map arc_value c.args.segments.now) decodes.0 decodes.1)

pub returns-clause-merge : goal.returns-clause-merge
returns-clause-merge c = subst (IsMergeOf (map arc_value c.args.segments.now)) (sym c.in_ok-new.ensures.ok) c.in_ok-merged.ensures.merged

pub returns-clause-documents : goal.returns-clause-documents
returns-clause-documents c known config docs decodes =
    subst (λ (m : Records). Decodes known config (m ∷ []) docs) (sym c.in_ok-new.ensures.ok) (merged_decodes known config (map arc_value c.args.segments.now) docs c.in_ok-merged.merged decodes c.in_ok-merged.ensures.merged)

pub returns-clause-own : goal.returns-clause-own
returns-clause-own c = subst IsStored (sym c.in_ok-new.ensures.ok) (live_stored c.in_ok-merged.merged c.in_ok-merged.ensures.own)
