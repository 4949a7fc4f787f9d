use Rattle.std.proofs.Common.{◌≡◌, ◌∙◌, List, ap, length, subst}
use Rattle.std.proofs.lemmas.List.{length-map}
use Rattle.facet_model.specs.Stored.{Records}
use Rattle.seg_grammar.specs.Spelling.{IsSegment, all_live, seg_bytes}
use Rattle.seg_terms.specs.Entries.{segment_of, stored_of}
use Rattle.seg_terms.specs.declared.entry.Entry.{Entry}
use Rattle.index_state.proofs.flushing.flush.Goals as goal

pub returns-clause-added : goal.returns-clause-added
returns-clause-added c =
    c.docs-docs.ensures.number ∙ ap (λ (r : Records). length r.records) c.in_ok-segment.ensures ∙ length-map c.deref.result.now stored_of ∙ ap length c.deref.ensures.value

pub returns-clause-own : goal.returns-clause-own
returns-clause-own c some =
    let is : c.in_ok-segment.segment ≡ segment_of c.args.entries.now.items = c.in_ok-segment.ensures ∙ ap (λ (es : List Entry). segment_of es) c.deref.ensures.value in
    subst (λ (r : Records). IsSegment (seg_bytes r) (all_live r)) is c.docs-docs.ensures.is
