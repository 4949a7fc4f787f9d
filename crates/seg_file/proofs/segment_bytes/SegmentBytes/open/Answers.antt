use Rattle.std.proofs.Common.{ℕ, List, sym, ap, subst, ◌∙◌}
use Rattle.std.proofs.lemmas.Result.{err_from_is_err_and}
use Rattle.seg_grammar.specs.Spelling.{IsSegment}
use Rattle.seg_grammar.specs.Index.{IsIndexOf}
use Rattle.seg_grammar.proofs.Again.{segment_no_fault}
use Rattle.seg_file.specs.Decoded.{decoded}
use Rattle.seg_file.proofs.Opened.{decoded_segment, indexed}
use Rattle.seg_file.proofs.segment_bytes.SegmentBytes.open.Goals as goal

pub invariant_of-result : goal.invariant_of-result
invariant_of-result c =
    let x = c.in_ok-index.ensures.found in
    let same = c.shrink_to_fit.ensures.items in
    let index : IsIndexOf x.0 (record { records = c.shrink_to_fit-2.new.self; counted = c.shrink_to_fit-3.new.self; terms = c.shrink_to_fit-4.new.self }) = record {
      records = c.shrink_to_fit-2.ensures.items ∙ x.3.records;
      counted = c.shrink_to_fit-3.ensures.items ∙ x.3.counted;
      terms = c.shrink_to_fit-4.ensures.items ∙ x.3.terms;
    } in
    indexed c.shrink_to_fit.new.self.items (record { records = c.shrink_to_fit-2.new.self; counted = c.shrink_to_fit-3.new.self; terms = c.shrink_to_fit-4.new.self }) x.0 (subst (λ (bs : List ℕ). IsSegment bs x.0) (c.deref.ensures.value ∙ sym same) x.2) index

pub returns-clause-found : goal.returns-clause-found
returns-clause-found c = subst (λ (bs : List ℕ). IsSegment bs (decoded c.shrink_to_fit.new.self.items)) c.shrink_to_fit.ensures.items (invariant_of-result c).segment

pub returns-clause-only : goal.returns-clause-only
returns-clause-only c = λ r h. ap decoded c.shrink_to_fit.ensures.items ∙ decoded_segment c.args.bytes.items r h

pub returns-in_err-index-clause-only : goal.returns-in_err-index-clause-only
returns-in_err-index-clause-only c = let p = err_from_is_err_and c.from_residual.result c.from_residual.ensures.1 in
    λ r h. rw (p.1, p.2) (segment_no_fault c.args.bytes.items r c.in_err-index.field-0.0 h (rw c.deref.ensures.value at c.in_err-index.ensures.fault))
