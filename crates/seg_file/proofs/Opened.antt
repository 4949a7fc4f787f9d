-- A segment that was read.
use Rattle.std.proofs.Common.{◌≡◌, ℕ, List, Result, Ok, ap, sym, subst}
use Rattle.facet_model.specs.Stored.{Records}
use Rattle.seg_grammar.specs.declared.fault.SegFault.{SegFault}
use Rattle.seg_grammar.specs.declared.index.Index.{Index}
use Rattle.seg_grammar.specs.Spelling.{IsSegment}
use Rattle.seg_grammar.specs.Reading.{segment_at}
use Rattle.seg_grammar.specs.Index.{IsIndexOf}
use Rattle.seg_grammar.proofs.Again.{segment_again}
use Rattle.seg_file.specs.Decoded.{read_or_none, decoded, IsIndexed}

decoded_is : (bytes : List ℕ) (r : Records) → segment_at bytes ≡ Ok r → decoded bytes ≡ r
unfolding decoded
decoded_is bytes r e = ap (λ (read : Result Records SegFault). read_or_none read) e

-- a segment's bytes are decoded as what they are the segment of
pub decoded_segment : (bytes : List ℕ) (r : Records) → IsSegment bytes r → decoded bytes ≡ r
decoded_segment bytes r h = decoded_is bytes r (segment_again bytes r h)

pub indexed : (bytes : List ℕ) (index : Index) (r : Records) → IsSegment bytes r → IsIndexOf r index → IsIndexed (decoded bytes) bytes index
indexed bytes index r h k = subst (λ (s : Records). IsIndexed s bytes index) (sym (decoded_segment bytes r h)) (record { segment = h; offsets = k })
