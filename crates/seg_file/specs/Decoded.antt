-- What the bytes of a segment represent.
use Rattle.std.specs.Prelude.{List, ℕ, [], Result, Ok, Err}
use Rattle.facet_model.specs.Stored.{Records}
use Rattle.seg_grammar.specs.declared.fault.SegFault.{SegFault}
use Rattle.seg_grammar.specs.declared.index.Index.{Index}
use Rattle.seg_grammar.specs.Spelling.{IsSegment}
use Rattle.seg_grammar.specs.Reading.{segment_at}
use Rattle.seg_grammar.specs.Index.{IsIndexOf}

-- what was read, or nothing
abbrev pub read_or_none : Result Records SegFault → Records
read_or_none (Ok r) = r
read_or_none (Err e) = record { records = []; terms = []; dead = [] }

-- the records and terms of a segment's bytes
unfoldable pub decoded : List ℕ → Records
decoded bytes = read_or_none (segment_at bytes)

-- The bytes are the segment of these records and terms, and the index has its offsets.
pub record IsIndexed (r : Records) (bytes : List ℕ) (index : Index) : Type 0 where
  pub segment : IsSegment bytes r
  pub offsets : IsIndexOf r index
