-- Opening a segment that was stored for so many documents: what its bytes represent, or the place of the first fault.
use Rattle.std.specs.Prelude.{ℕ, ◌+◌, ◌&&◌, List, [], ◌∷◌, length, map, Option, Some, None, Result, Ok, Err, nat_lt}
use Rattle.std.specs.Prelude.{◌==◌, if◌then◌else◌}
use Rattle.std.specs.Option.{option_map}
use Rattle.facet_codec.specs.Faults.{told_as}
use Rattle.facet_codec.specs.Reading.{◌>>=◌}
use Rattle.facet_codec.specs.Spelling.{vint, text}
use Rattle.facet_model.specs.Accepts.{first_broken}
use Rattle.facet_model.specs.CountedPaths.{counted_ordinals}
use Rattle.facet_model.specs.Flags.{Config}
use Rattle.facet_model.specs.Stored.{Stored, Records}
use Rattle.facet_model.specs.Terms.{terms_of}
use Rattle.seg_grammar.specs.declared.fault.SegFault.{SegFault}
use Rattle.seg_grammar.specs.declared.fault.SegFault.TheVariants.{BadMagic, BadVersion, Codec, Disorder, NoMemory}
use Rattle.seg_grammar.specs.Reading.{head_at, number_at, segment_at}
use Rattle.seg_grammar.specs.Spelling.{record_bytes, seg_bytes}
use Rattle.seg_documents.specs.Decoding.{doc_in}

-- the value, or the fault at the place, if there is one
abbrev pub unless_at : {A : Type 0} → A → Option ℕ → Result A ℕ
unless_at x None = Ok x
unless_at x (Some at) = Err at

-- ---- bytes

-- the place of a segment's fault
abbrev pub fault_place : SegFault → ℕ
fault_place BadMagic = 0
fault_place (BadVersion v) = 4
fault_place (Codec at) = at
fault_place (Disorder at) = at
fault_place NoMemory = 0

-- what was read of a segment, whose fault is given as its place
abbrev pub by_place : {A : Type 0} → Result A SegFault → Result A ℕ
by_place read = told_as fault_place read

-- the first bytes are those of a segment that has so many documents
unfoldable pub head_fits : ℕ → List ℕ → Result (Unit {0}) ℕ
head_fits documents bytes = do
  start ← by_place (head_at (record { at = 0; rest = bytes }))
  n ← by_place (number_at start)
  if n.0 == documents then Ok tt else Err 8

-- the records and terms of a segment that has so many documents: their number comes before all that follows it
unfoldable pub opened : ℕ → List ℕ → Result Records ℕ
opened documents bytes = do
  head ← head_fits documents bytes
  by_place (segment_at bytes)

-- ---- documents

-- each leaf is the ordinal of a label after the root, below `needs`; the first is at `at`, each takes four bytes
unfoldable pub leaves_fit : ℕ → ℕ → List ℕ → Result (Unit {0}) ℕ
leaves_fit needs at [] = Ok tt
leaves_fit needs at (leaf ∷ leaves) =
    if nat_lt 0 leaf && nat_lt leaf needs then leaves_fit needs (at + 4) leaves else Err at

-- where the first leaf of a record is that begins at `at`
abbrev pub leaves_place : ℕ → Stored → ℕ
leaves_place at r = at + length (text r.id) + length (text r.text) + length (vint (length r.leaves))

-- the leaves of a record that begins at `at` fit, and the config accepts its document
unfoldable pub document_fits : Config → List (List (List ℕ)) → ℕ → ℕ → Stored → Result (Unit {0}) ℕ
document_fits config known needs at r = do
  leaves ← leaves_fit needs (leaves_place at r) r.leaves
  unless_at tt (option_map (λ broken. at) (first_broken config (doc_in known r)))

-- each document of these records fits, the first of which begins at `at`
unfoldable pub documents_fit : Config → List (List (List ℕ)) → ℕ → ℕ → List Stored → Result (Unit {0}) ℕ
documents_fit config known needs at [] = Ok tt
documents_fit config known needs at (r ∷ rs) = do
  first ← document_fits config known needs at r
  documents_fit config known needs (at + length (record_bytes r)) rs

-- ---- the segment made again

-- the record with the ordinals that are counted for its document
abbrev pub counted_anew : Config → List (List (List ℕ)) → Stored → Stored
counted_anew config known r = record {
  id = r.id;
  text = r.text;
  leaves = r.leaves;
  counted = counted_ordinals known config (doc_in known r).labels;
}

-- the segment of the documents that records represent
abbrev pub rebuilt : Config → List (List (List ℕ)) → List Stored → Records
rebuilt config known rs = record {
  records = map (counted_anew config known) rs;
  terms = terms_of (map (doc_in known) rs);
  dead = [];
}

-- the first place where two lists of bytes differ that begin at `at`; where one is longer, its first byte more
unfoldable pub first_difference_from : ℕ → List ℕ → List ℕ → Option ℕ
first_difference_from at [] [] = None
first_difference_from at [] (y ∷ ys) = Some at
first_difference_from at (x ∷ xs) [] = Some at
first_difference_from at (x ∷ xs) (y ∷ ys) = if x == y then first_difference_from (at + 1) xs ys else Some at

-- the first place where two lists of bytes differ
abbrev pub first_difference : List ℕ → List ℕ → Option ℕ
first_difference xs ys = first_difference_from 0 xs ys

-- ---- all of it

-- what the bytes are read as, where each document fits and the bytes are what is written for them
unfoldable pub stored_segment : Config → List (List (List ℕ)) → ℕ → ℕ → List ℕ → Result Records ℕ
stored_segment config known needs documents bytes = do
  r ← opened documents bytes
  fit ← documents_fit config known needs 12 r.records
  unless_at r (first_difference bytes (seg_bytes (rebuilt config known r.records)))
