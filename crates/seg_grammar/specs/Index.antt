-- Where the parts of a segment begin, in bytes from 0.
use Rattle.std.specs.Prelude.{◌≡◌, ℕ, ◌+◌, List, [], ◌∷◌, length, Result, Ok, Err}
use Rattle.std.specs.Global.{Vec}
use Rattle.std.specs.List.{flat_map}
use Rattle.facet_codec.specs.Places.{Place}
use Rattle.facet_codec.specs.Lists.{offsets}
use Rattle.facet_model.specs.Stored.{Stored, Records}
use Rattle.seg_grammar.specs.declared.index.Index.{Index}
use Rattle.seg_grammar.specs.declared.fault.SegFault.{SegFault}
use Rattle.seg_grammar.specs.Reading.{Fails}
use Rattle.seg_grammar.specs.Spelling.{front_bytes, record_bytes, term_bytes}

-- where the counted ordinals of each record begin, the first record at `at`
abbrev pub counted_offsets : ℕ → List Stored → List ℕ
counted_offsets at [] = []
counted_offsets at (r ∷ rs) = (at + length (front_bytes r)) ∷ counted_offsets (at + length (record_bytes r)) rs

-- The offsets of the records, of their counted ordinals, and of the terms.
pub record IsIndexOf (r : Records) (index : Index) : Type 0 where
  pub records : index.records.items ≡ offsets record_bytes 12 r.records
  pub counted : index.counted.items ≡ counted_offsets 12 r.records
  pub terms : index.terms.items ≡ offsets term_bytes (16 + length (flat_map record_bytes r.records)) r.terms

-- A call passed records, and returned where they and their counted ordinals begin.
abbrev pub MarksRecords : Result (Vec ℕ × Vec ℕ) SegFault → Place → Place → Result (List Stored × Place) SegFault
    → Type 0
MarksRecords (Ok marks) old new read = (rs : List Stored) × (read ≡ Ok (rs, new))
    × (marks.0.items ≡ offsets record_bytes old.at rs)
    × (marks.1.items ≡ counted_offsets old.at rs)
MarksRecords (Err e) old new read = Fails e read

-- A call passed terms, and returned where they begin.
abbrev pub MarksTerms : Result (Vec ℕ) SegFault → Place → Place → Result (List (List ℕ × List ℕ) × Place) SegFault
    → Type 0
MarksTerms (Ok marks) old new read = (ts : List (List ℕ × List ℕ)) × (read ≡ Ok (ts, new))
    × (marks.items ≡ offsets term_bytes old.at ts)
MarksTerms (Err e) old new read = Fails e read
