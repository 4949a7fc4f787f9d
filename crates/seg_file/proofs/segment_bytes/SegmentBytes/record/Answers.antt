use Rattle.std.proofs.Common.{◌≡◌, ◌++◌, ℕ, List, drop, length, ap, subst, ◌∙◌, arith}
use Rattle.facet_model.specs.Stored.{Records}
use Rattle.seg_grammar.specs.Spelling.{record_bytes, IsRecord}
use Rattle.seg_grammar.specs.Lookups.{record_of}
use Rattle.seg_file.specs.Decoded.{IsIndexed}
use Rattle.seg_file.proofs.Marks.{records_count, record_mark}
use Rattle.seg_file.proofs.segment_bytes.SegmentBytes.record.Goals as goal
use Rattle.std.proofs.lemmas.List.Elements.{All-from_recursion}

pub index-requires : goal.index-requires
index-requires c =
    let h = subst (λ (r : Records). IsIndexed r c.self.inside.bytes.items c.self.inside.index) c.self.view_is c.self.invariant in
    omega (arith, c.self.inside.index.records.ok.0, records_count c.args.self.now c.self.inside.bytes.items c.self.inside.index h)

pub cursor_at-requires : goal.cursor_at-requires
cursor_at-requires c =
    let h = subst (λ (r : Records). IsIndexed r c.self.inside.bytes.items c.self.inside.index) c.self.view_is c.self.invariant in
    let m = record_mark c.args.self.now c.self.inside.bytes.items c.self.inside.index c.args.doc c.index.result.now h c.requires in
    omega (arith, m.within, c.index.ensures, ap length c.as_slice.ensures.value)

pub returns : goal.returns
returns c =
    let bytes = c.self.inside.bytes.items in
    let h = subst (λ (r : Records). IsIndexed r bytes c.self.inside.index) c.self.view_is c.self.invariant in
    let m = record_mark c.args.self.now bytes c.self.inside.index c.args.doc c.index.result.now h c.requires in
    let is : c.cursor_at.result.rest ≡ record_bytes (record_of c.args.self.now c.args.doc) ++ m.rest = c.cursor_at.ensures ∙ ap (λ (bs : List ℕ). drop c.index.result.now bs) c.as_slice.ensures.value ∙ ap (λ (n : ℕ). drop n bytes) c.index.ensures ∙ m.is in
    record { tail = m.rest; is = is; fits = All-from_recursion IsRecord c.args.self.now.records h.segment.records c.args.doc _ c.requires }
