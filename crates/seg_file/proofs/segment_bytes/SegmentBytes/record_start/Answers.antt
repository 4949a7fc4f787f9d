use Rattle.std.proofs.Common.{rules, arith, ◌≡◌, ◌∙◌, ◌<◌, ◌+◌, length, subst}
use Rattle.facet_model.specs.Stored.{Records}
use Rattle.seg_file.specs.Decoded.{IsIndexed}
use Rattle.seg_file.proofs.Marks.{record_front, records_count, terms_count, record_offset, term_offset, end_offset}
use Rattle.seg_file.proofs.segment_bytes.SegmentBytes.record_start.Goals as goal

pub returns-then-number-len : goal.returns-then-number-len
returns-then-number-len c =
    let h = subst (λ (r : Records). IsIndexed r c.self.inside.bytes.items c.self.inside.index) c.self.view_is c.self.invariant in
    let count = records_count c.args.self.now c.self.inside.bytes.items c.self.inside.index h in
    let within : c.args.number < length c.args.self.now.records = omega (arith, count, c.len.ensures, c.self.inside.index.records.ok.0) in
    c.index.ensures ∙ record_offset c.args.self.now c.self.inside.bytes.items c.self.inside.index c.args.number _ h within

pub overflow_sub-result : goal.overflow_sub-result
overflow_sub-result c =
    let h = subst (λ (r : Records). IsIndexed r c.self.inside.bytes.items c.self.inside.index) c.self.view_is c.self.invariant in
    let none : length c.self.inside.index.terms.items ≡ 0 = search rules in
    let ends = end_offset c.args.self.now c.self.inside.bytes.items c.self.inside.index c.args.number h
    (omega (arith, records_count c.args.self.now c.self.inside.bytes.items c.self.inside.index h, c.len.ensures, c.self.inside.index.records.ok.0))
    (omega (arith, terms_count c.args.self.now c.self.inside.bytes.items c.self.inside.index h, none)) in
    omega (arith, ends, c.len-then-is_empty.ensures, c.self.inside.bytes.ok.0)

pub returns-then-is_empty : goal.returns-then-is_empty
returns-then-is_empty c =
    let h = subst (λ (r : Records). IsIndexed r c.self.inside.bytes.items c.self.inside.index) c.self.view_is c.self.invariant in
    let none : length c.self.inside.index.terms.items ≡ 0 = search rules in
    let ends = end_offset c.args.self.now c.self.inside.bytes.items c.self.inside.index c.args.number h
    (omega (arith, records_count c.args.self.now c.self.inside.bytes.items c.self.inside.index h, c.len.ensures, c.self.inside.index.records.ok.0))
    (omega (arith, terms_count c.args.self.now c.self.inside.bytes.items c.self.inside.index h, none)) in
    omega (arith, ends, c.len-then-is_empty.ensures, c.self.inside.bytes.ok.0)

pub overflow_sub-result-2 : goal.overflow_sub-result-2
overflow_sub-result-2 c =
    let h = subst (λ (r : Records). IsIndexed r c.self.inside.bytes.items c.self.inside.index) c.self.view_is c.self.invariant in
    let some : 0 < length c.self.inside.index.terms.items = search rules in
    let begins : c.index-2.result.now ≡ record_front c.args.self.now c.args.number + 4 = c.index-2.ensures ∙ term_offset c.args.self.now c.self.inside.bytes.items c.self.inside.index c.args.number _ h
    (omega (arith, records_count c.args.self.now c.self.inside.bytes.items c.self.inside.index h, c.len.ensures, c.self.inside.index.records.ok.0))
    (omega (arith, terms_count c.args.self.now c.self.inside.bytes.items c.self.inside.index h, some)) in
    omega (arith, begins)

pub returns : goal.returns
returns c =
    let h = subst (λ (r : Records). IsIndexed r c.self.inside.bytes.items c.self.inside.index) c.self.view_is c.self.invariant in
    let some : 0 < length c.self.inside.index.terms.items = search rules in
    let begins : c.index-2.result.now ≡ record_front c.args.self.now c.args.number + 4 = c.index-2.ensures ∙ term_offset c.args.self.now c.self.inside.bytes.items c.self.inside.index c.args.number _ h
    (omega (arith, records_count c.args.self.now c.self.inside.bytes.items c.self.inside.index h, c.len.ensures, c.self.inside.index.records.ok.0))
    (omega (arith, terms_count c.args.self.now c.self.inside.bytes.items c.self.inside.index h, some)) in
    omega (arith, begins)
