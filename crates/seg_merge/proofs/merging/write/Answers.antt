use Rattle.std.proofs.Common.{rules, ◌≡◌, ◌++◌, ◌<◌, ◌+◌, ◌^◌, List, length, map, take, drop, subst, ap, ◌∙◌, arith, refl}
use Rattle.std.specs.List.{AllByRecursion, flat_map}
use Rattle.std.specs.Arc.{arc_value}
use Rattle.facet_codec.specs.Spelling.{be32}
use Rattle.facet_model.specs.Documents.{Doc}
use Rattle.facet_model.specs.Stored.{Stored, Records, live_docs}
use Rattle.facet_model.specs.Terms.{terms_of}
use Rattle.seg_grammar.specs.Spelling.{record_bytes, term_bytes, seg_bytes}
use Rattle.seg_terms.specs.Noting.{Table}
use Rattle.seg_writing.specs.Written.{IsTermText}
use Rattle.seg_writing.proofs.Limits.{terms_fit, terms_in_order}
use Rattle.seg_documents.specs.Decoding.{records_in}
use Rattle.seg_merge.specs.Walk.{AreMerged}
use Rattle.seg_writing.proofs.Puts.{whole_put}
use Rattle.seg_merge.proofs.Puts.{patched}
use Rattle.seg_merge.proofs.Places.{as_many_docs, merged_is}
use Rattle.seg_merge.proofs.merging.write.Goals as goal

pub returns : goal.returns
unfolding seg_bytes
returns c = λ pieces have.
    let ss : List Records = map arc_value c.args.segments.now in
    let rs : List Stored = records_in ss in
    let docs : List Doc = live_docs ss pieces in
    let ts : Table = terms_of docs in
    let same : length docs ≡ length rs = as_many_docs ss pieces have in
    let m : AreMerged ss c.put_u32.new.out.items c.put_merged_terms.new.out.items c.in_ok-count.count = c.in_ok-count.ensures in
    let is : m.terms ≡ ts = merged_is ss pieces have m.terms m.written.rise m.found in
    let many : c.in_ok-count.count ≡ length ts = m.written.number ∙ ap length is in
    let few : c.in_ok-count.count < 2 ^ 32 = search rules in
    let x = c.put_segments.new.out.items in
    let put = patched x (flat_map term_bytes m.terms) c.set_u32.new.bytes c.put_merged_terms.new.out.items c.put_u32.new.out.items c.len-count_at.result c.in_ok-count.count c.put_merged_terms.new.out.len
    (c.len-count_at.ensures ∙ c.put_segments.new.out.ok.0) c.in_ok-put_u32.ensures m.written.bytes
    (c.set_u32.ensures ∙ ap (λ l. take c.len-count_at.result l ++ (be32 c.in_ok-count.count ++ drop (c.len-count_at.result + 4) l)) c.deref_mut.ensures.value) c.put_merged_terms.new.out.ok.0 in
    record {
      spelled = whole_put (be32 0x46534547) (be32 1) (be32 (length rs)) (flat_map record_bytes rs) (be32 (length ts)) (flat_map term_bytes ts)
          c.put_head.new.out.items x (x ++ be32 (length ts)) _
          (c.in_ok-put_head.ensures ∙ (λ i. c.in_ok-bytes.ensures.items i ++ (be32 0x46534547 ++ (be32 1 ++ be32 (c.count_live.ensures i)))))
          c.in_ok-put_segments.ensures.bytes
          refl
          (put ∙ (λ i. (x ++ be32 (many i)) ++ flat_map term_bytes (is i)));
      some = omega (arith, c.requires.some);
      few = c.requires.few;
      records = c.in_ok-put_segments.ensures.fit;
      terms_count = omega (arith, many, few);
      terms = terms_fit docs (length rs) same (subst (AllByRecursion IsTermText) is m.written.texts);
      rise = terms_in_order docs;
      live = refl;
    }
