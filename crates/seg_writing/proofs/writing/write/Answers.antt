use Rattle.std.proofs.Common.{◌≡◌, ℕ, ◌≤◌, ◌++◌, List, length, map, subst, sym, ap, ◌∙◌, arith, refl}
use Rattle.std.specs.List.{AllByRecursion, flat_map}
use Rattle.std.proofs.lemmas.List.{length-map}
use Rattle.facet_codec.specs.Spelling.{be32}
use Rattle.facet_model.specs.Documents.{Doc}
use Rattle.facet_model.specs.Stored.{Stored}
use Rattle.facet_model.specs.Terms.{terms_of}
use Rattle.seg_grammar.specs.Spelling.{record_bytes, term_bytes, seg_bytes}
use Rattle.seg_terms.specs.declared.entry.Entry.{Entry}
use Rattle.seg_terms.specs.Entries.{stored_of}
use Rattle.seg_terms.specs.Places.{term_view}
use Rattle.seg_writing.specs.Written.{HasFewPlaces, IsTermText}
use Rattle.seg_writing.proofs.Puts.{whole_put}
use Rattle.seg_writing.proofs.Limits.{few_each, terms_fit, terms_in_order}
use Rattle.seg_writing.proofs.writing.write.Goals as goal

pub put_terms-requires-clause-few : goal.put_terms-requires-clause-few
put_terms-requires-clause-few c =
    let doc_of : Entry → Doc = λ e. e.doc in
    let docs : List Doc = map doc_of c.args.entries.now in
    let few : length docs ≤ 1000000 = omega (arith, length-map c.args.entries.now doc_of, c.requires.few) in
    subst (AllByRecursion HasFewPlaces) (sym c.requires.terms) (few_each docs few)

pub returns-clause-segment : goal.returns-clause-segment
unfolding seg_bytes
returns-clause-segment c =
    let doc_of : Entry → Doc = λ e. e.doc in
    let entries = c.args.entries.now in
    let docs : List Doc = map doc_of entries in
    let rs : List Stored = map stored_of entries in
    let ts : List (List ℕ × List ℕ) = terms_of docs in
    let sizes : length entries ≡ length rs = sym (length-map entries stored_of) in
    let same : length docs ≡ length rs = length-map entries doc_of ∙ sizes in
    let terms : length c.args.terms.now ≡ length ts = sym (length-map c.args.terms.now term_view) ∙ ap length c.requires.terms in
    record {
      spelled = whole_put (be32 0x46534547) (be32 1) (be32 (length rs)) (flat_map record_bytes rs) (be32 (length ts)) (flat_map term_bytes ts) c.put_head.new.out.items c.put_records.new.out.items c.put_u32.new.out.items c.put_terms.new.out.items
          (c.in_ok-put_head.ensures ∙ (λ i. c.in_ok-bytes.ensures.items i ++ (be32 0x46534547 ++ (be32 1 ++ be32 (sizes i)))))
          c.in_ok-records.ensures.bytes
          (c.in_ok-put_u32.ensures ∙ ap (λ n. c.put_records.new.out.items ++ be32 n) terms)
          (c.in_ok-terms.ensures.bytes ∙ ap (λ us. c.put_u32.new.out.items ++ flat_map term_bytes us) c.requires.terms);
      some = omega (arith, sizes, c.requires.some);
      few = omega (arith, sizes, c.requires.few);
      records = c.in_ok-records.ensures.fit;
      terms_count = omega (arith, terms, c.if-terms.false);
      terms = terms_fit docs (length rs) same (subst (AllByRecursion IsTermText) c.requires.terms c.in_ok-terms.ensures.fit);
      rise = terms_in_order docs;
      live = refl;
    }
