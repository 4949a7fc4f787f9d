use Rattle.std.proofs.Common.{rules, ◌≡◌, ◌^◌, ◌++◌, length, subst, sym, ap, ◌∙◌, arith, length-append}
use Rattle.std.specs.List.{AllByRecursion, flat_map}
use Rattle.std.proofs.lemmas.Str.{is_utf8-from_IsUtf8}
use Rattle.facet_codec.specs.Laws.{IsText, IsBelow}
use Rattle.facet_codec.specs.Spelling.{be32, vint, text}
use Rattle.facet_model.specs.Stored.{Stored}
use Rattle.seg_grammar.specs.Spelling.{front_bytes, IsId}
use Rattle.seg_terms.specs.Entries.{stored_of}
use Rattle.seg_writing.proofs.Puts.{front_put, record_put}
use Rattle.seg_writing.proofs.Facts.{rising_from_increasing}
use Rattle.seg_writing.proofs.records.put_record.Goals as goal

pub returns : goal.returns
returns c =
    let entry = c.args.entry.now in
    let r : Stored = stored_of entry in
    let id : c.id.result.now ≡ r.id = c.id.ensures.id in
    let words : c.text-text.result.now ≡ r.text = c.text-text.ensures.text in
    let leaves : c.deref.result.now ≡ r.leaves = c.deref.ensures.value in
    let many : length c.facets.result.now ≡ length r.leaves = ap length c.facets.ensures.labels ∙ sym entry.as_many in
    let counted : c.ords-counted.result.now ≡ r.counted = c.ords-counted.ensures.ords in
    let front : c.put_numbers.new.out.items ≡ c.args.out.now.items ++ front_bytes r = front_put r c.args.out.now.items c.put_text.new.out.items c.put_text-2.new.out.items c.put_vint.new.out.items c.put_numbers.new.out.items
    (c.in_ok-put_text.ensures ∙ ap (λ t. c.args.out.now.items ++ text t) id)
    (c.in_ok-put_text-2.ensures ∙ ap (λ t. c.put_text.new.out.items ++ text t) words)
    (c.in_ok-put_vint.ensures ∙ ap (λ n. c.put_text-2.new.out.items ++ vint n) many)
    (c.in_ok-put_numbers.ensures.bytes ∙ ap (λ ns. c.put_vint.new.out.items ++ flat_map be32 ns) leaves) in
    let size : c.len-counted_at.result ≡ length c.put_numbers.new.out.items = search rules in
    record {
      bytes = record_put r c.args.out.now.items c.put_numbers.new.out.items c.put_vint-2.new.out.items c.put_numbers-2.new.out.items front
          (c.in_ok-put_vint-2.ensures ∙ ap (λ ns. c.put_numbers.new.out.items ++ vint (length ns)) counted)
          (c.in_ok-put_numbers-2.ensures.bytes ∙ ap (λ ns. c.put_vint-2.new.out.items ++ flat_map be32 ns) counted);
      counted = size ∙ ap length front ∙ length-append c.args.out.now.items (front_bytes r);
      fits = record {
        id = subst IsId id (record { some = omega (arith, c.id.ensures.some); text = record { length = c.id.ensures.short; utf8 = is_utf8-from_IsUtf8 c.id.result.now c.id.utf8 } });
        text = subst (IsText 65536) words (record { length = c.text-text.ensures.short; utf8 = is_utf8-from_IsUtf8 c.text-text.result.now c.text-text.utf8 });
        leaves = record { few = omega (arith, many, c.facets.ensures.few); fit = subst (AllByRecursion (IsBelow (2 ^ 32))) leaves c.put_numbers.ensures.fit };
        counted = record { few = entry.few; fit = subst (AllByRecursion (IsBelow (2 ^ 32))) counted c.put_numbers-2.ensures.fit; rise = rising_from_increasing r.counted c.ords-counted.ensures.rising };
      };
    }
