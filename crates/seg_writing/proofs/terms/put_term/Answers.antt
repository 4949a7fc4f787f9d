use Rattle.std.proofs.Common.{arith, rules, ◌≡◌, ◌++◌, length, subst, ap, ◌∙◌}
use Rattle.std.specs.List.{flat_map}
use Rattle.std.proofs.lemmas.Str.{is_utf8-from_IsUtf8}
use Rattle.facet_codec.specs.Laws.{IsText}
use Rattle.facet_codec.specs.Spelling.{be32, text}
use Rattle.seg_terms.specs.Places.{term_view}
use Rattle.seg_writing.proofs.Puts.{term_put}
use Rattle.seg_writing.proofs.terms.put_term.Goals as goal

pub returns-clause-bytes : goal.returns-clause-bytes
returns-clause-bytes c =
    let size : c.len.result ≡ length c.args.term.now.places.items = search rules in
    term_put (term_view c.args.term.now) c.args.out.now.items c.put_text.new.out.items c.put_u32.new.out.items c.put_numbers.new.out.items
    (c.in_ok-put_text.ensures ∙ ap (λ t. c.args.out.now.items ++ text t) c.as_str.ensures.value)
    (c.in_ok-put_u32.ensures ∙ ap (λ n. c.put_text.new.out.items ++ be32 n) size)
    (c.in_ok-put_numbers.ensures.bytes ∙ ap (λ ns. c.put_u32.new.out.items ++ flat_map be32 ns) c.deref.ensures.value)

pub returns-clause-fits : goal.returns-clause-fits
returns-clause-fits c = subst (IsText 65568) c.as_str.ensures.value (record { length = omega (arith, c.requires.short, ap length c.as_str.ensures.value); utf8 = is_utf8-from_IsUtf8 c.as_str.result.now c.as_str.utf8 })
