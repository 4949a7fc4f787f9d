use Rattle.std.proofs.Common.{rules, arith, ◌≡◌, ◌<◌, ◌-◌, ◌++◌, [], length, pos, get_or, slice_get, ◌^◌, sym, ap, subst, ◌∙◌}
use Rattle.std.proofs.lemmas.Int.{to_z-of_z}
use Rattle.std.proofs.lemmas.Option.{get_or_from_slice_get}
use Rattle.std.proofs.lemmas.Str.{is_utf8-from_IsUtf8}
use mir.Val.{to_z, of_z}
use mir.Syntax.{w32}
use lib.IntN.{nat_abs}
use Rattle.facet_names.specs.Paths.{last_part}
use Rattle.facet_codec.specs.Spelling.{be32}
use Rattle.facet_codec.specs.Laws.{IsText}
use Rattle.label_file.specs.LabelBytes.{IsStorable}
use Rattle.taxo_list.proofs.Linked.{as_many_parents}
use Rattle.label_file.proofs.Put.{parent_entry, label_put}
use Rattle.label_file.proofs.writing.put_label.Goals as goal

pub parent-requires : goal.parent-requires
parent-requires c = omega (arith, as_many_parents c.args.view.now c.arrays.result.now c.arrays.ensures.arrays, c.requires.within)

pub overflow_cast-parent : goal.overflow_cast-parent
overflow_cast-parent c =
    let parent = parent_entry c.args.view.now c.arrays.result.now c.arrays.ensures.arrays c.requires.list c.args.ord c.requires.some c.requires.within in
    let is : c.parent.result ≡ pos parent.0 = c.parent.ensures ∙ parent.2 in
    let read : to_z w32 (of_z w32 c.parent.result) ≡ pos parent.0 = ap (λ z. to_z w32 (of_z w32 z)) is ∙ to_z-of_z w32 (pos parent.0) (record { sfits = omega (arith, parent.1, c.requires.within, c.requires.few) }) in
    let low : parent.0 < 2 ^ 32 = omega (arith, parent.1, c.requires.within, c.requires.few) in
    rw read (search rules)

pub returns : goal.returns
returns c =
    let parent = parent_entry c.args.view.now c.arrays.result.now c.arrays.ensures.arrays c.requires.list c.args.ord c.requires.some c.requires.within in
    let is : c.parent.result ≡ pos parent.0 = c.parent.ensures ∙ parent.2 in
    let read : to_z w32 (of_z w32 c.parent.result) ≡ pos parent.0 = ap (λ z. to_z w32 (of_z w32 z)) is ∙ to_z-of_z w32 (pos parent.0) (record { sfits = omega (arith, parent.1, c.requires.within, c.requires.few) }) in
    let label : get_or c.args.view.now c.args.ord [] ≡ c.path_of-path.result.now = get_or_from_slice_get c.args.view.now c.args.ord c.path_of-path.result.now [] c.path_of-path.ensures in
    let last : last_part c.path_of-path.result.now ≡ c.part.result.now = get_or_from_slice_get c.path_of-path.result.now (length c.path_of-path.result.now - 1) c.part.result.now [] (ap (λ n. slice_get c.path_of-path.result.now (n - 1)) (sym c.len.ensures.len) ∙ c.part.ensures.part) in
    let fits : IsStorable c.path_of-path.result.now = record {
      fits = c.len.ensures.fits;
      last = subst (IsText 1024) (sym last) (record { length = c.part.ensures.short; utf8 = is_utf8-from_IsUtf8 c.part.result.now c.part.utf8 });
    } in
    record {
      bytes = label_put c.args.view.now (get_or c.args.view.now c.args.ord []) parent.0 c.part.result.now c.args.out.now.items c.put_u32.new.out.items c.put_text.new.out.items parent.3 (ap last_part label ∙ last)
          (c.in_ok-put_u32.ensures ∙ ap (λ z. c.args.out.now.items ++ be32 (nat_abs z)) read) c.in_ok-put_text.ensures;
      fits = subst IsStorable (sym label) fits;
    }
