use Rattle.std.proofs.Common.{rules, ◌≡◌, ◌∙◌, ◌+◌, ◌++◌, ◌∷◌, [], ℕ, List, arith, ap, sym, subst, length}
use Rattle.std.proofs.lemmas.List.{get_or_default}
use Rattle.counted_column.specs.Making.{AreNoted}
use Rattle.counted_column.proofs.Notes.{one_noted}
use Rattle.counted_column.proofs.making.note_lists.Goals as goal

pub loop-doc-preserved : goal.loop-doc-preserved
loop-doc-preserved c =
    let doc : ℕ = c.loop-doc.doc in
    let end : c.len-end.result ≡ length c.note_list.new.ords.items = search rules in
    let starts : c.push-in-loop-doc.new.self.items ≡ c.loop-doc.starts.items ++ length c.note_list.new.ords.items ∷ [] = c.in_ok-push-2.ensures.items ∙ ap (λ n. c.loop-doc.starts.items ++ n ∷ []) end in
    subst (λ (l : List ℕ). AreNoted c.args.lists.now c.args.slots.now (length c.args.maps.now) (doc + 1) c.note_list.new.maps l c.note_list.new.ords.items) (sym starts)
    (one_noted c.args.lists.now c.args.slots.now (length c.args.maps.now) doc c.loop-doc.maps c.note_list.new.maps c.loop-doc.starts.items c.loop-doc.ords.items c.note_list.new.ords.items c.index-lists-doc.result c.loop-doc.invariant
    (c.index-lists-doc.is ∙ get_or_default c.args.lists.now doc c.index-lists-doc.result [] (omega arith)) c.in_ok-note_list.ensures)
