use Rattle.std.proofs.Common.{map, ap, ◌∙◌, refl}
use Rattle.std.specs.Arc.{arc_value}
use Rattle.arc_list.specs.Pieces.{values_in}
use Rattle.arc_list.proofs.Pieces.{same_joined, same_pieces}
use Rattle.arc_list.proofs.list.ArcList.share.Goals as goal

pub invariant_of-result : goal.invariant_of-result
invariant_of-result g c =
    let full = c.self.inside.full.items in
    same_pieces arc_value (values_in arc_value) full c.in_ok-shared_pieces.field-0.items (map arc_value c.self.inside.last.items) (map arc_value c.in_ok-shared_entries.field-0.items)
    (c.in_ok-shared_pieces.ensures ∙ ap (map arc_value) c.deref.ensures.value) (c.in_ok-shared_entries.ensures ∙ ap (map arc_value) c.deref-2.ensures.value) c.self.inside.count c.self.inside.count c.self.invariant refl

pub returns : goal.returns
returns g c =
    let full = c.self.inside.full.items in
    same_joined arc_value (values_in arc_value) full c.in_ok-shared_pieces.field-0.items (map arc_value c.self.inside.last.items) (map arc_value c.in_ok-shared_entries.field-0.items)
    (c.in_ok-shared_pieces.ensures ∙ ap (map arc_value) c.deref.ensures.value) (c.in_ok-shared_entries.ensures ∙ ap (map arc_value) c.deref-2.ensures.value) ∙ c.self.view_is
