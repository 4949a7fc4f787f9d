use Rattle.std.proofs.Common.{◌≡◌, ◌∙◌, ◌+◌, ◌-◌, ◌++◌, ◌∷◌, [], ℕ, List, refl, arith, ap, sym, subst, get_or, set}
use Rattle.place_bits.specs.Words.{Marked}
use Rattle.counted_column.proofs.Notes.{AreTaken, one_marked, one_put}
use Rattle.counted_column.proofs.making.note_list.Goals.{then-slot-gt0, else-slot-gt0+in_ok-push}
use Rattle.counted_column.proofs.making.note_list.Goals as goal

pub loop-k-preserved : goal.loop-k-preserved
loop-k-preserved c =
    let k : ℕ = c.loop-k.k in
    let slot : get_or c.args.slots.now (get_or c.args.list.now k 0) 0 ≡ c.slot_of-slot.result = ap (λ o. get_or c.args.slots.now o 0) (sym c.at-ord.ensures) ∙ sym c.slot_of-slot.ensures in
    elim c.if-slot-gt0.branch [
      | then-slot-gt0 w ↦
          subst (λ (l : List Marked). AreTaken c.args.slots.now c.args.doc c.args.list.now (k + 1) c.args.maps.now l c.args.ords.now.items c.if-slot-gt0.ords.items) (sym w.maps-is)
          (subst (λ (l : List ℕ). AreTaken c.args.slots.now c.args.doc c.args.list.now (k + 1) c.args.maps.now (set c.loop-k.maps (c.slot_of-slot.result - 1) w.add.new.self) c.args.ords.now.items l) (sym (λ i. (w.ords-is i).items))
          (one_marked c.args.slots.now c.args.doc c.args.list.now k c.args.maps.now c.loop-k.maps c.args.ords.now.items c.loop-k.ords.items c.slot_of-slot.result
          (get_or c.loop-k.maps (c.slot_of-slot.result - 1) w.index-maps-slot.result) w.add.new.self w.index-maps-slot.result c.loop-k.invariant (omega arith) slot (omega (arith, w.if-slot-gt0))
          (omega (arith, c.slot_of-slot.ensures, c.requires.slots c.at-ord.result)) refl w.add.ensures))
      | else-slot-gt0+in_ok-push w ↦
          let items : c.if-slot-gt0.ords.items ≡ c.loop-k.ords.items ++ get_or c.args.list.now k 0 ∷ [] = (λ i. (w.ords-is i).items) ∙ w.in_ok-push.ensures.items ∙ ap (λ o. c.loop-k.ords.items ++ o ∷ []) c.at-ord.ensures in
          subst (λ (l : List Marked). AreTaken c.args.slots.now c.args.doc c.args.list.now (k + 1) c.args.maps.now l c.args.ords.now.items c.if-slot-gt0.ords.items) (sym w.maps-is)
          (subst (λ (l : List ℕ). AreTaken c.args.slots.now c.args.doc c.args.list.now (k + 1) c.args.maps.now c.loop-k.maps c.args.ords.now.items l) (sym items)
          (one_put c.args.slots.now c.args.doc c.args.list.now k c.args.maps.now c.loop-k.maps c.args.ords.now.items c.loop-k.ords.items c.loop-k.invariant (omega arith) (omega (arith, slot, w.if-slot-gt0))))
    ]
