use Rattle.std.proofs.Common.{◌≡◌, ◌∙◌, ℕ, List, ap, sym, subst, arith, length, replicate, slice_get, Some, ◌∷◌, []}
use Rattle.std.specs.Prelude.{IfNone}
use Rattle.std.specs.Vec.{with_items}
use Rattle.std.specs.declared.alloc.Global.{Global}
use Rattle.std.specs.declared.vec.Vec.{Vec}
use Rattle.std.proofs.lemmas.List.{length-replicate, with_items_is}
use Rattle.value_facets.specs.Marking.{AreSlots}
use Rattle.value_facets.proofs.Slots.{slots_without}
use Rattle.value_facets.proofs.marks.slots_of.Goals as goal
use Rattle.value_facets.proofs.marks.slots_of.Goals.{in-Some, in_default}

pub returns : goal.returns
returns c =
    let zeros : c.in_ok-slots.slots.items ≡ replicate (length c.args.view.now) 0 = c.in_ok-slots.ensures.items_if_clones_equal (λ y same. same) ∙ ap (λ n. replicate n 0) c.size-size.ensures.size in
    elim c.match-branch-3.branch [
      | in-Some w ↦
          let new : List ℕ = w.note_slots.new.slots in
          let noted : AreSlots c.args.view.now c.args.dim.now c.args.cuts.now new = w.note_slots.ensures in
          let items : (with_items c.in_ok-slots.slots new).items ≡ new = with_items_is c.in_ok-slots.slots new (omega (arith, noted.as_many, ap length zeros, length-replicate {A = ℕ} (length c.args.view.now) 0, c.in_ok-slots.slots.ok)) in
          subst (λ (v : Vec ℕ Global). AreSlots c.args.view.now c.args.dim.now c.args.cuts.now v.items) (sym w.slots-is) (subst (AreSlots c.args.view.now c.args.dim.now c.args.cuts.now) (sym items) noted)
      | in_default w ↦
          subst (λ (v : Vec ℕ Global). AreSlots c.args.view.now c.args.dim.now c.args.cuts.now v.items) (sym w.slots-is)
          (slots_without c.args.view.now c.args.dim.now c.args.cuts.now c.in_ok-slots.slots.items c.size-size.ensures.list (subst (λ o. IfNone o ((ord : ℕ) → slice_get c.args.view.now ord ≡ Some (c.args.dim.now ∷ []) → ⊥)) w.in_default.is c.in_ok-ord.ensures.none) zeros)
    ]
