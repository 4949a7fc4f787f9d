use Rattle.std.proofs.Common.{rules, ◌≡◌, ◌∙◌, ◌⊎◌, inl, inr, [], ℕ, List, arith, ap, sym, subst, get_or, length}
use Rattle.std.specs.Vec.{with_items}
use Rattle.std.proofs.lemmas.List.{with_items_is, length-replicate}
use Rattle.counted_column.specs.Making.{AreSlots}
use Rattle.counted_column.proofs.Notes.{slot_most}
use Rattle.counted_column.proofs.Made.{made}
use Rattle.counted_column.proofs.column.Column.of.Goals.{then-is_empty, else-is_empty}
use Rattle.counted_column.proofs.column.Column.of.Goals as goal

pub note_lists-requires-clause-slots : goal.note_lists-requires-clause-slots
note_lists-requires-clause-slots c = λ ord.
    let lent : length c.dense_ordinals.new.numbers ≡ length c.in_ok-slots.slots.items = c.dense_ordinals.auto.numbers ∙ ap length c.deref_mut.ensures.value in
    let slots : c.deref.result.now ≡ c.dense_ordinals.new.numbers = c.deref.ensures.value ∙ with_items_is c.in_ok-slots.slots c.dense_ordinals.new.numbers (omega (arith, lent, c.in_ok-slots.slots.ok.0)) in
    let maps : length c.deref_mut-2.result.now ≡ length c.in_ok-dense.dense.items = ap length c.deref_mut-2.ensures.value ∙ ap length c.in_ok-maps.ensures ∙ length-replicate c.len.result _ ∙ search rules in
    omega (arith, maps, ap (λ (l : List ℕ). get_or l ord 0) slots, slot_most c.dense_ordinals.new.numbers c.in_ok-dense.dense.items c.in_ok-dense.ensures ord)

pub invariant_of-result : goal.invariant_of-result
invariant_of-result c =
    let lent : length c.dense_ordinals.new.numbers ≡ length c.in_ok-slots.slots.items = c.dense_ordinals.auto.numbers ∙ ap length c.deref_mut.ensures.value in
    let slots : c.deref.result.now ≡ c.dense_ordinals.new.numbers = c.deref.ensures.value ∙ with_items_is c.in_ok-slots.slots c.dense_ordinals.new.numbers (omega (arith, lent, c.in_ok-slots.slots.ok.0)) in
    let as_many : length c.deref_mut-2.result.now ≡ length c.in_ok-dense.dense.items = ap length c.deref_mut-2.ensures.value ∙ ap length c.in_ok-maps.ensures ∙ length-replicate c.len.result _ ∙ search rules in
    let maps : (with_items c.in_ok-maps.maps c.note_lists.new.maps).items ≡ c.note_lists.new.maps = with_items_is c.in_ok-maps.maps c.note_lists.new.maps (omega (arith, c.note_lists.auto.maps, ap length c.deref_mut-2.ensures.value, c.in_ok-maps.maps.ok.0)) in
    let choice : (c.if-is_empty.starts.items ≡ c.note_lists.new.starts.items) ⊎ ((c.if-is_empty.starts.items ≡ []) × (length c.note_lists.new.ords.items ≡ 0)) =
    elim c.if-is_empty.branch [
      | then-is_empty w ↦ inr ((λ i. (w.starts-is i).items) ∙ w.new-starts-then-is_empty.ensures.items, search rules)
      | else-is_empty w ↦ inl (λ i. (w.starts-is i).items)
    ] in
    (made c.args.lists.now c.deref.result.now c.in_ok-dense.dense.items c.note_lists.new.maps c.note_lists.new.starts.items c.note_lists.new.ords.items c.if-is_empty.starts.items (length c.deref_mut-2.result.now) (with_items c.in_ok-maps.maps c.note_lists.new.maps).items
    c.requires.few c.requires.rising (subst (λ (l : List ℕ). AreSlots l c.in_ok-dense.dense.items) (sym slots) c.in_ok-dense.ensures) as_many c.in_ok-note_lists.ensures maps choice).0

pub returns : goal.returns
returns c =
    let lent : length c.dense_ordinals.new.numbers ≡ length c.in_ok-slots.slots.items = c.dense_ordinals.auto.numbers ∙ ap length c.deref_mut.ensures.value in
    let slots : c.deref.result.now ≡ c.dense_ordinals.new.numbers = c.deref.ensures.value ∙ with_items_is c.in_ok-slots.slots c.dense_ordinals.new.numbers (omega (arith, lent, c.in_ok-slots.slots.ok.0)) in
    let as_many : length c.deref_mut-2.result.now ≡ length c.in_ok-dense.dense.items = ap length c.deref_mut-2.ensures.value ∙ ap length c.in_ok-maps.ensures ∙ length-replicate c.len.result _ ∙ search rules in
    let maps : (with_items c.in_ok-maps.maps c.note_lists.new.maps).items ≡ c.note_lists.new.maps = with_items_is c.in_ok-maps.maps c.note_lists.new.maps (omega (arith, c.note_lists.auto.maps, ap length c.deref_mut-2.ensures.value, c.in_ok-maps.maps.ok.0)) in
    let choice : (c.if-is_empty.starts.items ≡ c.note_lists.new.starts.items) ⊎ ((c.if-is_empty.starts.items ≡ []) × (length c.note_lists.new.ords.items ≡ 0)) =
    elim c.if-is_empty.branch [
      | then-is_empty w ↦ inr ((λ i. (w.starts-is i).items) ∙ w.new-starts-then-is_empty.ensures.items, search rules)
      | else-is_empty w ↦ inl (λ i. (w.starts-is i).items)
    ] in
    (made c.args.lists.now c.deref.result.now c.in_ok-dense.dense.items c.note_lists.new.maps c.note_lists.new.starts.items c.note_lists.new.ords.items c.if-is_empty.starts.items (length c.deref_mut-2.result.now) (with_items c.in_ok-maps.maps c.note_lists.new.maps).items
    c.requires.few c.requires.rising (subst (λ (l : List ℕ). AreSlots l c.in_ok-dense.dense.items) (sym slots) c.in_ok-dense.ensures) as_many c.in_ok-note_lists.ensures maps choice).1
