use Rattle.std.proofs.Common.{rules, ◌≡◌, ◌∙◌, ◌+◌, ◌++◌, ◌∷◌, [], ℕ, List, arith, ap, sym, subst, set, length}
use Rattle.counted_column.proofs.Notes.{AreSlotted, one_slotted, none_here, all_slotted}
use Rattle.counted_column.proofs.making.dense_ordinals.Goals.{then-is_dense+in_ok-push, else-is_dense}
use Rattle.counted_column.proofs.making.dense_ordinals.Goals as goal

pub loop-ord-preserved : goal.loop-ord-preserved
loop-ord-preserved c =
    let k : ℕ = c.loop-ord.ord in
    elim c.if-is_dense.branch [
      | then-is_dense+in_ok-push w ↦
          let items : c.if-is_dense.dense.items ≡ c.loop-ord.dense.items ++ k ∷ [] = (λ i. (w.dense-is i).items) ∙ w.in_ok-push.ensures.items in
          let long : w.len.result ≡ length w.push.new.self.items = search rules in
          let numbers : c.if-is_dense.numbers ≡ set (set c.loop-ord.numbers k 0) k (length (c.loop-ord.dense.items ++ k ∷ [])) = w.numbers-is ∙ ap (λ n. set (set c.loop-ord.numbers k 0) k n) (long ∙ ap length w.in_ok-push.ensures.items) in
          subst (λ (l : List ℕ). AreSlotted (k + 1) l c.if-is_dense.dense.items c.args.numbers.now) (sym numbers)
          (subst (λ (l : List ℕ). AreSlotted (k + 1) (set (set c.loop-ord.numbers k 0) k (length (c.loop-ord.dense.items ++ k ∷ []))) l c.args.numbers.now) (sym items)
          (one_slotted k c.loop-ord.numbers c.loop-ord.dense.items c.args.numbers.now c.loop-ord.invariant (omega (arith, c.loop-ord.invariant.len))))
      | else-is_dense w ↦
          subst (λ (l : List ℕ). AreSlotted (k + 1) l c.if-is_dense.dense.items c.args.numbers.now) (sym w.numbers-is)
          (subst (λ (l : List ℕ). AreSlotted (k + 1) (set c.loop-ord.numbers k 0) l c.args.numbers.now) (sym (λ i. (w.dense-is i).items))
          (none_here k c.loop-ord.numbers c.loop-ord.dense.items c.args.numbers.now c.loop-ord.invariant (omega (arith, c.loop-ord.invariant.len))))
    ]

pub returns : goal.returns
returns c = all_slotted c.loop-ord.ord c.loop-ord.numbers c.loop-ord.dense.items c.args.numbers.now c.loop-ord.invariant (omega (arith, c.loop-ord.invariant.len))
