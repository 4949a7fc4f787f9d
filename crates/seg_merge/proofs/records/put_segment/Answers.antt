use Rattle.std.proofs.Common.{◌<◌, ◌+◌, ◌-◌, take, drop, length, sym, subst, ◌∙◌, arith}
use Rattle.std.proofs.lemmas.Bool.{not-true, not-false}
use Rattle.seg_merge.specs.Merged.{ArePut}
use Rattle.seg_merge.proofs.Puts.{ArePutUpto, put_past, put_on, put_end}
use Rattle.seg_merge.proofs.records.put_segment.Goals.{then-not-is_live+in_ok-put_range, else-not-is_live}
use Rattle.seg_merge.proofs.records.put_segment.Goals as goal

pub loop-doc-preserved : goal.loop-doc-preserved
loop-doc-preserved c =
    let s = c.args.segment.now in
    let k = c.loop-doc.doc in
    let old = c.args.out.now.items in
    let lt : k < length s.records = omega (arith, c.loop-doc-test.true, c.docs-doc-end.ensures.number) in
    elim c.if-not-is_live.branch [
      | then-not-is_live+in_ok-put_range w ↦
          subst (λ from. ArePutUpto s old c.if-not-is_live.out.items from (k + 1)) (sym w.from-is) (subst (λ out. ArePutUpto s old out (k + 1) (k + 1)) (sym (λ i. (w.out-is i).items))
          (put_past s old c.loop-doc.out.items w.put_range.new.out.items c.loop-doc.from k c.loop-doc.invariant lt (not-false _ (sym c.is_live.ensures ∙ w.if-not-is_live.true)) w.in_ok-put_range.ensures))
      | else-not-is_live w ↦
          subst (λ from. ArePutUpto s old c.if-not-is_live.out.items from (k + 1)) (sym w.from-is) (subst (λ out. ArePutUpto s old out c.loop-doc.from (k + 1)) (sym (λ i. (w.out-is i).items))
          (put_on s old c.loop-doc.out.items c.loop-doc.out.items c.loop-doc.from k c.loop-doc.invariant (not-true _ (sym c.is_live.ensures ∙ w.if-not-is_live.false))))
    ]

pub returns : goal.returns
returns c =
    let s = c.args.segment.now in
    put_end s c.args.out.now.items c.loop-doc.out.items c.put_range-2.new.out.items c.loop-doc.from c.loop-doc.doc c.loop-doc.invariant (omega (arith, c.loop-doc-test.false, c.loop-doc.auto.doc-end, c.docs-doc-end.ensures.number))
    (subst (λ n. ArePut c.loop-doc.out.items c.put_range-2.new.out.items (take (n - c.loop-doc.from) (drop c.loop-doc.from s.records))) c.docs.ensures.number c.in_ok-put_range-2.ensures)
