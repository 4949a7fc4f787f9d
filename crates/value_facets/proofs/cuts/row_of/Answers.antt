use Rattle.std.proofs.Common.{◌≡◌, ℕ, ℤ, Bool, List, ap, sym, ◌∙◌, pos, to_z, of_z, w64}
use Rattle.std.specs.declared.alloc.Global.{Global}
use Rattle.std.specs.declared.vec.Vec.{Vec}
use Rattle.std.proofs.lemmas.List.{get_or_default}
use Rattle.number_facets.specs.Bounds.{is_within}
use Rattle.value_facets.specs.Cuts.{bound_at}
use Rattle.value_facets.proofs.Rows.{row_left, row_taken}
use Rattle.value_facets.proofs.cuts.row_of.Goals as goal
use Rattle.value_facets.proofs.cuts.row_of.Goals.{then-has_number+in_ok-push, else-has_number}

pub loop-k-preserved : goal.loop-k-preserved
loop-k-preserved c =
    let bounds : List (ℤ × ℤ) = c.args.bounds.now in
    let number : ℤ = to_z w64 (of_z w64 c.args.number) in
    let k : ℕ = c.loop-k.k in
    let test : ℕ → Bool = λ j. is_within (bound_at bounds j) number in
    let told : test k ≡ c.has_number.result = ap (λ b. is_within b number) (get_or_default bounds k (pos 1, pos 0) (pos 0, pos 0) c.loop-k-test.true) ∙ sym c.has_number.ensures in
    elim c.if-has_number.branch [
      | then-has_number+in_ok-push w ↦ row_taken test k c.loop-k.row.items c.if-has_number.row.items c.loop-k.invariant (told ∙ w.if-has_number.true) (ap (λ (v : Vec ℕ Global). v.items) w.row-is ∙ w.in_ok-push.ensures.items)
      | else-has_number w ↦ row_left test k c.loop-k.row.items c.if-has_number.row.items c.loop-k.invariant (told ∙ w.if-has_number.false) (ap (λ (v : Vec ℕ Global). v.items) w.row-is)
    ]
