use Rattle.std.proofs.Common.{rules, ◌≡◌, ◌+◌, ℕ, List, length, arith, ap, subst, ◌∙◌, FitsSigned, to_z-of_z, w64}
use Rattle.std.specs.declared.alloc.Global.{Global}
use Rattle.std.specs.declared.vec.Vec.{Vec}
use Rattle.std.proofs.lemmas.List.{length_push}
use Rattle.value_facets.specs.Cuts.{IsRow, cut_at}
use Rattle.value_facets.proofs.Rows.{row_before, rows_more}
use Rattle.value_facets.proofs.cuts.rows_of.Goals as goal

pub loop-cut-preserved : goal.loop-cut-preserved
loop-cut-preserved c =
    let n : ℕ = c.loop-cut.cut-index in
    let old : List (Vec ℕ Global) = c.loop-cut.rows.items in
    let one : Vec ℕ Global = c.in_ok-row_of.field-0 in
    let new : List (Vec ℕ Global) = c.push-in-loop-cut.new.self.items in
    let len : length old ≡ n + 1 = c.loop-cut.invariant.as_many in
    let fits : FitsSigned w64 (cut_at c.args.cuts.now n) = search rules in
    let row : IsRow c.args.bounds.now (cut_at c.args.cuts.now n) one.items = subst (λ number. IsRow c.args.bounds.now number one.items) (to_z-of_z fits) c.in_ok-row_of.ensures in
    record {
      as_many = ap length c.in_ok-push-2.ensures.items ∙ (length_push old one ∙ ap (λ k. k + 1) len);
      none = row_before old one new c.in_ok-push-2.ensures.items 0 (omega (arith, len)) ∙ c.loop-cut.invariant.none;
      each = rows_more old one new c.in_ok-push-2.ensures.items c.args.bounds.now c.args.cuts.now n len c.loop-cut.invariant.each row;
    }
