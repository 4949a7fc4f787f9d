use Rattle.std.proofs.Common.{arith, ap, sym, ◌≡◌, ◌<◌, ◌≤◌, ◌+◌, ◌⊎◌, ◌∙◌, ℕ, true, length, get_or, inl, inr}
use Rattle.std.proofs.lemmas.Bool.{cases_eq}
use Rattle.facet_model.specs.Flags.{flags}
use Rattle.facet_counts.specs.Lists.{dim_at}
use Rattle.label_tests.proofs.Rises.{rises}
use Rattle.label_tests.proofs.counts.may_be_added.Goals as goal
use Rattle.label_tests.proofs.counts.may_be_added.Goals.{else-ords-gt1-via-then-ords-gt1+else-not-is_multi_valued, else-ords-gt1-via-else-ords-gt1}

pub loop-ord-preserved : goal.loop-ord-preserved
loop-ord-preserved c = (λ i lt. bounds i lt (cases_eq i c.loop-ord.ord-index), λ i j less lt. rises i j less lt (cases_eq j c.loop-ord.ord-index), λ i lt long. several i lt long (cases_eq i c.loop-ord.ord-index))
  where
    bounds : (i : ℕ) → i < c.loop-ord.ord-index + 1 → (i ≡ c.loop-ord.ord-index) ⊎ (i ≡ c.loop-ord.ord-index → ⊥) → (0 < get_or c.args.ords.now i 0) × (get_or c.args.ords.now i 0 < length c.args.view.now) × (get_or c.args.ords.now i 0 ≤ get_or c.args.ords.now c.loop-ord.ord-index 0)
    bounds i lt (inl same) =
        let is : get_or c.args.ords.now i 0 ≡ get_or c.args.ords.now c.loop-ord.ord-index 0 = ap (λ k. get_or c.args.ords.now k 0) same in
        (omega (arith, is, c.if-ord-last.false), omega (arith, is, c.if-ord-size.false, c.size.ensures.size), omega (arith, is))
    bounds i lt (inr apart) = let before = c.loop-ord.invariant.0 i (omega arith) in (before.0, before.1, omega (arith, before.2, c.if-ord-last.false))

    rises : (i j : ℕ) → i < j → j < c.loop-ord.ord-index + 1 → (j ≡ c.loop-ord.ord-index) ⊎ (j ≡ c.loop-ord.ord-index → ⊥) → get_or c.args.ords.now i 0 < get_or c.args.ords.now j 0
    rises i j less lt (inl same) =
        let is : get_or c.args.ords.now j 0 ≡ get_or c.args.ords.now c.loop-ord.ord-index 0 = ap (λ k. get_or c.args.ords.now k 0) same in
        let before = c.loop-ord.invariant.0 i (omega arith) in
        omega (arith, is, before.2, c.if-ord-last.false)
    rises i j less lt (inr apart) = c.loop-ord.invariant.1 i j less (omega arith)

    here : 1 < length c.args.ords.now → (flags c.args.config.now (dim_at c.args.view.now (get_or c.args.ords.now c.loop-ord.ord-index 0))).multi_valued ≡ true
    here long = elim c.else-ords-gt1.branch [ else-ords-gt1-via-then-ords-gt1+else-not-is_multi_valued w ↦ sym w.is_multi_valued.ensures ∙ w.if-not-is_multi_valued.false | else-ords-gt1-via-else-ords-gt1 w ↦ absurd (omega (arith, long, w.if-ords-gt1.false)) ]

    several : (i : ℕ) → i < c.loop-ord.ord-index + 1 → 1 < length c.args.ords.now → (i ≡ c.loop-ord.ord-index) ⊎ (i ≡ c.loop-ord.ord-index → ⊥) → (flags c.args.config.now (dim_at c.args.view.now (get_or c.args.ords.now i 0))).multi_valued ≡ true
    several i lt long (inl same) = ap (λ k. (flags c.args.config.now (dim_at c.args.view.now (get_or c.args.ords.now k 0))).multi_valued) same ∙ here long
    several i lt long (inr apart) = c.loop-ord.invariant.2 i (omega arith) long

pub returns-clause-rising : goal.returns-clause-rising
returns-clause-rising c = λ t. rises c.args.ords.now (λ i j less lt. c.loop-ord.invariant.1 i j less (omega arith))
