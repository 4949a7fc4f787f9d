-- Adding up numbers step by step.
use Rattle.std.proofs.Common.{◌≡◌, ℕ, ℤ, ◌<◌, cond, List, [], ◌∷◌, ◌++◌, length, get_or, Option, Some, None, sym, ap, ◌∙◌, arith}
use Rattle.std.specs.Prelude.{fold}
use Rattle.std.proofs.lemmas.Bool.{ne_eqb}
use Rattle.std.proofs.lemmas.Grind.{flat_map-append}
use Rattle.std.proofs.lemmas.List.{append-nil}
use Rattle.std.proofs.lemmas.List.Sums.{fold-append}
use Rattle.sideways.specs.Counted.{PartLeft}
use Rattle.value_facets.specs.Hits.{leaves_at, leaves_of}
use Rattle.value_facets.specs.Summing.{AreAdded, AreTotals, plus, weight_below, numbers_below, all_below}
use Rattle.value_facets.specs.declared.weights.Weight.{Weight}

-- After these sums the rest of the numbers lead to the same as all from the first ones on.
pub record AreLeft (all rest : ℕ → List ℤ) (old now : List (Option ℤ)) : Type 0 where
  pub as_many : length now ≡ length old
  pub each : (part : ℕ) → 0 < part → part < length old → fold plus (get_or now part None) (rest part) ≡ fold plus (get_or old part None) (all part)

-- ---- labels and records

-- a label adds nothing elsewhere
pub none_below : (w : Weight) (part : ℕ) → (w.part ≡ part → ⊥) → weight_below w part ≡ None
none_below w part apart = ap (λ b. cond b (Some w.number) None) (ne_eqb w.part part apart)

-- the numbers of one more segment were added
pub totals_more : (size : ℕ) (weights : List Weight) (parts : List PartLeft) (part : PartLeft) (old new : List (Option ℤ)) → AreTotals size weights (leaves_of parts) old → AreAdded (all_below weights (leaves_at part.segment part.left)) old new → AreTotals size weights (leaves_of (parts ++ part ∷ [])) new
totals_more size weights parts part old new so_far added = (
  added.as_many ∙ so_far.0,
  λ at some lt. added.each at some (omega (arith, lt, so_far.0))
      ∙ ap (λ s. fold plus s (all_below weights (leaves_at part.segment part.left) at)) (so_far.1 at some lt)
      ∙ sym (fold-append plus None (all_below weights (leaves_of parts) at) (all_below weights (leaves_at part.segment part.left) at))
      ∙ ap (fold plus None) (sym (more at)),
)
  where
    more : (at : ℕ) → all_below weights (leaves_of (parts ++ part ∷ [])) at ≡ all_below weights (leaves_of parts) at ++ all_below weights (leaves_at part.segment part.left) at
    more at =
        ap (λ l. all_below weights l at) (flat_map-append (λ (p : PartLeft). leaves_at p.segment p.left) parts (part ∷ []) ∙ ap (λ l. leaves_of parts ++ l) (append-nil (leaves_at part.segment part.left)))
        ∙ flat_map-append (λ leaves. numbers_below weights leaves at) (leaves_of parts) (leaves_at part.segment part.left)
