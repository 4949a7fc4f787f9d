use Rattle.std.proofs.Common.{arith, ap, sym, ◌≡◌, ◌-◌, ◌+◌, ◌/◌, ◌∙◌, ℕ, map, get_or}
use Rattle.std.specs.Ordering.{is_lt}
use Rattle.std.proofs.lemmas.List.{get_or-map}
use Rattle.facet_model.specs.Listing.{PartCount, listing_cmp}
use Rattle.facet_counts.specs.Firsts.{standing}
use Rattle.facet_counts.proofs.firsts.place_among.Goals as goal

pub loop-low-preserved : goal.loop-low-preserved
loop-low-preserved c =
    let child = c.args.child.now in
    let candidates = c.args.candidates.now in
    let middle : ℕ = c.loop-low.low + (c.loop-low.high - c.loop-low.low) / 2 in
    let behind : (middle + 1) - 1 ≡ middle = omega arith in
    record {
      some = omega arith;
      order = omega arith;
      within = c.loop-low.invariant.within;
      after = ap (λ i. is_lt (listing_cmp (standing child) (get_or (map standing candidates) i (standing child)))) behind
          ∙ ap (λ (e : PartCount). is_lt (listing_cmp (standing child) e)) (get_or-map standing candidates middle _ (standing child) (omega (arith, c.loop-low.invariant.within)))
          ∙ sym c.comes_before-in-loop-low.ensures ∙ c.if-comes_before-2.false;
      before = c.loop-low.invariant.before;
    }
