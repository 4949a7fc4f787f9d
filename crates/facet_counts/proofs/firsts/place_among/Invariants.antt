use Rattle.std.proofs.Common.{◌≡◌, ◌<◌, ◌≤◌, ◌-◌, true, false, length, map, get_or}
use Rattle.std.specs.Ordering.{is_lt}
use Rattle.facet_model.specs.Listing.{listing_cmp}
use Rattle.facet_counts.specs.Firsts.{standing}
use Rattle.facet_counts.proofs.firsts.place_among.Given as goal

abbrev pub invariant-loop-low : goal.invariant-loop-low
invariant-loop-low l =
    record {
      some : 0 < l.low;
      order : l.low ≤ l.high;
      within : l.high < length l.candidates;
      after : is_lt (listing_cmp (standing l.child) (get_or (map standing l.candidates) (l.low - 1) (standing l.child))) ≡ false;
      before : is_lt (listing_cmp (standing l.child) (get_or (map standing l.candidates) l.high (standing l.child))) ≡ true;
    }

abbrev pub decreases-loop-low : goal.decreases-loop-low
decreases-loop-low l = l.high - l.low
