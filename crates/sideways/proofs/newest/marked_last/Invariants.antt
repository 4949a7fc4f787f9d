use Rattle.std.proofs.Common.{◌≡◌, ◌≤◌, length}
use Rattle.seg_postings.specs.Rising.{from_place}
use Rattle.sideways.proofs.newest.marked_last.Given as goal

abbrev pub invariant-loop-place : goal.invariant-loop-place
invariant-loop-place l = record {
  last : l.last.items ≡ from_place l.place l.set.places;
  few : length l.last.items ≤ l.most;
  low : l.place ≤ l.docs;
}

abbrev pub decreases-loop-place : goal.decreases-loop-place
decreases-loop-place l = l.place
