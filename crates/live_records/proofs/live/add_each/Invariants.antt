use Rattle.std.proofs.Common.{◌≡◌, ◌||◌, ℕ, take}
use Rattle.seg_postings.specs.Rising.{is_in}
use Rattle.live_records.proofs.live.add_each.Given as goal

abbrev pub invariant-loop-k : goal.invariant-loop-k
invariant-loop-k l = record {
  words : l.set.words ≡ l.fn.set.words;
  added : (n : ℕ) → is_in n l.set.places ≡ (is_in n l.fn.set.places || is_in n (take l.k l.places));
}
