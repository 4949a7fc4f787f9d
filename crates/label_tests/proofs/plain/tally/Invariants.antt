use Rattle.std.proofs.Common.{◌≡◌, ◌<◌, ◌≤◌, ℕ, List, length, unwrap_or}
use Rattle.std.specs.Prelude.{count_by, sum_by, IfSome}
use Rattle.std.specs.BTreeMap.{get, values, IsOrdered}
use Rattle.std.specs.Str.{bytes_eq}
use Rattle.facet_model.specs.Words.{word_cmp}
use Rattle.label_tests.proofs.plain.tally.Given as goal

abbrev pub invariant-loop-part : goal.invariant-loop-part
invariant-loop-part l = record {
  counts : (q : List ℕ) → unwrap_or (get word_cmp l.counts q) 0 ≡ count_by (bytes_eq q) l.yielded;
  positive : (q : List ℕ) → IfSome (get word_cmp l.counts q) (λ n. 0 < n);
  ordered : IsOrdered word_cmp l.counts;
  total : sum_by (λ n. n) (values l.counts) ≡ length l.yielded;
  few : length l.counts.entries ≤ length l.yielded;
}
