-- The bytes of a segment whose records are not all live.
use Rattle.std.proofs.Common.{◌≡◌, ℕ, List, refl, subst}
use Rattle.facet_model.specs.Stored.{Records}
use Rattle.seg_grammar.specs.Spelling.{IsSegment, all_live, seg_bytes}
use Rattle.seg_file.specs.Live.{with_dead}

-- they are the same bytes
pub same_bytes : (r : Records) (dead : List ℕ) → seg_bytes (with_dead r dead) ≡ seg_bytes r
unfolding seg_bytes
same_bytes r dead = refl

-- which are the segment with all records live
pub all_live_is : (r value : Records) (dead : List ℕ) → with_dead r dead ≡ value → IsSegment (seg_bytes r) r → IsSegment (seg_bytes value) (all_live value)
unfolding seg_bytes
all_live_is r value dead view is = subst (λ (v : Records). IsSegment (seg_bytes v) (all_live v)) view (record {
  spelled = refl;
  some = is.some;
  few = is.few;
  records = is.records;
  terms_count = is.terms_count;
  terms = is.terms;
  rise = is.rise;
  live = refl;
})
