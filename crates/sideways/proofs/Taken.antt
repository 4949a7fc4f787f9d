-- The next place of those that a part has left.
use Rattle.std.proofs.Common.{◌≡◌, ℕ, ◌<◌, List, length, Option, Some, None, sym, subst, ◌∙◌}
use Rattle.std.specs.Prelude.{IfSome}
use Rattle.facet_model.specs.Stored.{Records}
use Rattle.place_bits.specs.Words.{Marked}
use Rattle.seg_drill.specs.Counting.{AreWithin, IsSetWithin}
use Rattle.seg_drill.proofs.Walked.{within_first, within_rest}
use Rattle.seg_postings.specs.Rising.{IsNext}

pub next_within : (segment : Records) (r : Option ℕ) (old new : List ℕ) → AreWithin segment old → IsNext r old new → AreWithin segment new
next_within segment None old new within next = subst (AreWithin segment) (next.0 ∙ sym next.1) within
next_within segment (Some x) old new within next = within_rest segment x new (subst (AreWithin segment) next within)

pub next_record : (segment : Records) (r : Option ℕ) (old new : List ℕ) → AreWithin segment old → IsNext r old new → IfSome r (λ place. place < length segment.records)
next_record segment None old new within next = tt
next_record segment (Some x) old new within next = within_first segment x new (subst (AreWithin segment) next within)

pub next_set : (segment : Records) (r : Option ℕ) (old new : Marked) → IsSetWithin segment old → IsNext r old.places new.places → new.words ≡ old.words → IsSetWithin segment new
next_set segment r old new within next words = record { words = words ∙ within.words; within = next_within segment r old.places new.places within.within next }
