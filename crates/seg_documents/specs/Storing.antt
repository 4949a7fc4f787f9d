-- What holds of each segment that a commit may store.
use Rattle.std.specs.Prelude.{◌≤◌, List, length}
use Rattle.std.specs.List.{AllByRecursion}
use Rattle.facet_codec.specs.Laws.{IsBelow}
use Rattle.facet_model.specs.Stored.{Records, live_before}
use Rattle.seg_grammar.specs.Spelling.{IsSegment, all_live, seg_bytes}
use Rattle.seg_postings.specs.Rising.{IsRising}

-- It is read from its own bytes, in which all records are live. The places of those that are no longer live rise, and
-- one record at least is live.
pub record IsStored (s : Records) : Type 0 where
  pub own : IsSegment (seg_bytes s) (all_live s)
  pub rise : IsRising s.dead
  pub below : AllByRecursion (IsBelow (length s.records)) s.dead
  pub some : 1 ≤ live_before s.dead (length s.records)

abbrev pub AreStored : List Records → Type 0
AreStored segments = AllByRecursion IsStored segments
