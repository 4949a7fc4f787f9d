-- A segment whose records are not all live.
use Rattle.std.specs.Prelude.{◌≡◌, ℕ, List, [], map, length}
use Rattle.facet_model.specs.Stored.{Records}
use Rattle.live_records.specs.Live.{Live}

-- the same records and terms, and these places are no longer live
abbrev pub with_dead : Records → List ℕ → Records
with_dead r dead = record { records = r.records; terms = r.terms; dead = dead }

-- The bytes' records are all live; the column has their counted ordinals; and it is known of each whether it is live
-- now.
pub record IsKept (stored : Records) (lists : List (List ℕ)) (live : Live) : Type 0 where
  pub whole : stored.dead ≡ []
  pub column : lists ≡ map (λ r. r.counted) stored.records
  pub docs : live.docs ≡ length stored.records
