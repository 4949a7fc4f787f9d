-- Segments of the same records.
use Rattle.std.specs.Prelude.{◌≡◌}
use Rattle.facet_model.specs.Stored.{Records}

-- The two have the same records and terms. Which records are live may differ.
pub record IsStoredAlike (one other : Records) : Type 0 where
  pub records : other.records ≡ one.records
  pub terms : other.terms ≡ one.terms
