-- The lists of ordinals of a column.
use Rattle.std.specs.Prelude.{List, ℕ}
use Rattle.facet_model.specs.Flags.{Config}
use Rattle.seg_postings.specs.Bytes.{AreNumbers}
use Rattle.seg_postings.specs.Rising.{IsRising}
use Rattle.facet_counts.specs.Lists.{IsCounted}

-- The ordinals rise and may be counted.
pub record MayBeListed (config : Config) (labels : List (List (List ℕ))) (ords : List ℕ) : Type 0 where
  pub rising : IsRising ords
  pub counted : IsCounted config labels ords

-- the bytes are such ordinals and nothing else
abbrev pub AreListed : Config → List (List (List ℕ)) → List ℕ → Type 0
AreListed config labels bytes = (ords : List ℕ) × AreNumbers bytes ords × MayBeListed config labels ords
