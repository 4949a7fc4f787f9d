-- Scripts, as plain data.
use Rattle.std.specs.Prelude.{ℕ, List, Bool, Option}
use Rattle.facet_model.specs.Flags.{Config}
use Rattle.facet_model.specs.Documents.{Doc}
use Rattle.facet_model.specs.Asks.{Asked}
use Rattle.facet_model.specs.Queries.{QueryTree}
use Rattle.number_facets.specs.Values.{Range}

-- what the config line sets: the declared dimensions, how many documents and labels there may be, the latter with the
-- root, and how the cache of labels is made
pub record Settings : Type 0 where
  pub config : Config
  pub max_docs : ℕ
  pub max_labels : ℕ
  pub stripes : ℕ
  pub cache : ℕ
  -- whether a refresh and a commit first merge segments if there are too many
  pub auto_merge : Bool

-- What a search has to match and to be under, what it asks to be counted, and the hits that it lists: at most so many,
-- from one on, in order or from the last document on, with or without their content. Sideways each dimension is counted
-- as if the drill did not name it.
pub record Search : Type 0 where
  pub query : QueryTree
  pub drill : List (List (List ℕ))
  pub sideways : Bool
  pub asks : List Asked
  pub newest : Bool
  pub show : Bool
  pub from : ℕ
  pub hits : ℕ

-- What documents have to match and to be under whose numbers in a dimension are counted or added up.
pub record Counted : Type 0 where
  pub query : QueryTree
  pub drill : List (List (List ℕ))
  pub dim : List ℕ

-- With a name, a command sees the pair that the session holds under it; without one, the pair that was published last.
pub data Command : Type 0 where
  add : Doc → Command
  refresh : Command
  hold : List ℕ → Command
  release : List ℕ → Command
  search : Option (List ℕ) → Search → Command
  ranges : Option (List ℕ) → Counted → List Range → Command
  sums : Option (List ℕ) → Counted → ℕ → Command
  document : Option (List ℕ) → ℕ → Command
  stats : Option (List ℕ) → Command
  commit : Command
  merge : Command

-- a command with its session and its line
pub record Order : Type 0 where
  pub session : ℕ
  pub line : ℕ
  pub command : Command

-- the settings, and phase by phase the orders, in line order
pub record Script : Type 0 where
  pub settings : Settings
  pub phases : List (List Order)
