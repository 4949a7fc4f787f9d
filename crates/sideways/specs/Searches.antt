-- The plain data of a search over segments.
use Rattle.std.specs.Prelude.{◌+◌, ℕ, if◌then◌else◌, List, map}
use Rattle.std.specs.Arc.{arc_value}
use Rattle.std.specs.declared.alloc.Global.{Global}
use Rattle.std.specs.declared.sync.Arc.{Arc}
use Rattle.facet_model.specs.AskViews.{ask_view}
use Rattle.facet_model.specs.Flags.{Config}
use Rattle.facet_model.specs.QueryViews.{query_view}
use Rattle.facet_model.specs.Stored.{Records}
use Rattle.sideways.specs.Questions.{Question}
use Rattle.sideways.specs.declared.ask.SearchAsk.{SearchAsk}

-- a search, and the labels, the config and the segments that it searches
pub record Search : Type 0 where
  pub labels : List (List (List ℕ))
  pub config : Config
  pub segments : List Records
  pub ask : SearchAsk

-- How many places of hits are found with the counts: those that are passed, too. None is if the hits are listed from
-- the last one on.
abbrev pub wanted : SearchAsk → ℕ
wanted ask = if ask.newest then 0 else ask.from + ask.hits

-- the question of the search
abbrev pub question : Search → Question
question s = record {
  labels = s.labels;
  config = s.config;
  segments = s.segments;
  query = query_view s.ask.query;
  drill = s.ask.drill;
  asks = map ask_view s.ask.asks.items;
  hits = wanted s.ask;
  sideways = s.ask.sideways;
}

-- the records of the segments
abbrev pub records_of : List (Arc Records Global) → List Records
records_of segments = map arc_value segments

abbrev pub search_of : List (List (List ℕ)) → Config → List (Arc Records Global) → SearchAsk → Search
search_of labels config segments ask = record {
  labels = labels;
  config = config;
  segments = records_of segments;
  ask = ask;
}

abbrev pub question_of : List (List (List ℕ)) → Config → List (Arc Records Global) → SearchAsk → Question
question_of labels config segments ask = question (search_of labels config segments ask)
