-- A search, read in two steps: the parts that take no memory, and then the others.
use Rattle.std.specs.Prelude.{false, [], codes, Option, Some}
use Rattle.serde_json.specs.Data.{Data}
use Rattle.serde_json.specs.Find.{as_bool}
use Rattle.facet_model.specs.Queries.{all}
use Rattle.facet_words.specs.CommandLines.{ask_of, most_hits}
use Rattle.facet_words.specs.Commands.{Search}
use Rattle.facet_words.specs.Queries.{query_of}
use Rattle.facet_words.specs.Shapes.{◌>>=◌, whole_within, list_within, path, key_or}
use Rattle.facet_words.specs.declared.parts.SearchSettings.{SearchSettings}

-- the parts that take no memory
unfoldable pub search_settings : Data → Option SearchSettings
search_settings d = do
  sideways ← key_or (codes "sideways") false as_bool d
  newest ← key_or (codes "newest") false as_bool d
  show ← key_or (codes "show") false as_bool d
  from ← key_or (codes "from") 0 (whole_within 0 1000000) d
  hits ← key_or (codes "hits") 10 (whole_within 0 (most_hits show)) d
  Some (record { sideways = sideways; newest = newest; show = show; from = from; hits = hits })

-- the whole search, given those
unfoldable pub settled_search : SearchSettings → Data → Option Search
settled_search s d = do
  query ← key_or (codes "query") all query_of d
  drill ← key_or (codes "drill") [] (list_within 0 256 path) d
  asks ← key_or (codes "ask") [] (list_within 0 64 ask_of) d
  Some (record {
    query = query;
    drill = drill;
    sideways = s.sideways;
    asks = asks;
    newest = s.newest;
    show = s.show;
    from = s.from;
    hits = s.hits;
  })
