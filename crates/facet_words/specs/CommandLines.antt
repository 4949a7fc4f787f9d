-- What the value of a line is: a command of a session.
use Rattle.std.specs.Prelude.{ℕ, if◌then◌else◌, Bool, false, List, [], ◌∷◌, codes, Option, Some, None, option_map}
use Rattle.std.specs.Option.{option_or}
use Rattle.std.specs.Str.{bytes_eq}
use Rattle.serde_json.specs.Data.{Data}
use Rattle.serde_json.specs.Find.{as_str, as_bool}
use Rattle.facet_model.specs.Documents.{Doc}
use Rattle.facet_model.specs.Asks.{Asked, top, one_value, all_dims}
use Rattle.facet_model.specs.Queries.{all}
use Rattle.number_facets.specs.Values.{Range}
use Rattle.facet_words.specs.Commands.{Search, Counted, Command, add, refresh, hold, release, search, ranges, sums}
use Rattle.facet_words.specs.Commands.{document, stats, commit, merge}
use Rattle.facet_words.specs.Queries.{query_of}
use Rattle.facet_words.specs.Shapes.{◌>>=◌, when, whole, signed, text_within, whole_within, list_within, path, key}
use Rattle.facet_words.specs.Shapes.{key_or, keys_among}

-- ---- the asks of a search

unfoldable pub top_ask : Data → Option Asked
top_ask d = do
  parts ← key (codes "top") path d
  n ← key (codes "n") (whole_within 0 4294967295) d
  when (keys_among (codes "top" ∷ codes "n" ∷ []) d) (top parts n)

unfoldable pub value_ask : Data → Option Asked
value_ask d = do
  parts ← key (codes "specific") path d
  when (keys_among (codes "specific" ∷ []) d) (one_value parts)

unfoldable pub dims_ask : Data → Option Asked
dims_ask d = do
  n ← key (codes "all") (whole_within 0 4294967295) d
  when (keys_among (codes "all" ∷ []) d) (all_dims n)

unfoldable pub ask_of : Data → Option Asked
ask_of d = option_or (top_ask d) (option_or (value_ask d) (dims_ask d))

-- ---- the parts of commands

-- the document of an add
unfoldable pub added_of : Data → Option Doc
added_of d = do
  id ← key (codes "id") (text_within 1 256) d
  text ← key_or (codes "text") [] (text_within 0 65536) d
  facets ← key_or (codes "facets") [] (list_within 0 256 path) d
  when (keys_among (codes "cmd" ∷ codes "s" ∷ codes "id" ∷ codes "text" ∷ codes "facets" ∷ []) d)
      (record { id = id; text = text; labels = facets })

-- how many hits a search may list, fewer if it shows their content
abbrev pub most_hits : Bool → ℕ
most_hits show = if show then 1000 else 1000000

-- a search that has no other keys than these
unfoldable pub search_with : List (List ℕ) → Data → Option Search
search_with keys d = do
  query ← key_or (codes "query") all query_of d
  drill ← key_or (codes "drill") [] (list_within 0 256 path) d
  sideways ← key_or (codes "sideways") false as_bool d
  asks ← key_or (codes "ask") [] (list_within 0 64 ask_of) d
  newest ← key_or (codes "newest") false as_bool d
  show ← key_or (codes "show") false as_bool d
  from ← key_or (codes "from") 0 (whole_within 0 1000000) d
  hits ← key_or (codes "hits") 10 (whole_within 0 (most_hits show)) d
  when (keys_among keys d)
      (record {
        query = query;
        drill = drill;
        sideways = sideways;
        asks = asks;
        newest = newest;
        show = show;
        from = from;
        hits = hits;
      })

-- what is counted or added up over which documents, with no other keys than these
unfoldable pub counted_with : List (List ℕ) → Data → Option Counted
counted_with keys d = do
  query ← key_or (codes "query") all query_of d
  drill ← key_or (codes "drill") [] (list_within 0 256 path) d
  dim ← key (codes "dim") (text_within 1 1024) d
  when (keys_among keys d) (record { query = query; drill = drill; dim = dim })

-- a range with its name and its ends
unfoldable pub range_of : Data → Option Range
range_of d = do
  name ← key (codes "name") (text_within 1 64) d
  min ← key (codes "min") signed d
  max ← key (codes "max") signed d
  min_open ← key_or (codes "min_open") false as_bool d
  max_open ← key_or (codes "max_open") false as_bool d
  when (keys_among (codes "name" ∷ codes "min" ∷ codes "max" ∷ codes "min_open" ∷ codes "max_open" ∷ []) d)
      (record { name = name; min = min; max = max; min_open = min_open; max_open = max_open })

-- the place of a document, with no other keys than these
unfoldable pub place_with : List (List ℕ) → Data → Option ℕ
place_with keys d = do
  at ← key (codes "at") (whole_within 0 4294967295) d
  when (keys_among keys d) at

-- a command without further keys
unfoldable pub plain_of : {A : Type 0} → A → Data → Option A
plain_of command d = when (keys_among (codes "cmd" ∷ codes "s" ∷ []) d) command

-- the number of the session, and the name of the command
unfoldable pub heading_of : Data → Option (ℕ × List ℕ)
heading_of d = do
  session ← key (codes "s") whole d
  name ← key (codes "cmd") as_str d
  Some (session, name)

-- ---- commands

-- a name to hold a pair under
abbrev pub held_name : Data → Option (List ℕ)
held_name d = text_within 1 64 d

-- the name under `on`, if there is one
abbrev pub on_of : Data → Option (Option (List ℕ))
on_of d = key_or (codes "on") None (λ v. option_map Some (held_name v)) d

-- the name of a hold or a release, with no further keys
unfoldable pub name_of : Data → Option (List ℕ)
name_of d = do
  name ← key (codes "name") held_name d
  when (keys_among (codes "cmd" ∷ codes "s" ∷ codes "name" ∷ []) d) name

unfoldable pub search_of : Data → Option Command
search_of d = do
  on ← on_of d
  option_map (search on)
      (search_with (codes "cmd" ∷ codes "s" ∷ codes "on" ∷ codes "query" ∷ codes "drill" ∷ codes "sideways"
      ∷ codes "ask" ∷ codes "newest" ∷ codes "show" ∷ codes "from" ∷ codes "hits" ∷ []) d)

unfoldable pub ranges_of : Data → Option Command
ranges_of d = do
  on ← on_of d
  counted ← counted_with (codes "cmd" ∷ codes "s" ∷ codes "on" ∷ codes "query" ∷ codes "drill" ∷ codes "dim"
      ∷ codes "ranges" ∷ []) d
  rs ← key (codes "ranges") (list_within 1 64 range_of) d
  Some (ranges on counted rs)

unfoldable pub sums_of : Data → Option Command
sums_of d = do
  on ← on_of d
  counted ← counted_with (codes "cmd" ∷ codes "s" ∷ codes "on" ∷ codes "query" ∷ codes "drill" ∷ codes "dim"
      ∷ codes "n" ∷ []) d
  n ← key (codes "n") (whole_within 0 4294967295) d
  Some (sums on counted n)

unfoldable pub document_of : Data → Option Command
document_of d = do
  on ← on_of d
  option_map (document on) (place_with (codes "cmd" ∷ codes "s" ∷ codes "on" ∷ codes "at" ∷ []) d)

unfoldable pub stats_of : Data → Option Command
stats_of d = do
  on ← on_of d
  when (keys_among (codes "cmd" ∷ codes "s" ∷ codes "on" ∷ []) d) (stats on)

unfoldable pub command_named : List ℕ → Data → Option Command
command_named name d =
    if bytes_eq name (codes "add") then option_map add (added_of d)
    else (if bytes_eq name (codes "refresh") then plain_of refresh d
    else (if bytes_eq name (codes "hold") then option_map hold (name_of d)
    else (if bytes_eq name (codes "release") then option_map release (name_of d)
    else (if bytes_eq name (codes "search") then search_of d
    else (if bytes_eq name (codes "ranges") then ranges_of d
    else (if bytes_eq name (codes "sums") then sums_of d
    else (if bytes_eq name (codes "document") then document_of d
    else (if bytes_eq name (codes "stats") then stats_of d
    else (if bytes_eq name (codes "commit") then plain_of commit d
    else (if bytes_eq name (codes "merge") then plain_of merge d
    else None))))))))))

-- the session's number, and the command
unfoldable pub command_of : Data → Option (ℕ × Command)
command_of d = do
  heading ← heading_of d
  command ← command_named heading.1 d
  Some (heading.0, command)
