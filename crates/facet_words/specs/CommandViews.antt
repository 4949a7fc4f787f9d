-- The plain data of a script, its settings and its commands.
use Rattle.std.specs.Prelude.{box_value, map}
use Rattle.facet_model.specs.AskViews.{ask_view}
use Rattle.facet_model.specs.QueryViews.{query_view}
use Rattle.facet_words.specs.Commands as plain
use Rattle.facet_words.specs.declared.command.Command.{Command}
use Rattle.facet_words.specs.declared.command.Command.TheVariants as commands
use Rattle.facet_words.specs.declared.command.Order.{Order}
use Rattle.facet_words.specs.declared.command.Script.{Script}
use Rattle.facet_words.specs.declared.parts.CountedLine.{CountedLine}
use Rattle.facet_words.specs.declared.parts.SearchLine.{SearchLine}
use Rattle.facet_words.specs.declared.settings.Settings.{Settings}

abbrev pub search_view : SearchLine → plain.Search
search_view s = record {
  query = query_view s.query;
  drill = s.drill;
  sideways = s.sideways;
  asks = map ask_view s.asks.items;
  newest = s.newest;
  show = s.show;
  from = s.from;
  hits = s.hits;
}

abbrev pub counted_view : CountedLine → plain.Counted
counted_view c = record { query = query_view c.query; drill = c.drill; dim = c.dim }

abbrev pub settings_view : Settings → plain.Settings
settings_view s = record {
  config = s.config;
  max_docs = s.max_docs;
  max_labels = s.max_labels;
  stripes = s.stripes;
  cache = s.cache;
  auto_merge = s.auto_merge;
}

abbrev pub command_view : Command → plain.Command
command_view (commands.Add doc) = plain.add doc
command_view commands.Refresh = plain.refresh
command_view (commands.Hold name) = plain.hold name
command_view (commands.Release name) = plain.release name
command_view (commands.Search on line) = plain.search on (search_view (box_value line))
command_view (commands.Ranges on line ranges) = plain.ranges on (counted_view (box_value line)) ranges.items
command_view (commands.Sums on line n) = plain.sums on (counted_view (box_value line)) n
command_view (commands.Document on at) = plain.document on at
command_view (commands.Stats on) = plain.stats on
command_view commands.Commit = plain.commit
command_view commands.Merge = plain.merge

abbrev pub order_view : Order → plain.Order
order_view o = record { session = o.session; line = o.line; command = command_view o.command }

abbrev pub script_view : Script → plain.Script
script_view s = record {
  settings = settings_view s.settings;
  phases = map (λ orders. map order_view orders.items) s.phases.items;
}
