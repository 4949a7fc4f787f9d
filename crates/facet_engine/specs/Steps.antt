-- What a session has seen, as plain data, and the steps that its calls are.
use Rattle.std.specs.Prelude.{◌-◌, ℕ, List, length, map, slice_get, Option, Some, None, option_map, Result, Ok, Err}
use Rattle.chronicle.specs.History.{entries}
use Rattle.commit_plan.specs.declared.fault.CommitFault.{CommitFault}
use Rattle.facet_model.specs.Documents.{Doc}
use Rattle.facet_output.specs.Replies.{Reply, refused, no_memory}
use Rattle.facet_output.specs.Seen.{CommitPoint, Seen}
use Rattle.facet_output.specs.Steps.{Step}
use Rattle.facet_words.specs.Commands.{Search, Counted, Command, add, refresh, hold, release, search, ranges, sums}
use Rattle.facet_words.specs.Commands.{document, stats, commit, merge}
use Rattle.number_facets.specs.Values.{Range}
use Rattle.pair_manager.specs.declared.manager.Stats.{Stats}
use Rattle.pair_manager.specs.declared.pass.Pass.{Pass}
use Rattle.pair_manager.specs.declared.point.CommitPoint.{CommitPoint as Point}
use Rattle.pair_manager.specs.Published.{numbers}
use Rattle.facet_adding.specs.declared.adding.AddFault.{AddFault}
use Rattle.facet_adding.specs.declared.adding.AddFault.TheVariants as adds
use Rattle.facet_engine.specs.declared.holding.HoldFault.{HoldFault}
use Rattle.pair_search.specs.declared.ranging.RangesAnswer.{RangesAnswer}
use Rattle.pair_search.specs.declared.ranging.RangesFault.{RangesFault}
use Rattle.pair_search.specs.declared.searching.SearchAnswer.{SearchAnswer}
use Rattle.pair_search.specs.declared.searching.SearchFault.{SearchFault}
use Rattle.pair_search.specs.declared.showing.DocumentFault.{DocumentFault}
use Rattle.pair_search.specs.declared.showing.Shown.{Shown}
use Rattle.pair_search.specs.declared.summing.SumsAnswer.{SumsAnswer}
use Rattle.pair_search.specs.declared.summing.SumsFault.{SumsFault}
use Rattle.facet_engine.specs.Replies.{add_reply, refresh_reply, hold_reply, release_reply, stats_reply, commit_reply}
use Rattle.facet_engine.specs.Replies.{merge_reply}
use Rattle.pair_search.specs.Replies.{search_reply, ranges_reply, sums_reply, document_reply}

-- a point as the output's definitions have it
abbrev pub point_of : Point → CommitPoint
point_of p = record { operations = p.operations; labels = p.labels; failed = p.failed }

-- what the four tokens have seen
abbrev pub seen_of : Pass → Seen
seen_of pass = record {
  labels = pass.labels.seen;
  operations = map (λ e. (e.0, e.1.change)) pass.operations.seen;
  pairs = map (λ e. (e.0, numbers e.1)) pass.pairs.seen;
  commits = map (λ e. (e.0, point_of e.1)) pass.commits.seen;
}

-- The step of the session of the pass: its command, the pair that it took, the place of the pair that it took or
-- published, how many operations it saw when it was refused for documents, and the reply.
abbrev pub step_of : Command → Option (ℕ × ℕ) → Option ℕ → Option ℕ → Reply → Pass → Pass → ℕ → ℕ → Step
step_of command took place saw reply old new phase line = record {
  answered = record {
    phase = phase;
    order = record { session = old.labels.number; line = line; command = command };
    took = took;
    place = place;
    saw = saw;
    reply = reply;
  };
  before = seen_of old;
  after = seen_of new;
}

-- a change that was refused for documents saw all operations that its session has seen then
abbrev pub operations_seen : Pass → Result ℕ AddFault → Option ℕ
operations_seen pass (Err (adds.DocsFull count)) = Some (length pass.operations.seen)
operations_seen pass _ = None

abbrev pub added : Doc → Pass → Pass → Result ℕ AddFault → ℕ → ℕ → Step
added doc old new result = step_of (add doc) None None (operations_seen new result) (add_reply result) old new

-- the place of the last pair that was seen
abbrev pub last_place : Pass → ℕ
last_place pass = length pass.pairs.seen - 1

-- a pair that was published is the last one
abbrev pub refresh_place : {E : Type 0} → ℕ → Result ℕ E → Option ℕ
refresh_place last (Ok n) = Some last
refresh_place last (Err fault) = None

abbrev pub refreshed : {E : Type 0} → Pass → Pass → Result ℕ E → ℕ → ℕ → Step
refreshed old new result =
    step_of refresh None (refresh_place (last_place new) result) None (refresh_reply result) old new

abbrev pub committed : Pass → Pass → Result ℕ CommitFault → ℕ → ℕ → Step
committed old new result = step_of commit None None None (commit_reply result) old new

-- a merge takes no pair, and publishes none
abbrev pub segments_merged : {E : Type 0} → Pass → Pass → Result (Unit {0}) E → ℕ → ℕ → Step
segments_merged old new result = step_of merge None None None (merge_reply result) old new

-- ---- a pair is taken

-- the numbers of the last pair that was seen
abbrev pub last_pair : Pass → Option (ℕ × ℕ)
last_pair pass = option_map numbers (slice_get (entries pass.pairs.seen) (last_place pass))

-- without a name a command takes the last pair, but where it finds no memory
abbrev pub pair_taken : Option (List ℕ) → Reply → Pass → Option (ℕ × ℕ)
pair_taken None (refused no_memory) pass = None
pair_taken None reply pass = last_pair pass
pair_taken (Some name) reply pass = None

-- The step of a command that takes such a pair.
abbrev pub taking : Command → Option (ℕ × ℕ) → Reply → Pass → Pass → ℕ → ℕ → Step
taking command took reply old new =
    step_of command took (option_map (λ pair. last_place new) took) None reply old new

-- a hold takes the pair that it holds
abbrev pub hold_took : {E : Type 0} → Result ℕ E → Pass → Option (ℕ × ℕ)
hold_took (Ok n) pass = last_pair pass
hold_took (Err fault) pass = None

abbrev pub pair_held : List ℕ → Pass → Pass → Result ℕ HoldFault → ℕ → ℕ → Step
pair_held name old new result = taking (hold name) (hold_took result new) (hold_reply result) old new

abbrev pub released : {E : Type 0} → List ℕ → Pass → Result ℕ E → ℕ → ℕ → Step
released name pass result = taking (release name) None (release_reply result) pass pass

abbrev pub searched : Option (List ℕ) → Search → Pass → Pass → Result SearchAnswer SearchFault → ℕ → ℕ → Step
searched on s old new result =
    taking (search on s) (pair_taken on (search_reply result) new) (search_reply result) old new

abbrev pub ranged : Option (List ℕ) → Counted → List Range → Pass → Pass → Result RangesAnswer RangesFault → ℕ → ℕ
    → Step
ranged on c rs old new result =
    taking (ranges on c rs) (pair_taken on (ranges_reply result) new) (ranges_reply result) old new

abbrev pub summed : Option (List ℕ) → Counted → ℕ → Pass → Pass → Result SumsAnswer SumsFault → ℕ → ℕ → Step
summed on c n old new result =
    taking (sums on c n) (pair_taken on (sums_reply result) new) (sums_reply result) old new

abbrev pub documented : Option (List ℕ) → ℕ → Pass → Pass → Result Shown DocumentFault → ℕ → ℕ → Step
documented on at old new result =
    taking (document on at) (pair_taken on (document_reply at result) new) (document_reply at result) old new

abbrev pub counted : {E : Type 0} → Option (List ℕ) → Pass → Pass → Result Stats E → ℕ → ℕ → Step
counted on old new result = taking (stats on) (pair_taken on (stats_reply result) new) (stats_reply result) old new
