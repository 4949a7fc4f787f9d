-- A summary of the replies to a script of generated documents.
use Rattle.std.specs.Prelude.{if◌then◌else◌, not, Bool, true, false, List, [], filter_map, count_by, slice_get, Option}
use Rattle.std.specs.Prelude.{Some, None}
use Rattle.std.specs.List.{list_any}
use Rattle.std.specs.Option.{option_map_or}
use Rattle.facet_replies.specs.Replies.{Found, Numbers, Refusal, disk_failed, closed, numbers_spent, no_memory, Reply}
use Rattle.facet_replies.specs.Replies.{placed, found, stats, refused}
use Rattle.facet_replies.specs.Summaries.{Summary}

-- ---- a reply

-- an add returned a place
abbrev pub is_placed : Reply → Bool
is_placed (placed at) = true
is_placed _ = false

-- the refusals that only a commit returns, except out of memory
abbrev pub leaves_uncommitted : Refusal → Bool
leaves_uncommitted (disk_failed count) = true
leaves_uncommitted (closed count) = true
leaves_uncommitted (numbers_spent last) = true
leaves_uncommitted _ = false

-- a commit failed: on the disk, after an earlier failure, or for its file numbers
abbrev pub is_uncommitted : Reply → Bool
is_uncommitted (refused r) = leaves_uncommitted r
is_uncommitted _ = false

abbrev pub is_no_memory : Refusal → Bool
is_no_memory no_memory = true
is_no_memory _ = false

-- out of memory
abbrev pub wants_memory : Reply → Bool
wants_memory (refused r) = is_no_memory r
wants_memory _ = false

abbrev pub numbers_in : Reply → Option Numbers
numbers_in (stats s) = Some s
numbers_in _ = None

abbrev pub found_in : Reply → Option Found
found_in (found f) = Some f
found_in _ = None

-- ---- all replies

-- the first numbers that were returned
abbrev pub first_numbers : List Reply → Option Numbers
first_numbers replies = slice_get (filter_map numbers_in replies) 0

-- the first result of a search
abbrev pub first_found : List Reply → Option Found
first_found replies = slice_get (filter_map found_in replies) 0

-- How many adds returned a place, whether no commit failed, and the first numbers and search result. None if a reply
-- was out of memory.
abbrev pub summary_of : List Reply → Option Summary
summary_of replies = if list_any wants_memory replies then None else Some (record {
  added = count_by is_placed replies;
  committed = not (list_any is_uncommitted replies);
  documents = option_map_or (λ s. s.documents) (first_numbers replies) 0;
  hit_count = option_map_or (λ f. f.hit_count) (first_found replies) 0;
  labels = option_map_or (λ s. s.labels) (first_numbers replies) 0;
  results = option_map_or (λ f. f.answers) (first_found replies) [];
})
