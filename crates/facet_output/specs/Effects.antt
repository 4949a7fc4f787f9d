-- What a command does to the history and to the published pairs, and what a reply reports of them.
use Rattle.std.specs.Prelude.{ℕ, List, Option, Some, None}
use Rattle.facet_model.specs.Histories as histories
use Rattle.facet_model.specs.Histories.{Change}
use Rattle.facet_words.specs.Commands.{Command, add, refresh, hold, release, search, ranges, sums, document, stats}
use Rattle.facet_words.specs.Commands.{commit, merge}
use Rattle.facet_replies.specs.Replies.{Refusal, labels_full, docs_full, disk_failed, closed, numbers_spent, no_memory}
use Rattle.facet_replies.specs.Replies.{Reply, placed, numbered, found, shown, stats as numbers, ranged, summed, merged}
use Rattle.facet_replies.specs.Replies.{refused}

-- A command changes the documents, publishes a pair, holds a pair under a name or releases it, makes operations
-- durable, merges segments, or looks at a pair. It looks at the pair that is held under the name, or without a name at
-- the last one that was published. A command that looks changes nothing.
pub data Effect : Type 0 where
  changes : Change → Effect
  publishes : Effect
  holds : List ℕ → Effect
  releases : List ℕ → Effect
  persists : Effect
  merges : Effect
  looks : Option (List ℕ) → Effect

abbrev pub effect : Command → Effect
effect (add doc) = changes (histories.add doc)
effect refresh = publishes
effect (hold name) = holds name
effect (release name) = releases name
effect (search on s) = looks on
effect (ranges on c rs) = looks on
effect (sums on c n) = looks on
effect (document on at) = looks on
effect (stats on) = looks on
effect commit = persists
effect merge = merges

-- Why a command was refused: no more labels fit in the label list of this size, no more documents besides so many; the
-- disk failed at this count of faults during this commit, or during an earlier one; no file number is
-- left; out of memory; or for another reason.
pub data Reason : Type 0 where
  for_labels : ℕ → Reason
  for_docs : ℕ → Reason
  for_disk : ℕ → Reason
  for_closed : ℕ → Reason
  for_numbers : Reason
  for_memory : Reason
  for_other : Reason

-- The place of a new operation. A number of operations. The number of operations of a pair, and from stats that of its
-- labels. Nothing of these. A refusal.
pub data Report : Type 0 where
  says_placed : ℕ → Report
  says_number : ℕ → Report
  says_pair : ℕ → Option ℕ → Report
  says_nothing : Report
  says_refused : Reason → Report

abbrev pub reason : Refusal → Reason
reason (labels_full size) = for_labels size
reason (docs_full n) = for_docs n
reason (disk_failed count) = for_disk count
reason (closed count) = for_closed count
reason (numbers_spent number) = for_numbers
reason no_memory = for_memory
reason _ = for_other

abbrev pub report : Reply → Report
report (placed at) = says_placed at
report (numbered n) = says_number n
report (found f) = says_pair f.operations None
report (ranged r) = says_pair r.operations None
report (summed s) = says_pair s.operations None
report (shown s) = says_pair s.operations None
report (numbers s) = says_pair s.operations (Some s.labels)
report merged = says_nothing
report (refused r) = says_refused (reason r)
