-- The replies that the results of calls are.
use Rattle.std.specs.Prelude.{ℕ, Result, Ok, Err}
use Rattle.commit_plan.specs.declared.fault.CommitFault.{CommitFault}
use Rattle.commit_plan.specs.declared.fault.CommitFault.TheVariants as commits
use Rattle.facet_config.specs.Faults.{fault_view}
use Rattle.facet_output.specs.Replies.{Reply, placed, numbered, stats, merged, refused, broken, labels_full, docs_full}
use Rattle.facet_output.specs.Replies.{not_held, held_already, disk_failed, closed, numbers_spent, no_memory}
use Rattle.pair_manager.specs.declared.manager.Stats.{Stats}
use Rattle.facet_adding.specs.declared.adding.AddFault.{AddFault}
use Rattle.facet_adding.specs.declared.adding.AddFault.TheVariants as adds
use Rattle.facet_engine.specs.declared.holding.HoldFault.{HoldFault}
use Rattle.facet_engine.specs.declared.holding.HoldFault.TheVariants as holds

abbrev pub add_reply : Result ℕ AddFault → Reply
add_reply (Ok at) = placed at
add_reply (Err (adds.Broken fault)) = refused (broken (fault_view fault))
add_reply (Err (adds.LabelsFull size)) = refused (labels_full size)
add_reply (Err (adds.DocsFull count)) = refused (docs_full count)
add_reply (Err adds.NoMemory) = refused no_memory

-- the only fault is out of memory
abbrev pub refresh_reply : {E : Type 0} → Result ℕ E → Reply
refresh_reply (Ok n) = numbered n
refresh_reply (Err fault) = refused no_memory

abbrev pub hold_reply : Result ℕ HoldFault → Reply
hold_reply (Ok n) = numbered n
hold_reply (Err holds.HeldAlready) = refused held_already
hold_reply (Err holds.NoMemory) = refused no_memory

-- the only fault is that nothing is held under the name
abbrev pub release_reply : {E : Type 0} → Result ℕ E → Reply
release_reply (Ok n) = numbered n
release_reply (Err fault) = refused not_held

abbrev pub stats_reply : {E : Type 0} → Result Stats E → Reply
stats_reply (Ok s) = stats (record { operations = s.operations; labels = s.labels; documents = s.documents })
stats_reply (Err fault) = refused not_held

abbrev pub commit_reply : Result ℕ CommitFault → Reply
commit_reply (Ok n) = numbered n
commit_reply (Err (commits.Disk count)) = refused (disk_failed count)
commit_reply (Err (commits.Closed count)) = refused (closed count)
commit_reply (Err commits.NoMemory) = refused no_memory
commit_reply (Err (commits.NumbersSpent number)) = refused (numbers_spent number)

-- the only fault is out of memory
abbrev pub merge_reply : {E : Type 0} → Result (Unit {0}) E → Reply
merge_reply (Ok done) = merged
merge_reply (Err fault) = refused no_memory
