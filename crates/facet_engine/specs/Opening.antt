-- A store that was opened, and what a system is opened from.
use Rattle.std.specs.Prelude.{◌≡◌, ◌≤◌, length, map, drop}
use Rattle.std.specs.Arc.{arc_value}
use Rattle.facet_disk.specs.declared.disk.Disk.{Ghosts}
use Rattle.facet_model.specs.Flags.{Config}
use Rattle.facet_output.specs.Output.{Opened}
use Rattle.commit_turns.specs.Opening.{IsOpened}
use Rattle.pair_manager.specs.Passes.{IsFirst}
use Rattle.seg_documents.specs.Decoding.{docs_in}
use Rattle.taxo_cache.specs.Seen.{labels_of, SeesLabels}
use Rattle.facet_engine.specs.declared.opening.Store.{Store}

module _ {D : Type 0} where
  -- its labels and its documents
  abbrev pub opened_of : Store D → Opened
  opened_of store = record {
    labels = labels_of store.first.seen;
    docs = docs_in (labels_of store.first.seen) (map arc_value store.segments.items);
  }

  -- The store was opened of the disk as it was at the start, under a config, and nothing was written. The first token
  -- of the labels has seen them all.
  pub record IsReady (disk : Ghosts D) (config : Config) (store : Store D) : Type 0 where
    pub of_config : store.committer.config ≡ config
    pub first : IsFirst store.first store.labels (drop 1 (opened_of store).labels)
    pub list : SeesLabels store.first
    pub viewed : store.view ≡ (opened_of store).labels
    pub opened : IsOpened disk store.start.value store.committer (opened_of store).labels
        (map arc_value store.segments.items)
    pub few : length (opened_of store).docs ≤ 1000000
