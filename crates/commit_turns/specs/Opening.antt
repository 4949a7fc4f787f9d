-- What opening leaves, from which commits go on.
use Rattle.std.specs.Prelude.{◌≡◌, ℕ, List, Some, None}
use Rattle.facet_disk.specs.Images.{Told}
use Rattle.facet_disk.specs.declared.disk.Disk.{Ghosts}
use Rattle.facet_model.specs.Documents.{Doc}
use Rattle.facet_model.specs.Flags.{Config}
use Rattle.facet_model.specs.Stored.{Records, Decodes}
use Rattle.facet_names.specs.Labels.{IsLabelList}
use Rattle.seg_documents.specs.Decoding.{docs_in}
use Rattle.seg_documents.specs.Storing.{AreStored}
use Rattle.commit_store.specs.Committers.{CommitterView}
use Rattle.commit_store.specs.Committing.{HasFiles}
use Rattle.commit_store.specs.Promised.{IsHere}
use Rattle.store_opening.specs.Quiet.{IsQuiet}
use Rattle.store_opening.specs.Settled.{IsSettled}
use Rattle.commit_turns.specs.Commits.{IsTrueOf}

module _ {D : Type 0} (disk : Ghosts D) where
  -- A disk was opened as these labels and these segments, and nothing was written.
  pub record IsOpened (start : D) (committer : CommitterView D) (labels : List (List (List ℕ)))
      (segments : List Records) : Type 0 where
    pub quiet : IsQuiet disk start committer.disk
    pub still : disk.faults committer.disk ≡ disk.faults start
    pub unfailed : disk.failures committer.disk ≡ disk.failures start
    pub unclosed : committer.closed ≡ None
    pub has : (s : Told) → disk.told start ≡ Some s → HasFiles committer.config labels segments s.files
    pub known : (s : Told) → disk.told start ≡ Some s → IsTrueOf committer.state s.files
    pub committed : (s : Told) → disk.told start ≡ Some s → IsSettled disk committer.config s start
        → IsHere disk committer.config committer labels segments
    pub list : IsLabelList labels
    pub decodes : Decodes labels committer.config segments (docs_in labels segments)
    pub own : AreStored segments

  -- It was opened as these labels and these documents.
  pub record IsOpenedAs (start : D) (committer : CommitterView D) (labels : List (List (List ℕ)))
      (docs : List Doc) : Type 0 where
    pub segments : List Records
    pub opened : IsOpened start committer labels segments
    pub documents : docs_in labels segments ≡ docs

  -- the disk reported its files and was settled when opening began
  pub record WasSettled (config : Config) (start : D) : Type 0 where
    pub told : Told
    pub tells : disk.told start ≡ Some told
    pub settled : IsSettled disk config told start
