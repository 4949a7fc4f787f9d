-- Whose a pass is, and what it has seen.
use Rattle.std.specs.Prelude.{◌≡◌, List}
use Rattle.atomic_table.specs.Seated.{TableId}
use Rattle.taxo_writer.specs.Writer.{Writer}
use Rattle.chronicle.specs.Shown.{Shown, MayTake, SameToken, SeesOn}
use Rattle.chronicle.specs.History.{numbered}
use Rattle.pair_manager.specs.declared.pass.Pass.{Pass}
use Rattle.pair_manager.specs.declared.publication.Publication.{Publication}
use Rattle.pair_manager.specs.Published.{seen_of}

pub record Managed : Type 0 where
  pub writer : Writer
  -- the operations chronicle and the pairs chronicle
  pub operations : TableId
  pub pairs : TableId

-- The first token of a chronicle that was opened with these entries.
pub record IsFirst {E : Type 0} (token : Shown E) (chronicle : TableId) (opening : List E) : Type 0 where
  pub own : token.identity ≡ chronicle
  pub rests : MayTake token
  pub first : (token.number ≡ 0) × (token.made ≡ 0)
  pub seen : token.seen ≡ numbered 0 opening

-- its tokens are of the manager's chronicles
pub record IsOf (manager : Managed) (pass : Pass) : Type 0 where
  pub labels : pass.labels.identity ≡ manager.writer.labels
  pub operations : pass.operations.identity ≡ manager.operations
  pub pairs : pass.pairs.identity ≡ manager.pairs

-- the same tokens, which may have seen more
pub record SamePass (old new : Pass) : Type 0 where
  pub labels : SameToken old.labels new.labels
  pub operations : SameToken old.operations new.operations
  pub pairs : SameToken old.pairs new.pairs
  pub commits : SameToken old.commits new.commits

-- It has seen all operations that it had seen, and maybe more of others; nothing else changed.
pub record SeesMoreOperations (old new : Pass) : Type 0 where
  pub same : SamePass old new
  pub operations : SeesOn old.operations new.operations
  pub labels : new.labels ≡ old.labels
  pub pairs : new.pairs ≡ old.pairs
  pub commits : new.commits ≡ old.commits

-- the publication of all operations and labels that it has seen
abbrev pub all_seen : Pass → Publication
all_seen pass = seen_of pass.operations pass.labels
