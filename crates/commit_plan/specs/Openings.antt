-- What is known of a store that was read.
use Rattle.std.specs.Prelude.{ℕ, List, [], ◌∷◌, length}
use Rattle.facet_model.specs.Stored.{Records}
use Rattle.commit_file.specs.LiveParts.{LivePart}
use Rattle.store_opening.specs.declared.newest.Newest.{Newest}
use Rattle.commit_plan.specs.Committed.{Kept, Committed}

-- segments with their names, one by one
abbrev pub kept_by : List LivePart → List Records → List Kept
kept_by [] segments = []
kept_by (p ∷ parts) [] = []
kept_by (p ∷ parts) (s ∷ segments) = record { part = p.part; segment = s } ∷ kept_by parts segments

-- what was read of the newest commits
abbrev pub committed_read : Newest → List (List (List ℕ)) → List Records → Committed
committed_read n labels segments = record {
  next = n.next;
  listed = n.listed.items;
  taxonomy = n.taxonomy;
  label_parts = n.label_parts.items;
  labels = length labels;
  index = n.index;
  kept = kept_by n.document_parts.items segments;
}
