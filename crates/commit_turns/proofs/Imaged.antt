-- What one image opens as.
use Rattle.std.proofs.Common.{◌≡◌, ◌≤◌, ◌∙◌, ℕ, List, length, take, Ok, arith}
use mathlib.Core.List.{IsPrefix}
use Rattle.chronicle.proofs.Prefixes.{prefix_length}
use Rattle.facet_disk.specs.Images.{Image}
use Rattle.facet_model.specs.Flags.{Config}
use Rattle.facet_model.specs.Histories.{Operation, docs}
use Rattle.facet_model.specs.Stored.{Records}
use Rattle.facet_names.specs.Labels.{GoesOn}
use Rattle.facet_names.proofs.LabelLists.{Labels, goes_further}
use Rattle.seg_documents.specs.Decoding.{docs_in}
use Rattle.store_opening.specs.Files.{files}
use Rattle.commit_turns.specs.Recovery.{Recovers, Holds, HoldsJust}
use Rattle.pair_manager.specs.declared.point.CommitPoint.{CommitPoint}
use Rattle.commit_turns.proofs.Prefixed.{docs_on}

-- labels and operations may go on
abbrev pub recovers_more : (config : Config) (labels more : Labels) (history longer : List Operation) (c : Image) → GoesOn labels more → IsPrefix history longer → Recovers config labels history c → Recovers config more longer c
recovers_more config labels more history longer c on grows r = record {
  found = r.found;
  is = r.is;
  labels_first = goes_further r.found.labels labels more r.labels_first on;
  operations = r.operations;
  within = omega (arith, r.within, prefix_length history longer grows);
  docs_are = r.docs_are ∙ docs_on history longer r.operations grows r.within;
}

pub holds_more : (config : Config) (labels more : Labels) (history longer : List Operation) (p : CommitPoint) (c : Image) → GoesOn labels more → IsPrefix history longer → Holds config labels history p c → Holds config more longer p c
holds_more config labels more history longer p c on grows h = record {
  recovers = recovers_more config labels more history longer c on grows h.recovers;
  labels_from = h.labels_from;
  operations_from = h.operations_from;
}

pub just_more : (config : Config) (labels more : Labels) (history longer : List Operation) (p : CommitPoint) (c : Image) → GoesOn labels more → IsPrefix history longer → HoldsJust config labels history p c → HoldsJust config more longer p c
just_more config labels more history longer p c on grows h = record {
  recovers = recovers_more config labels more history longer c on grows h.recovers;
  labels_many = h.labels_many;
  operations_many = h.operations_many;
}

-- fewer may be asked for
pub holds_less : (config : Config) (labels : Labels) (history : List Operation) (p q : CommitPoint) (c : Image) → q.labels ≤ p.labels → q.operations ≤ p.operations → Holds config labels history p c → Holds config labels history q c
holds_less config labels history p q c fewer few h = record { recovers = h.recovers; labels_from = omega (arith, h.labels_from, fewer); operations_from = omega (arith, h.operations_from, few) }

-- an image that stands for these labels, and for segments whose documents so many of the operations leave
module _ (config : Config) (labels known : Labels) (history : List Operation) (segments : List Records) (operations : ℕ) (p : CommitPoint) (c : Image) (is : files config c ≡ Ok (record { labels = known; segments = segments }))
    (on : GoesOn known labels) (within : operations ≤ length history) (are : docs_in known segments ≡ docs (take operations history)) where
  abbrev recovers_found : Recovers config labels history c
  recovers_found = record { found = record { labels = known; segments = segments }; is = is; labels_first = on; operations = operations; within = within; docs_are = are }

  pub holds_found : p.labels ≤ length known → p.operations ≤ operations → Holds config labels history p c
  holds_found many some = record { recovers = recovers_found; labels_from = many; operations_from = some }

  pub just_found : length known ≡ p.labels → operations ≡ p.operations → HoldsJust config labels history p c
  just_found many some = record { recovers = recovers_found; labels_many = many; operations_many = some }
