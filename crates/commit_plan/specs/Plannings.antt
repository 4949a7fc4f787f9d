-- What is known of the files that two directories hold, and the plan of a commit.
use Rattle.std.specs.Prelude.{◌≡◌, ◌⊎◌, ◌≤◌, ◌^◌, ℕ, List, [], ◌∷◌, length, map, not, IsTrue, Ok, Some}
use Rattle.std.specs.Option.{option_map}
use Rattle.std.specs.List.{AllByRecursion}
use Rattle.facet_disk.specs.declared.disk.Disk.{Ghosts}
use Rattle.facet_model.specs.Flags.{Config}
use Rattle.facet_model.specs.Stored.{Records}
use Rattle.commit_calls.specs.declared.plan.Plan.{Plan}
use Rattle.facet_names.specs.Labels.{GoesOn}
use Rattle.commit_calls.specs.Held.{Held, NamedBelow}
use Rattle.commit_calls.specs.Moments.{IsAt}
use Rattle.commit_calls.specs.Outcomes.{file_view}
use Rattle.commit_calls.specs.Plans.{Rises, Leads}
use Rattle.seg_grammar.specs.Spelling.{seg_bytes}
use Rattle.store_opening.specs.Files.{labels_of, held_segments, files_of}
use Rattle.commit_plan.specs.declared.fault.CommitFault.{CommitFault}
use Rattle.commit_plan.specs.declared.fault.CommitFault.TheVariants.{NumbersSpent, NoMemory}
use Rattle.commit_plan.specs.Committed.{Committed, segments_in}
use Rattle.commit_plan.specs.Drafts.{drafted, committed_after, strays_after, labels_number, index_number, is_longer}
use Rattle.commit_plan.specs.Drafts.{is_index_left_out, segments_next, AreLabelsAgain, IsIndexAgain}

-- Two directories hold the files of these labels and segments, and what is known of the newest commits is what they
-- name.
pub record IsKnown (config : Config) (s : Committed) (t i : Held) (labels : List (List (List ℕ)))
    (segments : List Records) : Type 0 where
  pub files : files_of config t i ≡ Ok (record { labels = labels; segments = segments })
  pub taxonomy : option_map (λ c. c.0) t.commit ≡ s.taxonomy
  pub label_numbers : map (λ x. x.0) t.segments ≡ map (λ part. part.number) s.label_parts
  pub label_parts : labels_of (held_segments t) ([] ∷ []) s.label_parts ≡ Ok labels
  pub label_count : s.labels ≡ length labels
  pub index : option_map (λ c. c.0) i.commit ≡ s.index
  pub kept : i.segments ≡ map (λ k. (k.part.number, seg_bytes k.segment)) s.kept
  pub documents : segments_in s.kept ≡ segments

-- Whatever a crash leaves now, the files are those of these labels and segments, and this is known of them.
pub record IsCommittedAt {D : Type 0} (disk : Ghosts D) (config : Config) (s : Committed) (now : D)
    (labels : List (List (List ℕ))) (segments : List Records) : Type 0 where
  pub taxonomy : Held
  pub index : Held
  pub stands : IsAt disk.may_leave s.next taxonomy index now
  pub known : IsKnown config s taxonomy index labels segments

-- a plan writes the files of a commit of these labels and segments, and removes its strays
pub record IsPlanOf (config : Config) (old : Committed) (view : List (List (List ℕ))) (segments : List Records)
    (p : Plan) (new : Committed) : Type 0 where
  pub from : p.from ≡ old.next
  pub to : p.to ≡ new.next
  pub room : p.to ≤ 2 ^ 63
  pub rises : (p.from ≤ p.to) × Rises p.from p.to p.writes.items
  pub files : map file_view p.writes.items ≡ (drafted config old view segments).files
  pub taxonomy : p.taxonomy ≡ labels_number old view
  pub index : p.index ≡ index_number old view segments
  pub after : new ≡ committed_after config old view segments
  pub strays : p.strays.items ≡ strays_after config old view segments

-- out of memory, or out of numbers, with this as the last one
abbrev pub IsOutOf : ℕ → CommitFault → Type 0
IsOutOf last e = (e ≡ NoMemory) ⊎ ((e ≡ NumbersSpent last) × (2 ^ 63 ≤ last))

-- what is written can be read
pub record IsReadAgain (config : Config) (old : Committed) (view : List (List (List ℕ)))
    (segments : List Records) : Type 0 where
  pub labels : IsTrue (is_longer old view) → AreLabelsAgain old view old.next
  pub documents : IsTrue (not (is_index_left_out old segments))
      → IsIndexAgain config (length view) (segments_next old view segments)

-- A plan leads from the files of these directories to those of the new labels and segments. In between are the old
-- segments under the new labels.
pub record AreLed (config : Config) (p : Plan) (new : Committed) (t i : Held) (view : List (List (List ℕ)))
    (old_segments segments : List Records) : Type 0 where
  pub taxonomy_after : Held
  pub index_after : Held
  pub leads : Leads p t i taxonomy_after index_after
  pub middle : files_of config taxonomy_after i ≡ Ok (record { labels = view; segments = old_segments })
  pub known : IsKnown config new taxonomy_after index_after view segments

-- each segment that a directory holds is the first one of its number
abbrev pub AreFirst : Held → Type 0
AreFirst x = AllByRecursion (λ s. held_segments x s.0 ≡ Some s.1) x.segments

-- a plan leads on from all files of which this is known
abbrev pub LeadsOn : Config → Committed → Plan → Committed → List (List (List ℕ)) → List Records → Type 0
LeadsOn config old p new view segments = (t i : Held) (labels : List (List (List ℕ))) (old_segments : List Records)
    → IsKnown config old t i labels old_segments → GoesOn labels view
    → NamedBelow old.next t → NamedBelow old.next i → AreFirst i → AreLed config p new t i view old_segments segments
