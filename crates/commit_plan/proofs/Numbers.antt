-- The numbers that a commit takes.
use Rattle.std.proofs.Common.{◌≡◌, ◌≤◌, ◌+◌, ℕ, Bool, true, false, if◌then◌else◌, List, [], ◌∷◌, length, fold, Option, Some, None, refl, ◌∙◌, arith}
use Rattle.facet_model.specs.Flags.{Config}
use Rattle.facet_model.specs.Stored.{Records}
use Rattle.commit_file.specs.declared.index.DocumentPart.{DocumentPart}
use Rattle.seg_grammar.specs.Spelling.{seg_bytes}
use Rattle.commit_plan.specs.Committed.{Committed, Kept}
use Rattle.commit_plan.specs.Drafts.{Placed, taken, place, placed_by, Drafted, drafted, labels_first, is_longer, with_labels, nothing_drafted, is_index_left_out, with_index, placed, index_drafted}
use Rattle.commit_plan.proofs.Keeping.{numbers_taken}

pub labels_numbers : (old : Committed) (view : List (List (List ℕ))) → (old.next ≤ (labels_first old view).next) × ((labels_first old view).next ≤ old.next + 2)
labels_numbers old view = go (is_longer old view)
  where
    go : (b : Bool) → (old.next ≤ (if b then with_labels old view (nothing_drafted old.next) else nothing_drafted old.next).next) × ((if b then with_labels old view (nothing_drafted old.next) else nothing_drafted old.next).next ≤ old.next + 2)
    go true = (omega arith, omega arith)
    go false = (omega arith, omega arith)

pub index_numbers : (config : Config) (needs : ℕ) (old : Committed) (ss : List Records) (d : Drafted) → (d.next ≤ (index_drafted config needs old ss d).next) × ((index_drafted config needs old ss d).next ≤ d.next + length ss + 1)
index_numbers config needs old ss d = go (is_index_left_out old ss)
  where
    go : (b : Bool) → (d.next ≤ (if b then d else with_index config needs (placed old ss d)).next) × ((if b then d else with_index config needs (placed old ss d)).next ≤ d.next + length ss + 1)
    go true = (omega arith, omega arith)
    go false =
        let n = numbers_taken (record { draft = d; behind = old.kept; kept = [] }) ss in
        (omega (arith, n.0), omega (arith, n.1))

pub all_numbers : (config : Config) (old : Committed) (view : List (List (List ℕ))) (ss : List Records) → (old.next ≤ (drafted config old view ss).next) × ((drafted config old view ss).next ≤ old.next + length ss + 3)
all_numbers config old view ss =
    let a = labels_numbers old view in
    let b = index_numbers config (length view) old ss (labels_first old view) in
    (omega (arith, a.0, b.0), omega (arith, a.1, b.1))

-- ---- the first number

placed_from : (p : Placed) (ss : List Records) → (fold place p ss).draft.from ≡ p.draft.from
placed_from p [] = refl
placed_from p (s ∷ ss) = placed_from (place p s) ss ∙ go (taken p.behind (seg_bytes s))
  where
    go : (o : Option (DocumentPart × List Kept)) → (placed_by p s o).draft.from ≡ p.draft.from
    go None = refl
    go (Some found) = refl

pub first_number : (config : Config) (old : Committed) (view : List (List (List ℕ))) (ss : List Records) → (drafted config old view ss).from ≡ old.next
first_number config old view ss = index (is_index_left_out old ss) ∙ labels (is_longer old view)
  where
    index : (b : Bool) → (if b then labels_first old view else with_index config (length view) (placed old ss (labels_first old view))).from ≡ (labels_first old view).from
    index true = refl
    index false = placed_from (record { draft = labels_first old view; behind = old.kept; kept = [] }) ss

    labels : (b : Bool) → (if b then with_labels old view (nothing_drafted old.next) else nothing_drafted old.next).from ≡ old.next
    labels true = refl
    labels false = refl
