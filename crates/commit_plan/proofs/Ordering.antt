-- Segments of labels that follow one another.
use Rattle.std.proofs.Common.{◌≡◌, ◌<◌, ℕ, List, [], ◌∷◌, ◌++◌, length, refl, arith}
use Rattle.commit_file.specs.declared.taxonomy.LabelPart.{LabelPart}
use Rattle.commit_file.specs.Commits.{AreInOrder, end_of}
use Rattle.commit_plan.specs.Committed.{Committed}
use Rattle.commit_plan.specs.Drafts.{new_label_part, label_parts_with}

pub order_more : (labels longer start : ℕ) (parts : List LabelPart) (part : LabelPart) → AreInOrder labels start parts → part.first ≡ labels → end_of part ≡ longer → AreInOrder longer start (parts ++ part ∷ [])
order_more labels longer start [] part is first last = (omega (arith, is, first), last)
order_more labels longer start (p ∷ parts) part is first last = (is.0, order_more labels longer (end_of p) parts part is.1 first last)

pub order_with : (old : Committed) (view : List (List (List ℕ))) (number : ℕ) → old.labels < length view → AreInOrder old.labels 1 old.label_parts → AreInOrder (length view) 1 (label_parts_with number old view)
order_with old view number low is = order_more old.labels (length view) 1 old.label_parts (new_label_part number old.labels view) is refl (omega (arith, low))
