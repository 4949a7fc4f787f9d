-- Beginnings of what tokens have seen.
use Rattle.std.proofs.Common.{◌≡◌, ℕ, ◌≤◌, List, length, take, sym, ap, subst, ◌∙◌, arith}
use Rattle.std.proofs.lemmas.List.{take-append-le, take_all, length-map}
use mathlib.Core.List.{IsPrefix}
use Rattle.chronicle.specs.History.{entries}
use Rattle.facet_model.specs.Documents.{Doc}
use Rattle.facet_model.specs.Flags.{Config}
use Rattle.facet_model.specs.Histories.{Operation, docs}
use Rattle.facet_model.specs.Stored.{Records, Decodes}
use Rattle.facet_names.specs.Labels.{GoesOn, IsLabelList}
use Rattle.facet_names.proofs.LabelLists.{Labels, front_labels}
use Rattle.seg_documents.proofs.Decoded.{decodes_stay}
use Rattle.taxo_cache.specs.Seen.{labels_of}
use Rattle.taxo_adding.proofs.Growing.{seen_goes_on}

-- what the first of the operations leave, they leave where operations follow
pub docs_on : (history longer : List Operation) (n : ℕ) → IsPrefix history longer → n ≤ length history → docs (take n history) ≡ docs (take n longer)
docs_on history longer n grows within = ap docs (sym (take-append-le n history grows.0 within)) ∙ ap (λ (l : List Operation). docs (take n l)) grows.1

-- the first of the operations, as many as there are, are all of them
pub docs_all : (history : List Operation) → docs history ≡ docs (take (length history) history)
docs_all history = ap docs (sym (take_all (length history) history (omega arith)))

pub entries_count : (seen : List (ℕ × Operation)) → length (entries seen) ≡ length seen
entries_count seen = length-map seen (λ (x : ℕ × Operation). x.1)

-- what decodes under labels that were seen decodes under all that were seen later
pub decodes_on : (config : Config) (xs ys : List (ℕ × List (List ℕ))) (view : Labels) (segments : List Records) (docs : List Doc) → IsPrefix xs ys → view ≡ labels_of ys → IsLabelList view
    → Decodes (labels_of xs) config segments docs → Decodes view config segments docs
decodes_on config xs ys view segments docs p is list d =
    let on : GoesOn (labels_of xs) view = subst (λ (l : Labels). GoesOn (labels_of xs) l) (sym is) (seen_goes_on xs ys p) in
    let front : IsLabelList (labels_of xs) = subst IsLabelList on.1 (front_labels view list (length (labels_of xs)) (omega arith) on.0) in
    decodes_stay config (labels_of xs) view front list on segments docs d
