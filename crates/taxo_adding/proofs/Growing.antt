-- A list of labels goes on as more of it is seen.
use Rattle.std.proofs.Common.{ℕ, List, [], ◌∷◌, length, take, refl, sym, ap, ◌∙◌, arith}
use Rattle.std.proofs.lemmas.List.{take_at, length-append}
use mathlib.Core.List.{IsPrefix}
use Rattle.facet_names.specs.Labels.{GoesOn}
use Rattle.facet_names.proofs.LabelLists.{Labels}
use Rattle.chronicle.proofs.Entries.{entries-prefix}
use Rattle.taxo_cache.specs.Seen.{labels_of}

-- a list goes on from its beginning
pub begun_goes_on : (a b : Labels) → IsPrefix a b → GoesOn a b
begun_goes_on a b p = (omega (arith, ap length (sym p.1) ∙ length-append a p.0), ap (take (length a)) (sym p.1) ∙ take_at a p.0 (length a) refl)

-- the labels that a token has seen begin those that it sees later
pub labels_begin : (xs ys : List (ℕ × List (List ℕ))) → IsPrefix xs ys → IsPrefix (labels_of xs) (labels_of ys)
labels_begin xs ys p = let q = entries-prefix xs ys p in (q.0, ap (λ (l : Labels). [] ∷ l) q.1)

-- and these go on from them
pub seen_goes_on : (xs ys : List (ℕ × List (List ℕ))) → IsPrefix xs ys → GoesOn (labels_of xs) (labels_of ys)
seen_goes_on xs ys p = begun_goes_on (labels_of xs) (labels_of ys) (labels_begin xs ys p)
