-- The record at a place of several segments.
use Rattle.std.proofs.Common.{◌≡◌, ℕ, zero, suc, ◌+◌, ◌-◌, ◌<◌, ◌≤◌, List, [], ◌∷◌, ◌++◌, length, map, drop, get_or, slice_get, Some, false, refl, sym, ap, ◌∙◌, arith}
use Rattle.std.proofs.lemmas.Option.{slice_get-get_or}
use Rattle.facet_model.specs.Stored.{Records, alive, is_dead, live_before}
use Rattle.live_records.proofs.Alive.{get_alive, length_alive}
use Rattle.seg_grammar.specs.Lookups.{record_of}
use Rattle.seg_documents.specs.Decoding.{records_in}
use Rattle.index_state.proofs.Counting.{cut}

front_get : {X : Type 0} (xs ys : List X) (i : ℕ) → i < length xs → slice_get (xs ++ ys) i ≡ slice_get xs i
front_get [] ys i lt = absurd (omega arith)
front_get (x ∷ xs) ys zero lt = refl
front_get (x ∷ xs) ys (suc i) lt = front_get xs ys i (omega arith)

back_get : {X : Type 0} (xs ys : List X) (i : ℕ) → length xs ≤ i → slice_get (xs ++ ys) i ≡ slice_get ys (i - length xs)
back_get [] ys i le = let e : i ≡ i - 0 = omega arith in ap (slice_get ys) e
back_get (x ∷ xs) ys zero le = absurd (omega arith)
back_get (x ∷ xs) ys (suc i) le = let e : i - length xs ≡ suc i - suc (length xs) = omega arith in back_get xs ys i (omega arith) ∙ ap (slice_get ys) e

module _ {A : Type 0} (value : A → Records) (xs : List A) (i : ℕ) (x : A) (lt : i < length xs) (here : get_or xs i x ≡ x) where
  abbrev live : ℕ
  live = live_before (value x).dead (length (value x).records)

  many : length (alive (value x).dead (value x).records) ≡ live
  many = length_alive (value x).dead (value x).records

  -- it is one of this segment
  pub record_here : (at place : ℕ) → at < live → place < length (value x).records → is_dead (value x).dead place ≡ false → live_before (value x).dead place ≡ at
      → slice_get (records_in (map value (drop i xs))) at ≡ Some (record_of (value x) place)
  record_here at place low within lives rank =
      ap (λ l. slice_get l at) (cut value xs i x lt here) ∙ front_get (alive (value x).dead (value x).records) (records_in (map value (drop (i + 1) xs))) at (omega (arith, low, many))
      ∙ ap (slice_get (alive (value x).dead (value x).records)) (sym rank) ∙ get_alive (value x).dead (value x).records place within lives ∙ slice_get-get_or (value x).records place _ within

  -- it is one of a later segment
  pub record_later : (at : ℕ) → live ≤ at → slice_get (records_in (map value (drop i xs))) at ≡ slice_get (records_in (map value (drop (i + 1) xs))) (at - live)
  record_later at high =
      ap (λ l. slice_get l at) (cut value xs i x lt here) ∙ back_get (alive (value x).dead (value x).records) (records_in (map value (drop (i + 1) xs))) at (omega (arith, high, many))
      ∙ ap (λ n. slice_get (records_in (map value (drop (i + 1) xs))) (at - n)) many
