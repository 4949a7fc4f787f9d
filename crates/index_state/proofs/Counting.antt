-- How many live records segments have.
use Rattle.std.proofs.Common.{◌≡◌, ℕ, ◌+◌, ◌<◌, List, ◌∷◌, ◌++◌, length, map, drop, get_or, ap, ◌∙◌}
use Rattle.std.proofs.lemmas.List.{drop_more, length-append}
use Rattle.facet_model.specs.Stored.{Records, alive, live_before}
use Rattle.live_records.proofs.Alive.{length_alive}
use Rattle.seg_documents.specs.Decoding.{records_in}
use Rattle.seg_documents.proofs.Live.{records_first}

module _ {A : Type 0} (value : A → Records) (xs : List A) (i : ℕ) (x : A) (lt : i < length xs) (here : get_or xs i x ≡ x) where
  -- those of one segment, and those of the segments behind it
  pub cut : records_in (map value (drop i xs)) ≡ alive (value x).dead (value x).records ++ records_in (map value (drop (i + 1) xs))
  cut = ap (λ (l : List A). records_in (map value l)) (drop_more xs i x lt ∙ ap (λ y. y ∷ drop (i + 1) xs) here) ∙ records_first (value x) (map value (drop (i + 1) xs))

  pub counted : length (records_in (map value (drop i xs))) ≡ live_before (value x).dead (length (value x).records) + length (records_in (map value (drop (i + 1) xs)))
  counted =
      ap length cut ∙ length-append (alive (value x).dead (value x).records) (records_in (map value (drop (i + 1) xs)))
      ∙ ap (λ n. n + length (records_in (map value (drop (i + 1) xs)))) (length_alive (value x).dead (value x).records)
