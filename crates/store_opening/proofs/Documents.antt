-- The documents of segments that a commit names.
use Rattle.std.proofs.Common.{◌≡◌, ℕ, ◌+◌, ◌<◌, ◌≤◌, List, [], ◌∷◌, ◌++◌, length, take, map, get_or, refl, sym, ap, ◌∙◌, arith}
use Rattle.std.specs.List.{AllZip, sum_by}
use Rattle.std.proofs.lemmas.List.{map-append, length-map, take_more}
use Rattle.std.proofs.lemmas.List.Sums.{sum_by-cons}
use Rattle.std.proofs.lemmas.Slice.Zip.{all_zipped_more}
use Rattle.facet_model.specs.Flags.{Config}
use Rattle.facet_model.specs.Stored.{Records, IsSegmentOf, Decodes, alive, live_before, live_docs}
use Rattle.commit_file.specs.LiveParts.{LivePart, live_of}
use Rattle.seg_documents.specs.Decoding.{doc_in, docs_in, records_in}
use Rattle.live_records.proofs.Alive.{map_alive}
use Rattle.seg_documents.proofs.Live.{records_first}
use Rattle.seg_documents.proofs.Storing.{live_beside, live_first}
use Rattle.store_opening.specs.Newest.{IsNamedAs}

module _ (config : Config) (labels : List (List (List ℕ))) where
  -- one segment more
  pub named_more : (parts : List LivePart) (segments now : List Records) (i : ℕ) (p : LivePart) (s : Records) → i < length parts → p ≡ get_or parts i p → now ≡ segments ++ s ∷ []
      → AllZip (IsNamedAs config labels) (take i parts) segments → IsNamedAs config labels p s → AllZip (IsNamedAs config labels) (take (i + 1) parts) now
  named_more parts segments now i p s lt is pushed all one =
      rw (take_more parts i p lt ∙ ap (λ (q : LivePart). take i parts ++ q ∷ []) (sym is), pushed) (all_zipped_more (IsNamedAs config labels) (take i parts) segments p s all one)

  each : (parts : List LivePart) (segments : List Records) → AllZip (IsNamedAs config labels) parts segments → AllZip (IsSegmentOf labels config) segments (map (λ s. map (doc_in labels) s.records) segments)
  each [] [] all = tt
  each [] (s ∷ ss) all = absurd all
  each (p ∷ ps) [] all = absurd all
  each (p ∷ ps) (s ∷ ss) all = (all.0.decodes, each ps ss all.1)

  joined : (segments : List Records) → docs_in labels segments ≡ live_docs segments (map (λ s. map (doc_in labels) s.records) segments)
  joined [] = refl
  joined (s ∷ ss) = ap (map (doc_in labels)) (records_first s ss) ∙ map-append (doc_in labels) (alive s.dead s.records) (records_in ss) ∙ (λ i. map_alive s.dead (doc_in labels) s.records i ++ joined ss i)

  pub decodes_from : (parts : List LivePart) (segments : List Records) → AllZip (IsNamedAs config labels) parts segments → Decodes labels config segments (docs_in labels segments)
  decodes_from parts segments all = (map (λ s. map (doc_in labels) s.records) segments, each parts segments all, joined segments)

  as_many : (parts : List LivePart) (segments : List Records) → AllZip (IsNamedAs config labels) parts segments → length (records_in segments) ≡ sum_by live_of parts
  as_many [] [] all = refl
  as_many [] (s ∷ ss) all = absurd all
  as_many (p ∷ ps) [] all = absurd all
  as_many (p ∷ ps) (s ∷ ss) all =
      let dead : length s.dead ≡ length p.dead = ap length all.0.dead in
      let here : live_before s.dead (length s.records) ≡ live_of p = omega (arith, live_beside s all.0.own, dead, all.0.documents) in
      live_first s ss ∙ ap (λ (n : ℕ). n + length (records_in ss)) here ∙ ap (λ (n : ℕ). live_of p + n) (as_many ps ss all.1) ∙ sym (sum_by-cons live_of p ps)

  pub few_from : (parts : List LivePart) (segments : List Records) → AllZip (IsNamedAs config labels) parts segments → sum_by live_of parts ≤ 1000000 → length (docs_in labels segments) ≤ 1000000
  few_from parts segments all few =
      let long : length (docs_in labels segments) ≡ length (records_in segments) = length-map (records_in segments) (doc_in labels) in
      omega (arith, few, long, as_many parts segments all)
