-- A merged segment represents the documents of those that it was merged of.
use Rattle.std.proofs.Common.{◌≡◌, ℕ, ◌+◌, Bool, true, false, cond, List, [], ◌∷◌, ◌++◌, sym, ap, subst, ◌∙◌, refl}
use Rattle.std.specs.List.{AllZip}
use Rattle.std.proofs.lemmas.List.{append-nil}
use Rattle.std.proofs.lemmas.Slice.Zip.{AllZip-long}
use Rattle.facet_names.proofs.LabelLists.{Labels}
use Rattle.facet_model.specs.Documents.{Doc}
use Rattle.facet_model.specs.Flags.{Config}
use Rattle.facet_model.specs.Stored.{Records, is_dead, alive, alive_from, live_docs, IsRecordOf, IsSegmentOf, Decodes}
use Rattle.facet_model.specs.Terms.{terms_of}
use Rattle.live_records.proofs.Alive.{alive_none}
use Rattle.seg_documents.specs.Decoding.{records_in, docs_in}
use Rattle.seg_documents.proofs.Decoded.{decoded}
use Rattle.seg_documents.proofs.Joined.{zip_append, decodes_split, docs_replaced, decodes_replaced}
use Rattle.seg_merge.specs.Merged.{merged_of, HaveTerms, IsMergeOf}

-- what is left of two lists side by side
zip_alive : {A B : Type 0} (R : A → B → Type 0) (dead : List ℕ) (k : ℕ) (xs : List A) (ps : List B) → AllZip R xs ps → AllZip R (alive_from dead k xs) (alive_from dead k ps)
zip_alive R dead k [] [] all = tt
zip_alive R dead k [] (p ∷ ps) all = absurd all
zip_alive R dead k (x ∷ xs) [] all = absurd all
zip_alive R dead k (x ∷ xs) (p ∷ ps) all = by (is_dead dead k) (zip_alive R dead (k + 1) xs ps all.1)
  where
    by : (b : Bool) → AllZip R (alive_from dead (k + 1) xs) (alive_from dead (k + 1) ps)
        → AllZip R (cond b (alive_from dead (k + 1) xs) (x ∷ alive_from dead (k + 1) xs)) (cond b (alive_from dead (k + 1) ps) (p ∷ alive_from dead (k + 1) ps))
    by true rest = rest
    by false rest = (all.0, rest)

module _ (known : Labels) (config : Config) where
  records_zip : (ss : List Records) (ps : List (List Doc)) → AllZip (IsSegmentOf known config) ss ps → AllZip (IsRecordOf known config) (records_in ss) (live_docs ss ps)
  records_zip [] [] all = tt
  records_zip [] (p ∷ ps) all = absurd all
  records_zip (s ∷ ss) [] all = absurd all
  records_zip (s ∷ ss) (p ∷ ps) all =
      zip_append (IsRecordOf known config) (alive s.dead s.records) (records_in ss) (alive s.dead p) (live_docs ss ps) (zip_alive (IsRecordOf known config) s.dead 0 s.records p all.0.records) (records_zip ss ps all.1)

  -- segments that decode have the terms of their documents
  pub decoded_have : (ss : List Records) (ps : List (List Doc)) → AllZip (IsSegmentOf known config) ss ps → HaveTerms ss ps
  decoded_have [] [] all = tt
  decoded_have [] (p ∷ ps) all = absurd all
  decoded_have (s ∷ ss) [] all = absurd all
  decoded_have (s ∷ ss) (p ∷ ps) all = (record { each = AllZip-long (IsRecordOf known config) s.records p all.0.records; terms = all.0.terms }, decoded_have ss ps all.1)

  -- what they are merged to decodes to the same documents
  pub merged_decodes : (ss : List Records) (docs : List Doc) (m : Records) → Decodes known config ss docs → IsMergeOf ss m → Decodes known config (m ∷ []) docs
  merged_decodes ss docs m decodes merged =
      let live : List Doc = live_docs ss decodes.0 in
      let is : m ≡ merged_of ss (terms_of live) = merged decodes.0 (decoded_have ss decodes.0 decodes.1) in
      let whole : IsSegmentOf known config (merged_of ss (terms_of live)) live = record { records = records_zip ss decodes.0 decodes.1; terms = refl } in
      let here : IsSegmentOf known config m live = subst (λ (s : Records). IsSegmentOf known config s live) (sym is) whole in
      let none : alive m.dead live ≡ live = ap (λ (s : Records). alive s.dead live) is ∙ alive_none live in
      (live ∷ [], (here, tt), decodes.2 ∙ sym (append-nil (alive m.dead live) ∙ none))

  -- in their place all documents stay
  pub merged_in_place : (before range after : List Records) (docs : List Doc) (m : Records) → Decodes known config (before ++ (range ++ after)) docs → IsMergeOf range m → Decodes known config (before ++ m ∷ after) docs
  merged_in_place before range after docs m decodes merged =
      let behind = (decodes_split known config before (range ++ after) docs decodes).1 in
      let parts = decodes_split known config range after (docs_in known (range ++ after)) behind in
      let here : Decodes known config (m ∷ []) (docs_in known range) = merged_decodes range (docs_in known range) m parts.0 merged in
      let same : docs_in known (m ∷ []) ≡ docs_in known range = decoded known config (m ∷ []) (docs_in known range) here in
      let own : Decodes known config (m ∷ []) (docs_in known (m ∷ [])) = subst (Decodes known config (m ∷ [])) (sym same) here in
      subst (Decodes known config (before ++ m ∷ after)) (docs_replaced known before range after m same ∙ decoded known config (before ++ (range ++ after)) docs decodes)
      (decodes_replaced known before range after m same config docs decodes own)
