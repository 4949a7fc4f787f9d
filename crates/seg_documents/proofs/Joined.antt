-- Segments one behind the other: what each part decodes to, and one segment in the place of neighbours.
use Rattle.std.proofs.Common.{◌≡◌, List, [], ◌∷◌, ◌++◌, map, refl, sym, ap, subst, ◌∙◌, append_assoc}
use Rattle.std.specs.List.{AllZip}
use Rattle.std.proofs.lemmas.List.{map-append}
use Rattle.std.proofs.lemmas.List.Concat.{flat_map-append}
use Rattle.facet_names.proofs.LabelLists.{Labels}
use Rattle.facet_model.specs.Documents.{Doc}
use Rattle.facet_model.specs.Flags.{Config}
use Rattle.facet_model.specs.Stored.{Records, IsSegmentOf, Decodes, alive, live_docs}
use Rattle.seg_documents.specs.Decoding.{doc_in, records_in, docs_in}
use Rattle.seg_documents.proofs.Decoded.{decoded}

-- ---- lists side by side

module _ {A B : Type 0} (R : A → B → Type 0) where
  pub zip_append : (xs ys : List A) (ps qs : List B) → AllZip R xs ps → AllZip R ys qs → AllZip R (xs ++ ys) (ps ++ qs)
  zip_append [] ys [] qs one two = two
  zip_append [] ys (p ∷ ps) qs one two = absurd one
  zip_append (x ∷ xs) ys [] qs one two = absurd one
  zip_append (x ∷ xs) ys (p ∷ ps) qs one two = (one.0, zip_append xs ys ps qs one.1 two)

  zip_split : (xs ys : List A) (zs : List B) → AllZip R (xs ++ ys) zs → (ps : List B) × (qs : List B) × (zs ≡ ps ++ qs) × AllZip R xs ps × AllZip R ys qs
  zip_split [] ys zs all = ([], zs, refl, tt, all)
  zip_split (x ∷ xs) ys [] all = absurd all
  zip_split (x ∷ xs) ys (z ∷ zs) all =
      let rest = zip_split xs ys zs all.1 in
      (z ∷ rest.0, rest.1, ap (λ l. z ∷ l) rest.2, (all.0, rest.3), rest.4)

-- ---- the documents of segments

live_append : (R : Records → List Doc → Type 0) (ss ts : List Records) (ps qs : List (List Doc)) → AllZip R ss ps → live_docs (ss ++ ts) (ps ++ qs) ≡ live_docs ss ps ++ live_docs ts qs
live_append R [] ts [] qs all = refl
live_append R [] ts (p ∷ ps) qs all = absurd all
live_append R (s ∷ ss) ts [] qs all = absurd all
live_append R (s ∷ ss) ts (p ∷ ps) qs all = ap (λ l. alive s.dead p ++ l) (live_append R ss ts ps qs all.1) ∙ sym (append_assoc (alive s.dead p) (live_docs ss ps) (live_docs ts qs))

pub records_append : (ss ts : List Records) → records_in (ss ++ ts) ≡ records_in ss ++ records_in ts
records_append ss ts = flat_map-append (λ (s : Records). alive s.dead s.records) ss ts

pub docs_append : (known : Labels) (ss ts : List Records) → docs_in known (ss ++ ts) ≡ docs_in known ss ++ docs_in known ts
docs_append known ss ts = ap (map (doc_in known)) (records_append ss ts) ∙ map-append (doc_in known) (records_in ss) (records_in ts)

-- ---- what they decode to

module _ (known : Labels) (config : Config) where
  decodes_append : (ss ts : List Records) (d e : List Doc) → Decodes known config ss d → Decodes known config ts e → Decodes known config (ss ++ ts) (d ++ e)
  decodes_append ss ts d e one two =
      let all = zip_append (IsSegmentOf known config) ss ts one.0 two.0 one.1 two.1 in
      (one.0 ++ two.0, all, (λ i. one.2 i ++ two.2 i) ∙ sym (live_append (IsSegmentOf known config) ss ts one.0 two.0 one.1))

  own_docs : (ss : List Records) (d : List Doc) → Decodes known config ss d → Decodes known config ss (docs_in known ss)
  own_docs ss d is = subst (Decodes known config ss) (sym (decoded known config ss d is)) is

  pub decodes_split : (ss ts : List Records) (d : List Doc) → Decodes known config (ss ++ ts) d → Decodes known config ss (docs_in known ss) × Decodes known config ts (docs_in known ts)
  decodes_split ss ts d is =
      let parts = zip_split (IsSegmentOf known config) ss ts is.0 is.1 in
      (own_docs ss (live_docs ss parts.0) (parts.0, parts.3, refl), own_docs ts (live_docs ts parts.1) (parts.1, parts.4, refl))

-- ---- one segment in the place of neighbours that have the same documents

module _ (known : Labels) (before range after : List Records) (m : Records) (same : docs_in known (m ∷ []) ≡ docs_in known range) where
  pub docs_replaced : docs_in known (before ++ m ∷ after) ≡ docs_in known (before ++ (range ++ after))
  docs_replaced =
      docs_append known before (m ∷ after)
      ∙ ap (λ l. docs_in known before ++ l) (docs_append known (m ∷ []) after ∙ ap (λ l. l ++ docs_in known after) same ∙ sym (docs_append known range after))
      ∙ sym (docs_append known before (range ++ after))

  pub decodes_replaced : (config : Config) (d : List Doc) → Decodes known config (before ++ (range ++ after)) d → Decodes known config (m ∷ []) (docs_in known (m ∷ [])) → Decodes known config (before ++ m ∷ after) (docs_in known (before ++ m ∷ after))
  decodes_replaced config d is here =
      let one = decodes_split known config before (range ++ after) d is in
      let two = decodes_split known config range after (docs_in known (range ++ after)) one.1 in
      let rest : Decodes known config (m ∷ after) (docs_in known (m ∷ []) ++ docs_in known after) = decodes_append known config (m ∷ []) after (docs_in known (m ∷ [])) (docs_in known after) here two.1 in
      let docs : List Doc = docs_in known before ++ (docs_in known (m ∷ []) ++ docs_in known after) in
      own_docs known config (before ++ m ∷ after) docs (decodes_append known config before (m ∷ after) (docs_in known before) (docs_in known (m ∷ []) ++ docs_in known after) one.0 rest)
