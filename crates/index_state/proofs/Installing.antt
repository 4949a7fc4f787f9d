-- A segment in the place of neighbours that have the same documents.
use Rattle.std.proofs.Common.{◌≡◌, ℕ, suc, ◌+◌, ◌<◌, ◌≤◌, List, [], ◌∷◌, ◌++◌, length, map, take, drop, drop-drop, set, sym, ap, ◌∙◌, arith, append_assoc}
use Rattle.std.proofs.lemmas.List.{map-append, take-append-drop, take-map, drop-map, drop-set-lt}
use Rattle.std.proofs.Math.Seq.{take-suc-set}
use Rattle.facet_names.proofs.LabelLists.{Labels}
use Rattle.facet_model.specs.Flags.{Config}
use Rattle.facet_model.specs.Stored.{Records}
use Rattle.facet_model.proofs.Each.{each_append}
use Rattle.seg_terms.specs.declared.entry.Entry.{Entry}
use Rattle.seg_documents.specs.Decoding.{docs_in}
use Rattle.seg_documents.specs.Storing.{IsStored, AreStored}
use Rattle.seg_documents.proofs.Joined.{docs_replaced, decodes_replaced}
use Rattle.chronicle.specs.Shown.{Shown}
use Rattle.taxo_cache.specs.Seen.{labels_of}
use Rattle.index_state.specs.Index.{DecodeUnder, docs_under}
use Rattle.index_state.specs.Kept.{IsKept}

-- ---- lists

-- three parts of a list
pub in_parts : {A : Type 0} (xs : List A) (first count : ℕ) → xs ≡ take first xs ++ (take count (drop first xs) ++ drop (first + count) xs)
in_parts xs first count =
    sym (take-append-drop first xs) ∙ ap (λ l. take first xs ++ l) (sym (take-append-drop count (drop first xs)) ∙ ap (λ l. take count (drop first xs) ++ l) (drop-drop count first xs))

-- the first of some elements is replaced, and the others are taken out
pub put_in_place : {A : Type 0} (xs : List A) (m : A) (first count : ℕ) → 0 < count → first + count ≤ length xs → take (first + 1) (set xs first m) ++ drop (first + count) (set xs first m) ≡ take first xs ++ m ∷ drop (first + count) xs
put_in_place xs m first count some within =
    let size : first + 1 ≡ suc first = omega arith in
    let one : take (first + 1) (set xs first m) ≡ take first xs ++ m ∷ [] = ap (λ n. take n (set xs first m)) size ∙ take-suc-set xs first m (omega (arith, some, within)) in
    let two : drop (first + count) (set xs first m) ≡ drop (first + count) xs = drop-set-lt (first + count) xs first m (omega (arith, some)) in
    (λ i. one i ++ two i) ∙ append_assoc (take first xs) (m ∷ []) (drop (first + count) xs)

-- what is made of each element
pub mapped : {A B : Type 0} (f : A → B) (xs : List A) (m : A) (first k : ℕ) → map f (take first xs ++ m ∷ drop k xs) ≡ take first (map f xs) ++ f m ∷ drop k (map f xs)
mapped f xs m first k = map-append f (take first xs) (m ∷ drop k xs) ∙ (λ i. sym (take-map f first xs) i ++ f m ∷ sym (drop-map f k xs) i)

-- ---- segments

stored_front : (ss ts : List Records) → AreStored (ss ++ ts) → AreStored ss
stored_front [] ts all = tt
stored_front (s ∷ ss) ts all = (all.0, stored_front ss ts all.1)

pub stored_back : (ss ts : List Records) → AreStored (ss ++ ts) → AreStored ts
stored_back [] ts all = all
stored_back (s ∷ ss) ts all = stored_back ss ts all.1

-- what an index keeps true stays
module _ (config : Config) (labels : Shown (List (List ℕ))) (before range after : List Records) (m : Records) (same : docs_under labels (m ∷ []) ≡ docs_under labels range) where
  pub installed_docs : docs_under labels (before ++ m ∷ after) ≡ docs_under labels (before ++ (range ++ after))
  installed_docs = docs_replaced (labels_of labels.seen) before range after m same

  pub kept_installed : (waiting : List Entry) (sessions : List ℕ) (max_docs : ℕ) → IsKept config labels (before ++ (range ++ after)) waiting sessions max_docs → DecodeUnder labels config (m ∷ []) → IsStored m → IsKept config labels (before ++ m ∷ after) waiting sessions max_docs
  kept_installed waiting sessions max_docs kept here own =
      let known : Labels = labels_of labels.seen in
      let behind : AreStored (range ++ after) = stored_back before (range ++ after) kept.own in
      record {
        note = kept.note;
        list = kept.list;
        decoded = decodes_replaced known before range after m same config (docs_in known (before ++ (range ++ after))) kept.decoded here;
        own = each_append IsStored before (m ∷ after) (stored_front before (range ++ after) kept.own) (own, stored_back range after behind);
        entries = kept.entries;
        each = omega (arith, kept.each, ap length installed_docs);
        few = kept.few;
        most = kept.most;
      }
