-- Segments of the same records, others of which are live, stand for documents too.
use Rattle.std.proofs.Common.{◌≡◌, ℕ, zero, suc, ◌+◌, ◌<◌, ◌≤◌, Bool, true, false, cond, List, [], ◌∷◌, ◌++◌, length, map, take, get_or, refl, sym, ap, subst, ◌∙◌, arith, length-append}
use Rattle.std.specs.List.{AllZip, sum_by}
use Rattle.std.proofs.lemmas.List.{map_push, take_more}
use Rattle.std.proofs.lemmas.List.Sums.{sum_by-cons}
use Rattle.facet_model.specs.Documents.{Doc}
use Rattle.facet_model.specs.Flags.{Config}
use Rattle.facet_model.specs.Stored.{Records, Decodes, IsRecordOf, IsSegmentOf, alive, is_dead, live_before, live_docs}
use Rattle.live_records.proofs.Alive.{length_alive}
use Rattle.search_tests.specs.Alike.{IsStoredAlike}
use Rattle.std.proofs.lemmas.Slice.Zip.{all_zipped_more}

as_long : {A B : Type 0} (R : A → B → Type 0) (xs : List A) (ys : List B) → AllZip R xs ys → length ys ≡ length xs
as_long R [] [] all = refl
as_long R [] (y ∷ ys) all = absurd all
as_long R (x ∷ xs) [] all = absurd all
as_long R (x ∷ xs) (y ∷ ys) all = ap suc (as_long R xs ys all.1)

few_before : (dead : List ℕ) (n : ℕ) → live_before dead n ≤ n
few_before dead zero = omega arith
few_before dead (suc n) = by (is_dead dead n) (few_before dead n)
  where
    by : (b : Bool) → live_before dead n ≤ n → cond b (live_before dead n) (live_before dead n + 1) ≤ suc n
    by true few = omega (arith, few)
    by false few = omega (arith, few)

module _ (known : List (List (List ℕ))) (config : Config) where
  all_alike : (ss ts : List Records) (pieces : List (List Doc)) → AllZip IsStoredAlike ss ts → AllZip (IsSegmentOf known config) ss pieces → AllZip (IsSegmentOf known config) ts pieces
  all_alike [] [] [] alike are = tt
  all_alike [] [] (p ∷ ps) alike are = absurd are
  all_alike [] (t ∷ ts) pieces alike are = absurd alike
  all_alike (s ∷ ss) [] pieces alike are = absurd alike
  all_alike (s ∷ ss) (t ∷ ts) [] alike are = absurd are
  all_alike (s ∷ ss) (t ∷ ts) (p ∷ ps) alike are = (
    record { records = subst (λ rs. AllZip (IsRecordOf known config) rs p) (sym alike.0.records) are.0.records; terms = alike.0.terms ∙ are.0.terms },
    all_alike ss ts ps alike.1 are.1,
  )

  few_live : (ts : List Records) (pieces : List (List Doc)) → AllZip (IsSegmentOf known config) ts pieces → length (live_docs ts pieces) ≤ sum_by (λ s. length s.records) ts
  few_live [] [] are = omega arith
  few_live [] (p ∷ ps) are = absurd are
  few_live (t ∷ ts) [] are = absurd are
  few_live (t ∷ ts) (p ∷ ps) are = omega (
    arith,
    sum_by-cons (λ (s : Records). length s.records) t ts,
    length-append (alive t.dead p) (live_docs ts ps),
    length_alive t.dead p,
    few_before t.dead (length p),
    as_long (IsRecordOf known config) t.records p are.0.records,
    few_live ts ps are.1,
  )

  -- They decode to the documents of the records that are live now.
  pub decodes_alike : (ss ts : List Records) (docs : List Doc) (most : ℕ) → AllZip IsStoredAlike ss ts → Decodes known config ss docs → sum_by (λ s. length s.records) ts ≤ most
      → (live : List Doc) × Decodes known config ts live × (length live ≤ most)
  decodes_alike ss ts docs most alike decodes few =
      let are = all_alike ss ts decodes.0 alike decodes.1 in
      (live_docs ts decodes.0, (decodes.0, are, refl), omega (arith, few_live ts decodes.0 are, few))

  -- So many documents at most, where there are as few records.
  pub few_docs : (ss : List Records) (docs : List Doc) (most : ℕ) → Decodes known config ss docs → sum_by (λ s. length s.records) ss ≤ most → length docs ≤ most
  few_docs ss docs most decodes few = subst (λ l. length l ≤ most) (sym decodes.2) (omega (arith, few_live ss decodes.0 decodes.1, few))

-- ---- one segment after the other

take_next : {A B : Type 0} (f : A → B) (xs : List A) (i : ℕ) (x : A) → i < length xs → x ≡ get_or xs i x → map f (take (i + 1) xs) ≡ map f (take i xs) ++ f x ∷ []
take_next f xs i x lt is = ap (map f) (take_more xs i x lt ∙ ap (λ z. take i xs ++ z ∷ []) (sym is)) ∙ map_push f (take i xs) x

pub zip_more : {A B C D : Type 0} (R : C → D → Type 0) (f : A → C) (g : B → D) (xs : List A) (i : ℕ) (x : A) (ys : List B) (y : B) → i < length xs → x ≡ get_or xs i x → AllZip R (map f (take i xs)) (map g ys) → R (f x) (g y)
    → AllZip R (map f (take (i + 1) xs)) (map g (ys ++ y ∷ []))
zip_more R f g xs i x ys y lt is all here = subst (λ l. AllZip R (map f (take (i + 1) xs)) l) (sym (map_push g ys y)) (subst (λ l. AllZip R l (map g ys ++ g y ∷ [])) (sym (take_next f xs i x lt is)) (all_zipped_more R (map f (take i xs)) (map g ys) (f x) (g y) all here))
