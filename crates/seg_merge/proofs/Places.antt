-- The places of the terms of segments are those of their documents.
use Rattle.std.proofs.Common.{◌≡◌, ◌⊎◌, inl, inr, ℕ, ◌+◌, ◌<◌, ◌≤◌, Bool, true, false, cond, List, [], ◌∷◌, ◌++◌, length, Some, None, refl, sym, ap, ◌∙◌, arith}
use Rattle.std.specs.Prelude.{unwrap_or}
use Rattle.std.specs.List.{list_any, AllByRecursion}
use Rattle.std.specs.List.Sorted.{IsStrictlySortedBy}
use Rattle.std.specs.Map.{keys_of}
use Rattle.std.specs.Str.{bytes_eq}
use Rattle.std.proofs.lemmas.Bool.{cases_lt}
use Rattle.std.proofs.lemmas.List.{append-nil, length-append}
use Rattle.std.proofs.lemmas.Map.Keys.{sorted_tail}
use Rattle.std.proofs.lemmas.Option.{none-some}
use Rattle.facet_names.proofs.Places.{places_from}
use Rattle.facet_model.specs.Documents.{Doc}
use Rattle.facet_model.specs.Words.{word_cmp}
use Rattle.facet_model.specs.CountedPaths.{places}
use Rattle.facet_model.specs.Stored.{Records, alive, live_before, live_docs}
use Rattle.facet_model.specs.Terms.{terms_of}
use Rattle.live_records.proofs.Alive.{length_alive}
use Rattle.seg_terms.specs.Noting.{Table, found, behind}
use Rattle.seg_terms.specs.Laws.{has_term}
use Rattle.seg_terms.specs.Places.{IsShortTerm}
use Rattle.seg_terms.proofs.Tables.{bytes_same, none_below}
use Rattle.seg_terms.proofs.TermLists.{found_in_terms, rises, table_is, each_term}
use Rattle.seg_terms.proofs.DocPlaces.{no_places}
use Rattle.seg_grammar.specs.Spelling.{IsTerm}
use Rattle.seg_documents.specs.Decoding.{records_in}
use Rattle.seg_merge.specs.Moved.{moved, all_places, places_in}
use Rattle.seg_merge.specs.Merged.{HasTerms, HaveTerms, IsOwn}
use Rattle.seg_merge.proofs.Moved.{moved_places, places_append, some_of_places}

-- where the keys rise each stands once
pub all_found : (es : Table) → IsStrictlySortedBy word_cmp (keys_of es) → (q : List ℕ) → all_places es q ≡ unwrap_or (found es q) []
unfolding IsStrictlySortedBy
all_found [] up q = refl
all_found (e ∷ es) up q = by (bytes_eq q e.0) refl (all_found es (sorted_tail word_cmp e.0 (keys_of es) up) q)
  where
    past : (fs : Table) → IsStrictlySortedBy word_cmp (keys_of (e ∷ fs)) → q ≡ e.0 → found fs q ≡ None
    past [] _ _ = refl
    past (f ∷ fs) rise here = ap (found (f ∷ fs)) here ∙ none_below e.0 f fs rise.1 rise.0.0

    by : (b : Bool) → bytes_eq q e.0 ≡ b → all_places es q ≡ unwrap_or (found es q) [] → cond b e.1 [] ++ all_places es q ≡ unwrap_or (cond b (Some e.1) (found es q)) []
    by true is rest = ap (λ l. e.1 ++ l) (rest ∙ ap (λ o. unwrap_or o []) (past es up (bytes_same q e.0 is))) ∙ append-nil e.1
    by false is rest = rest

-- the places under a term of documents
all_of_docs : (docs : List Doc) (q : List ℕ) → all_places (terms_of docs) q ≡ places (has_term q) docs
all_of_docs docs q = all_found (terms_of docs) (rises docs) q ∙ ap (λ o. unwrap_or o []) (found_in_terms docs q) ∙ by (list_any (has_term q) docs) (no_places (has_term q) docs 0)
  where
    by : (b : Bool) → (b ≡ false → places (has_term q) docs ≡ []) → unwrap_or (cond b (Some (places (has_term q) docs)) None) [] ≡ places (has_term q) docs
    by true none = refl
    by false none = sym (none refl)

-- one segment
one_is : (base : ℕ) (s : Records) (docs : List Doc) (q : List ℕ) → HasTerms s docs → moved base s.dead (all_places s.terms q) ≡ places_from (has_term q) base (alive s.dead docs)
one_is base s docs q has = ap (moved base s.dead) (ap (λ ts. all_places ts q) has.terms ∙ all_of_docs docs q) ∙ moved_places (has_term q) base s.dead docs

-- all segments
pub places_are : (base : ℕ) (ss : List Records) (pieces : List (List Doc)) (q : List ℕ) → HaveTerms ss pieces → places_in base ss q ≡ places_from (has_term q) base (live_docs ss pieces)
places_are base [] [] q have = refl
places_are base [] (p ∷ ps) q have = absurd have
places_are base (s ∷ ss) [] q have = absurd have
places_are base (s ∷ ss) (p ∷ ps) q have =
    let as_many : length (alive s.dead s.records) ≡ length (alive s.dead p) = length_alive s.dead s.records ∙ ap (live_before s.dead) (sym have.0.each) ∙ sym (length_alive s.dead p) in
    (λ i. one_is base s p q have.0 i ++ (ap (λ n. places_in (base + n) ss q) as_many ∙ places_are (base + length (alive s.dead p)) ss ps q have.1) i)
    ∙ sym (places_append (has_term q) base (alive s.dead p) (live_docs ss ps))

-- as many documents as live records
pub as_many_docs : (ss : List Records) (pieces : List (List Doc)) → HaveTerms ss pieces → length (live_docs ss pieces) ≡ length (records_in ss)
as_many_docs [] [] have = refl
as_many_docs [] (p ∷ ps) have = absurd have
as_many_docs (s ∷ ss) [] have = absurd have
as_many_docs (s ∷ ss) (p ∷ ps) have =
    let same : length (alive s.dead p) ≡ length (alive s.dead s.records) = length_alive s.dead p ∙ ap (live_before s.dead) have.0.each ∙ sym (length_alive s.dead s.records) in
    length-append (alive s.dead p) (live_docs ss ps) ∙ (λ i. same i + as_many_docs ss ps have.1 i) ∙ sym (length-append (alive s.dead s.records) (records_in ss))

-- ---- the whole

module _ (ss : List Records) (pieces : List (List Doc)) (have : HaveTerms ss pieces) (es : Table) (up : IsStrictlySortedBy word_cmp (keys_of es)) (same : (q : List ℕ) → found es q ≡ behind None (places_in 0 ss q)) where
  pub merged_is : es ≡ terms_of (live_docs ss pieces)
  merged_is = table_is (live_docs ss pieces) es up (λ q. same q ∙ ap (behind None) (places_are 0 ss pieces q have) ∙ some_of_places (has_term q) (live_docs ss pieces) 0)

-- ---- the texts are short

none_long : (n : ℕ) (ts : Table) (q : List ℕ) → AllByRecursion (IsTerm n) ts → 65568 < length q → all_places ts q ≡ []
none_long n [] q fit long = refl
none_long n (t ∷ ts) q fit long = by (bytes_eq q t.0) refl (none_long n ts q fit.1 long)
  where
    by : (b : Bool) → bytes_eq q t.0 ≡ b → all_places ts q ≡ [] → cond b t.1 [] ++ all_places ts q ≡ []
    by true is rest = absurd (omega (arith, long, ap length (bytes_same q t.0 is), fit.0.text.length))
    by false is rest = rest

none_long_in : (base : ℕ) (ss : List Records) (q : List ℕ) → AllByRecursion IsOwn ss → 65568 < length q → places_in base ss q ≡ []
none_long_in base [] q own long = refl
none_long_in base (s ∷ ss) q own long =
    (λ i. moved base s.dead (none_long (length s.records) s.terms q own.0.terms long i) ++ none_long_in (base + length (alive s.dead s.records)) ss q own.1 long i)

pub texts_short : (ss : List Records) (pieces : List (List Doc)) → HaveTerms ss pieces → AllByRecursion IsOwn ss → AllByRecursion (λ t. IsShortTerm t.0) (terms_of (live_docs ss pieces))
texts_short ss pieces have own = each_term (live_docs ss pieces) (λ t. IsShortTerm t.0) (λ q there. short q there (cases_lt 65568 (length q)))
  where
    short : (q : List ℕ) → list_any (has_term q) (live_docs ss pieces) ≡ true → (65568 < length q) ⊎ (length q ≤ 65568) → length q ≤ 65568
    short q there (inr low) = low
    short q there (inl long) =
        let none : None ≡ cond (list_any (has_term q) (live_docs ss pieces)) (Some (places_from (has_term q) 0 (live_docs ss pieces))) None =
        ap (behind None) (sym (none_long_in 0 ss q own long) ∙ places_are 0 ss pieces q have) ∙ some_of_places (has_term q) (live_docs ss pieces) 0 in
        absurd (none-some _ (none ∙ ap (λ b. cond b (Some (places_from (has_term q) 0 (live_docs ss pieces))) None) there))
