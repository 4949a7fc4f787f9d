-- The terms of documents are short: their words and the texts of their labels are.
use Rattle.std.proofs.Common.{◌≡◌, ℕ, zero, suc, ◌+◌, ◌≤◌, Bool, true, false, cond, ◌||◌, List, [], ◌∷◌, ◌++◌, length, take, map, refl, sym, subst, arith, inl, inr, length-drop, length-take-le}
use Rattle.std.specs.Prelude.{codes, filter, flat_map}
use Rattle.std.specs.List.{AllByRecursion, after_first, list_any, position_or_len, range_with_len, slice_split}
use Rattle.std.specs.Str.{bytes_eq, str_to_ascii_lowercase}
use Rattle.std.proofs.lemmas.Bool.{cases_lt}
use Rattle.std.proofs.lemmas.List.{length-append, length-map}
use Rattle.std.proofs.lemmas.List.Elements.{All-from_get_or}
use Rattle.std.proofs.lemmas.List.Splits.{slice_split_first, slice_split_none}
use Rattle.std.proofs.lemmas.List.Sums.{fails_before_first}
use Rattle.facet_names.specs.Faults.{IsPath}
use Rattle.facet_names.specs.Labels.{prefixes}
use Rattle.facet_names.specs.Terms.{term_text}
use Rattle.facet_names.proofs.Parts.{front_fits}
use Rattle.facet_names.proofs.TermTexts.{term_text_is_short}
use Rattle.facet_model.specs.Documents.{Doc}
use Rattle.facet_model.specs.Terms.{doc_terms, terms_of}
use Rattle.facet_model.specs.Words.{is_blank, words}
use Rattle.seg_terms.specs.Laws.{has_term}
use Rattle.seg_terms.specs.Places.{IsShortTerm}
use Rattle.seg_terms.proofs.Tables.{bytes_same}
use Rattle.seg_terms.proofs.TermLists.{each_term}
use Rattle.facet_model.proofs.Each.{each_append}

-- ---- all of a list

all_map : {A B : Type 0} (P : A → Type 0) (Q : B → Type 0) (f : A → B) → ((x : A) → P x → Q (f x)) → (xs : List A) → AllByRecursion P xs → AllByRecursion Q (map f xs)
all_map P Q f so [] all = tt
all_map P Q f so (x ∷ xs) all = (so x all.0, all_map P Q f so xs all.1)

all_filter : {A : Type 0} (P : A → Type 0) (test : A → Bool) (xs : List A) → AllByRecursion P xs → AllByRecursion P (filter test xs)
all_filter P test [] all = tt
all_filter P test (x ∷ xs) all = by (test x) (all_filter P test xs all.1)
  where
    by : (b : Bool) → AllByRecursion P (filter test xs) → AllByRecursion P (cond b (x ∷ filter test xs) (filter test xs))
    by true rest = (all.0, rest)
    by false rest = rest

-- ---- words

pieces_within : (n most : ℕ) (bs : List ℕ) → length bs ≤ n → length bs ≤ most → AllByRecursion (λ p. length p ≤ most) (slice_split is_blank bs)
pieces_within zero most [] le fits = (fits, tt)
pieces_within zero most (b ∷ bs) le fits = absurd (omega arith)
pieces_within (suc n) most bs le fits =
    elim (cases_lt (position_or_len is_blank bs) (length bs)) [
      | inl lt ↦
          let front : length (take (position_or_len is_blank bs) bs) ≡ position_or_len is_blank bs = length-take-le (position_or_len is_blank bs) bs (omega arith) in
          let less : length (after_first is_blank bs) ≤ n = omega (arith, length-drop (position_or_len is_blank bs + 1) bs) in
          let back : length (after_first is_blank bs) ≤ most = omega (arith, length-drop (position_or_len is_blank bs + 1) bs) in
          rw (slice_split_first is_blank bs 0 lt) (omega (arith, front), pieces_within n most (after_first is_blank bs) less back)
      | inr ge ↦ rw (slice_split_none is_blank bs (All-from_get_or (λ b. is_blank b ≡ false) bs 0 (λ i lt. fails_before_first is_blank bs i 0 (omega arith)))) (fits, tt)
    ]

words_short : (text : List ℕ) → length text ≤ 65536 → AllByRecursion IsShortTerm (map (λ w. codes "w" ++ w) (words text))
words_short text short =
    let lowered : List ℕ = str_to_ascii_lowercase text in
    let size : length lowered ≤ 65536 = omega (arith, lowered_length text) in
    all_map (λ (w : List ℕ). length w ≤ 65536) IsShortTerm (λ w. codes "w" ++ w) (λ w le. omega (arith, length-append (codes "w") w)) (words text) (all_filter (λ (w : List ℕ). length w ≤ 65536) _ (slice_split is_blank lowered) (pieces_within (length lowered) 65536 lowered (omega arith) size))
  where
    lowered_length : (bs : List ℕ) → length (str_to_ascii_lowercase bs) ≡ length bs
    lowered_length bs = length-map bs _

-- ---- labels

fronts_fit : (path : List (List ℕ)) → IsPath path → (a m : ℕ) → 1 ≤ a → a + m ≤ length path + 1 → AllByRecursion IsPath (map (λ n. take n path) (range_with_len a m))
fronts_fit path fits a zero low high = tt
fronts_fit path fits a (suc m) low high = (front_fits a path (omega arith) (omega arith) fits, fronts_fit path fits (a + 1) m (omega arith) (omega arith))

prefixes_fit : (labels : List (List (List ℕ))) → AllByRecursion IsPath labels → AllByRecursion IsPath (flat_map prefixes labels)
prefixes_fit [] all = tt
prefixes_fit (l ∷ ls) all = each_append IsPath (prefixes l) (flat_map prefixes ls) (fronts_fit l all.0 1 (length l) (omega arith) (omega arith)) (prefixes_fit ls all.1)

-- ---- documents

pub doc_short : (doc : Doc) → length doc.text ≤ 65536 → AllByRecursion IsPath doc.labels → AllByRecursion IsShortTerm (doc_terms doc)
doc_short doc short fit =
    each_append IsShortTerm (map (λ w. codes "w" ++ w) (words doc.text)) (map (λ p. codes "f" ++ term_text p) (flat_map prefixes doc.labels)) (words_short doc.text short)
    (all_map IsPath IsShortTerm (λ p. codes "f" ++ term_text p) (λ p is. omega (arith, length-append (codes "f") (term_text p), term_text_is_short p is)) (flat_map prefixes doc.labels) (prefixes_fit doc.labels fit))

-- each of their terms is
abbrev pub IsShortDoc : Doc → Type 0
IsShortDoc doc = AllByRecursion IsShortTerm (doc_terms doc)

short_among : (t : List ℕ) (ts : List (List ℕ)) → AllByRecursion IsShortTerm ts → list_any (bytes_eq t) ts ≡ true → IsShortTerm t
short_among t [] all there = absurd cc
short_among t (u ∷ us) all there = by (bytes_eq t u) refl there (short_among t us all.1)
  where
    by : (b : Bool) → bytes_eq t u ≡ b → (b || list_any (bytes_eq t) us) ≡ true → (list_any (bytes_eq t) us ≡ true → IsShortTerm t) → IsShortTerm t
    by true same there rest = subst IsShortTerm (sym (bytes_same t u same)) all.0
    by false same there rest = rest there

short_in : (t : List ℕ) (docs : List Doc) → AllByRecursion IsShortDoc docs → list_any (has_term t) docs ≡ true → IsShortTerm t
short_in t [] all there = absurd cc
short_in t (d ∷ ds) all there = by (has_term t d) refl there (short_in t ds all.1)
  where
    by : (b : Bool) → has_term t d ≡ b → (b || list_any (has_term t) ds) ≡ true → (list_any (has_term t) ds ≡ true → IsShortTerm t) → IsShortTerm t
    by true has there rest = short_among t (doc_terms d) all.0 has
    by false has there rest = rest there

pub terms_short : (docs : List Doc) → AllByRecursion IsShortDoc docs → AllByRecursion (λ t. IsShortTerm t.0) (terms_of docs)
terms_short docs all = each_term docs (λ t. IsShortTerm t.0) (λ t there. short_in t docs all there)
