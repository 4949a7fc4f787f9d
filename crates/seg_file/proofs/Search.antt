-- The search for a term.
use Rattle.std.proofs.Common.{◌≡◌, ℕ, zero, suc, ◌+◌, ◌≤◌, ◌<◌, true, false, List, [], ◌∷◌, length, Option, Some, None, refl, sym, ap, ◌∙◌, arith, inl, inr}
use Rattle.std.specs.declared.cmp.Ordering.{Ordering}
use Rattle.std.specs.declared.cmp.Ordering.TheVariants.{Less, Equal, Greater}
use Rattle.std.specs.List.{find}
use Rattle.std.specs.Option.{option_map}
use Rattle.std.specs.Ordering.{is_lt, is_eq, is_ne, ordering_reverse, ordering_then}
use Rattle.std.specs.Prelude.{◌≢◌, ◌==◌, Bool, cond, nat_lt}
use Rattle.std.specs.Str.{bytes_eq}
use Rattle.std.proofs.lemmas.Bool.{cases_lt, eqb-true}
use Rattle.std.proofs.lemmas.Cmp.{nat_list_cmp_total}
use Rattle.std.proofs.lemmas.Map.Text.{is_eq-slice_cmp}
use Rattle.seg_grammar.specs.Spelling.{TermsRise}
use Rattle.seg_grammar.specs.Lookups.{places_of_term}
use Rattle.seg_file.specs.Search.{term_of, IsFirstFrom}
use Rattle.facet_model.specs.Words.{word_cmp as order}
use Rattle.facet_names.proofs.Ordered.{is_less}
use Rattle.seg_terms.proofs.TermLists.{turned}

-- ---- what comes before what

greater_is : (o : Ordering) → is_lt o ≡ false → is_eq o ≡ false → o ≡ Greater
greater_is Less e f = absurd cc
greater_is Equal e f = absurd cc
greater_is Greater e f = refl

before : (a b c : List ℕ) → order a b ≡ Less → order b c ≡ Less → order a c ≡ Less
before a b c e f = nat_list_cmp_total.trans a b c e f

-- one that comes before another is not it
not_it : (a b : List ℕ) → order a b ≡ Less → bytes_eq b a ≡ false
not_it a b e = sym (is_eq-slice_cmp b a) ∙ ap is_eq (nat_list_cmp_total.antisymm b a ∙ ap ordering_reverse e)

not_behind : (a b : List ℕ) → order a b ≡ Less → bytes_eq a b ≡ false
not_behind a b e = sym (is_eq-slice_cmp a b) ∙ ap is_eq e

reversed : (o : Ordering) → is_eq (ordering_reverse o) ≡ is_eq o
reversed Less = refl
reversed Equal = refl
reversed Greater = refl

swapped : (a b : List ℕ) → bytes_eq a b ≡ true → bytes_eq b a ≡ true
swapped a b e = sym (is_eq-slice_cmp b a) ∙ ap is_eq (nat_list_cmp_total.antisymm b a) ∙ reversed (order a b) ∙ is_eq-slice_cmp a b ∙ e

-- two texts differ exactly where one comes before the other
ne_is : (o : Ordering) → true ≡ is_ne o → is_eq o ≡ false
ne_is Less e = refl
ne_is Equal e = absurd cc
ne_is Greater e = refl

eq_is : (o : Ordering) → false ≡ is_ne o → is_eq o ≡ true
eq_is Less e = absurd cc
eq_is Equal e = refl
eq_is Greater e = absurd cc

pub differs : (a b : List ℕ) (o : Ordering) → o ≡ order a b → true ≡ is_ne o → bytes_eq a b ≡ false
differs a b o is e = sym (is_eq-slice_cmp a b) ∙ ap is_eq (sym is) ∙ ne_is o e

pub agrees : (a b : List ℕ) (o : Ordering) → o ≡ order a b → false ≡ is_ne o → bytes_eq a b ≡ true
agrees a b o is e = sym (is_eq-slice_cmp a b) ∙ ap is_eq (sym is) ∙ eq_is o e

-- ---- terms that rise

after_all : (u : List ℕ) (ts : List (List ℕ × List ℕ)) (j : ℕ) → TermsRise (Some u) ts → j < length ts → order u (term_of ts j).0 ≡ Less
after_all u [] j h lt = absurd (omega arith)
after_all u (t ∷ ts) zero h lt = is_less (order u t.0) h.0
after_all u (t ∷ ts) (suc j) h lt = before u t.0 (term_of ts j).0 (is_less (order u t.0) h.0) (after_all t.0 ts j h.1 (omega arith))

rising_between : (previous : Option (List ℕ)) (ts : List (List ℕ × List ℕ)) (i j : ℕ) → TermsRise previous ts → i < j → j < length ts → order (term_of ts i).0 (term_of ts j).0 ≡ Less
rising_between previous [] i j h le lt = absurd (omega arith)
rising_between previous (t ∷ ts) i zero h le lt = absurd (omega arith)
rising_between previous (t ∷ ts) zero (suc j) h le lt = after_all t.0 ts j h.1 (omega arith)
rising_between previous (t ∷ ts) (suc i) (suc j) h le lt = rising_between (Some t.0) ts i j h.1 (omega arith) (omega arith)

-- ---- the term of a word

-- a text that begins with another byte stands to a word's term as it stands to the first byte
pub other_first : (t word : List ℕ) → ((rest : List ℕ) → t ≢ 119 ∷ rest) → order t (119 ∷ []) ≡ order t (119 ∷ word)
other_first [] word other = refl
other_first (x ∷ xs) word other = by (nat_lt x 119) (x == 119) (λ e. other xs (ap (λ y. y ∷ xs) (eqb-true x 119 e)))
  where
    by : (a b : Bool) → (b ≡ true → ⊥) → ordering_then (cond a Less (cond b Equal Greater)) (order xs []) ≡ ordering_then (cond a Less (cond b Equal Greater)) (order xs word)
    by true b differs = refl
    by false true differs = absurd (differs refl)
    by false false differs = refl

-- ---- the bounds of a search

pub first_low : (text : List ℕ) (ts : List (List ℕ × List ℕ)) (low high m : ℕ) → TermsRise None ts → IsFirstFrom text ts low high → m < length ts → is_lt (order (term_of ts m).0 text) ≡ true → IsFirstFrom text ts (m + 1) high
first_low text ts low high m rise h lt e =
    let here : order (term_of ts m).0 text ≡ Less = is_less (order (term_of ts m).0 text) e in
    record {
      below = λ k le. elim (cases_lt k m) [
        | inl less ↦ ap is_lt (before (term_of ts k).0 (term_of ts m).0 text (rising_between None ts k m rise less lt) here)
        | inr ge ↦ let same : k ≡ m = omega arith in ap (λ (i : ℕ). is_lt (order (term_of ts i).0 text)) same ∙ e
      ];
      from = h.from;
    }

not_less : (o : Ordering) → (o ≡ Less → ⊥) → is_lt o ≡ false
not_less Less h = absurd (h refl)
not_less Equal h = refl
not_less Greater h = refl

not_before : (a b text : List ℕ) → order a b ≡ Less → is_lt (order a text) ≡ false → is_lt (order b text) ≡ false
not_before a b text e f = not_less (order b text) (λ less. let t : is_lt (order a text) ≡ true = ap is_lt (before a b text e less) in cc)

pub first_high : (text : List ℕ) (ts : List (List ℕ × List ℕ)) (low high m : ℕ) → TermsRise None ts → IsFirstFrom text ts low high → m < length ts → is_lt (order (term_of ts m).0 text) ≡ false → IsFirstFrom text ts low m
first_high text ts low high m rise h lt e =
    record {
      below = h.below;
      from = λ k le kl. elim (cases_lt m k) [
        | inl less ↦ not_before (term_of ts m).0 (term_of ts k).0 text (rising_between None ts m k rise less kl) e
        | inr ge ↦ let same : k ≡ m = omega arith in ap (λ (i : ℕ). is_lt (order (term_of ts i).0 text)) same ∙ e
      ];
    }

-- ---- what the search finds

find_none : (text : List ℕ) (ts : List (List ℕ × List ℕ)) → ((k : ℕ) → k < length ts → bytes_eq text (term_of ts k).0 ≡ false) → find (λ t. bytes_eq text t.0) ts ≡ None
find_none text [] h = refl
find_none text (t ∷ ts) h = rw (h 0 (omega arith)) (find_none text ts (λ k lt. h (suc k) (omega arith)))

find_at : (text : List ℕ) (ts : List (List ℕ × List ℕ)) (i : ℕ) → ((k : ℕ) → k < i → bytes_eq text (term_of ts k).0 ≡ false) → i < length ts → bytes_eq text (term_of ts i).0 ≡ true → find (λ t. bytes_eq text t.0) ts ≡ Some (term_of ts i)
find_at text [] i h lt e = absurd (omega arith)
find_at text (t ∷ ts) zero h lt e = rw e refl
find_at text (t ∷ ts) (suc i) h lt e = rw (h 0 (omega arith)) (find_at text ts i (λ k le. h (suc k) (omega arith)) (omega arith) e)

none_below : (text : List ℕ) (ts : List (List ℕ × List ℕ)) (at k : ℕ) → IsFirstFrom text ts at at → k < at → bytes_eq text (term_of ts k).0 ≡ false
none_below text ts at k h lt = not_it (term_of ts k).0 text (is_less (order (term_of ts k).0 text) (h.below k lt))

pub none_at_end : (text : List ℕ) (ts : List (List ℕ × List ℕ)) (at : ℕ) → IsFirstFrom text ts at at → at ≡ length ts → places_of_term ts text ≡ None
none_at_end text ts at h e = ap (λ (t : Option (List ℕ × List ℕ)). option_map (λ u. u.1) t) (find_none text ts (λ k lt. none_below text ts at k h (omega arith)))

none_from : (text : List ℕ) (ts : List (List ℕ × List ℕ)) (at k : ℕ) → TermsRise None ts → order (term_of ts at).0 text ≡ Greater → at ≤ k → k < length ts → bytes_eq text (term_of ts k).0 ≡ false
none_from text ts at k rise e le lt =
    let first : order text (term_of ts at).0 ≡ Less = turned (term_of ts at).0 text e in
    elim (cases_lt at k) [
      | inl less ↦ not_behind text (term_of ts k).0 (before text (term_of ts at).0 (term_of ts k).0 first (rising_between None ts at k rise less lt))
      | inr ge ↦ let same : k ≡ at = omega arith in ap (λ (i : ℕ). bytes_eq text (term_of ts i).0) same ∙ not_behind text (term_of ts at).0 first
    ]

pub none_there : (text : List ℕ) (ts : List (List ℕ × List ℕ)) (at : ℕ) → TermsRise None ts → IsFirstFrom text ts at at → at < length ts → bytes_eq (term_of ts at).0 text ≡ false → places_of_term ts text ≡ None
none_there text ts at rise h lt e =
    let beyond : order (term_of ts at).0 text ≡ Greater = greater_is (order (term_of ts at).0 text) (h.from at (omega arith) lt) (is_eq-slice_cmp (term_of ts at).0 text ∙ e) in
    ap (λ (t : Option (List ℕ × List ℕ)). option_map (λ u. u.1) t) (find_none text ts (λ k kl. elim (cases_lt k at) [ inl less ↦ none_below text ts at k h less | inr ge ↦ none_from text ts at k rise beyond ge kl ]))

pub found_there : (text : List ℕ) (ts : List (List ℕ × List ℕ)) (at : ℕ) → IsFirstFrom text ts at at → at < length ts → bytes_eq (term_of ts at).0 text ≡ true → places_of_term ts text ≡ Some (term_of ts at).1
found_there text ts at h lt e = ap (λ (t : Option (List ℕ × List ℕ)). option_map (λ u. u.1) t) (find_at text ts at (λ k le. none_below text ts at k h le) lt (swapped (term_of ts at).0 text e))
