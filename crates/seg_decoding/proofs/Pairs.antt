-- Terms that rise are those of documents where their pairs are.
use Rattle.std.proofs.Common.{◌≡◌, ℕ, zero, suc, Bool, true, false, cond, List, [], ◌∷◌, length, Option, Some, None, refl, sym, ap, subst, ◌∙◌, arith}
use Rattle.std.specs.Prelude.{slice_get}
use Rattle.std.specs.declared.cmp.Ordering.TheVariants.{Less}
use Rattle.std.specs.Cmp.Lexicographic.{nat_list_cmp_total}
use Rattle.std.specs.List.{list_any, AllByRecursion}
use Rattle.std.specs.List.Sorted.{IsStrictlySortedBy}
use Rattle.std.specs.Map.{keys_of}
use Rattle.std.specs.Option.{option_map_or}
use Rattle.std.specs.Str.{bytes_eq}
use Rattle.std.proofs.lemmas.Bool.{or_left, or_right}
use Rattle.facet_model.specs.Documents.{Doc}
use Rattle.facet_model.specs.Words.{word_cmp}
use Rattle.facet_model.specs.CountedPaths.{places}
use Rattle.facet_model.specs.Terms.{terms_of}
use Rattle.seg_grammar.specs.Spelling.{TermsRise, IsTerm, ArePlacesBelow}
use Rattle.seg_postings.specs.Rising.{is_in}
use Rattle.seg_terms.specs.Laws.{has_term, term_places}
use Rattle.seg_terms.specs.Noting.{Table, found}
use Rattle.seg_terms.proofs.TermLists.{found_in_terms, rises, same_tables}
use Rattle.seg_decoding.specs.Pairs.{has_at, AreTheirs}
use Rattle.seg_file.proofs.PlacesOf.{are_places}
use Rattle.facet_names.proofs.Ordered.{is_less}

-- ---- terms that rise

pub behind : (u : List ℕ) (ts : Table) → TermsRise (Some u) ts → AllByRecursion (λ k. word_cmp u k ≡ Less) (keys_of ts)
behind u [] up = tt
behind u (t ∷ ts) up = (is_less (word_cmp u t.0) up.0, after ts (behind t.0 ts up.1))
  where
    after : (ts : Table) → AllByRecursion (λ k. word_cmp t.0 k ≡ Less) (keys_of ts) → AllByRecursion (λ k. word_cmp u k ≡ Less) (keys_of ts)
    after [] all = tt
    after (s ∷ ss) all = (nat_list_cmp_total.trans u t.0 s.0 (is_less (word_cmp u t.0) up.0) all.0, after ss all.1)

pub sorted_from_rising : (previous : Option (List ℕ)) (ts : Table) → TermsRise previous ts → IsStrictlySortedBy word_cmp (keys_of ts)
unfolding IsStrictlySortedBy
sorted_from_rising previous [] up = tt
sorted_from_rising previous (t ∷ ts) up = (behind t.0 ts up.1, sorted_from_rising (Some t.0) ts up.1)

-- ---- what is found

fitting : (docs : ℕ) (ts : Table) (q : List ℕ) (ps : List ℕ) → AllByRecursion (IsTerm docs) ts → found ts q ≡ Some ps → ArePlacesBelow docs ps
fitting docs [] q ps all e = absurd cc
fitting docs (t ∷ ts) q ps all e = by (bytes_eq q t.0) e (fitting docs ts q ps all.1)
  where
    by : (b : Bool) → cond b (Some t.1) (found ts q) ≡ Some ps → (found ts q ≡ Some ps → ArePlacesBelow docs ps) → ArePlacesBelow docs ps
    by true here rest = let same : t.1 ≡ ps = cc in subst (ArePlacesBelow docs) same all.0.places
    by false later rest = rest later

-- ---- one of the documents

pub some_one : {A : Type 0} (test : A → Bool) (xs : List A) (n : ℕ) → option_map_or test (slice_get xs n) false ≡ true → list_any test xs ≡ true
some_one test [] n e = absurd cc
some_one test (x ∷ xs) zero e = or_left (test x) (list_any test xs) e
some_one test (x ∷ xs) (suc n) e = or_right (test x) (list_any test xs) (some_one test xs n e)

none_of : {A : Type 0} (test : A → Bool) (xs : List A) → ((n : ℕ) → option_map_or test (slice_get xs n) false ≡ false) → list_any test xs ≡ false
none_of test [] none = refl
none_of test (x ∷ xs) none = rw (none 0) (none_of test xs (λ n. none (suc n)))

head_in : (docs : ℕ) (ps : List ℕ) → ArePlacesBelow docs ps → (p : ℕ) × (is_in p ps ≡ true)
head_in docs [] fit = absurd (omega (arith, fit.some))
head_in docs (p ∷ ps) fit = (p, grind arith)

-- ---- the terms are those of the documents

pub terms_are : (docs : List Doc) (terms : Table) → TermsRise None terms → AllByRecursion (IsTerm (length docs)) terms → AreTheirs docs terms → terms ≡ terms_of docs
terms_are docs terms up fit theirs = same_tables terms (terms_of docs) (sorted_from_rising None terms up) (rises docs) (λ q. by q (found terms q) refl ∙ sym (found_in_terms docs q))
  where
    by : (q : List ℕ) (o : Option (List ℕ)) → found terms q ≡ o → found terms q ≡ term_places docs q
    by q None e =
        let none : list_any (has_term q) docs ≡ false = none_of (has_term q) docs (λ n. sym (theirs q n) ∙ ap (λ o. option_map_or (is_in n) o false) e) in
        e ∙ sym (ap (λ b. cond b (Some (places (has_term q) docs)) None) none)
    by q (Some ps) e =
        let own = fitting (length docs) terms q ps fit e in
        let first = head_in (length docs) ps own in
        let members : (n : ℕ) → is_in n ps ≡ has_at docs q n = λ n. sym (ap (λ o. option_map_or (is_in n) o false) e) ∙ theirs q n in
        let some : list_any (has_term q) docs ≡ true = some_one (has_term q) docs first.0 (sym (members first.0) ∙ first.1) in
        e ∙ ap Some (are_places (has_term q) docs ps own.rise members) ∙ sym (ap (λ b. cond b (Some (places (has_term q) docs)) None) some)
