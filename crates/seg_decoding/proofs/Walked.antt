-- Places that were passed, term after term and document after document.
use Rattle.std.proofs.Common.{◌≡◌, ℕ, zero, suc, ◌<◌, ◌⊎◌, eqb, Bool, true, false, cond, List, [], ◌∷◌, ◌++◌, length, get_or, Option, Some, None, refl, sym, ap, subst, ◌∙◌, arith, inl, inr}
use Rattle.std.specs.Prelude.{slice_get, All}
use Rattle.std.specs.List.{list_any, AllByRecursion}
use Rattle.std.specs.Map.{keys_of}
use Rattle.std.specs.Option.{option_map_or}
use Rattle.std.specs.Str.{bytes_eq}
use Rattle.std.specs.declared.cmp.Ordering.TheVariants.{Less}
use Rattle.std.proofs.lemmas.Bool.{true≢false, or_cases, or_left, or_right, eqb-true}
use Rattle.std.proofs.lemmas.Map.Text.{is_eq-slice_cmp}
use Rattle.std.specs.Ordering.{is_eq}
use Rattle.facet_model.specs.Documents.{Doc}
use Rattle.facet_model.specs.Words.{word_cmp}
use Rattle.facet_model.specs.Terms.{doc_terms}
use Rattle.seg_grammar.specs.Spelling.{TermsRise}
use Rattle.seg_postings.specs.Rising.{is_in}
use Rattle.seg_file.specs.Search.{term_of}
use Rattle.seg_terms.specs.Laws.{has_term}
use Rattle.seg_terms.specs.Noting.{Table, found}
use Rattle.seg_terms.proofs.Tables.{bytes_same}
use Rattle.seg_decoding.specs.Pairs.{is_stored, has_at, AreTheirs, IsPassed, OnlyTheirs, Passes}
use Rattle.seg_decoding.proofs.Pairs.{behind}
use Rattle.std.proofs.lemmas.List.Elements.{All-from_recursion, recursion_from_All}
use Rattle.facet_model.proofs.Each.{each_append}
use Rattle.std.specs.Cmp.{both_ways}
use Rattle.seg_postings.proofs.Members.{is_there}
use Rattle.std.specs.Cmp.Lexicographic.{nat_list_eq_equiv}

-- ---- one after the other

all_front : {A : Type 0} (P : A → Type 0) (xs ys : List A) → AllByRecursion P (xs ++ ys) → AllByRecursion P xs
all_front P [] ys all = tt
all_front P (x ∷ xs) ys all = (all.0, all_front P xs ys all.1)

all_back : {A : Type 0} (P : A → Type 0) (xs ys : List A) → AllByRecursion P (xs ++ ys) → AllByRecursion P ys
all_back P [] ys all = all
all_back P (x ∷ xs) ys all = all_back P xs ys all.1

module _ (terms : Table) where
  pub passed_stays : (old new : List ℕ) (t : List ℕ) (p : ℕ) → ((at index : ℕ) → index < get_or old at 0 → index < get_or new at 0) → IsPassed terms old t p → IsPassed terms new t p
  passed_stays old new t p grows h = record { at = h.at; there = h.there; is = h.is; index = h.index; within = grows h.at h.index h.within; points = h.points }

  all_stay : (old new : List ℕ) (p : ℕ) (own : List (List ℕ)) → ((at index : ℕ) → index < get_or old at 0 → index < get_or new at 0) → AllByRecursion (λ t. IsPassed terms old t p) own → AllByRecursion (λ t. IsPassed terms new t p) own
  all_stay old new p [] grows all = tt
  all_stay old new p (t ∷ ts) grows all = (passed_stays old new t p grows all.0, all_stay old new p ts grows all.1)

  pub passes_none : (place : ℕ) (a : List ℕ) → Passes terms place [] a a
  passes_none place a = record { size = refl; grows = λ at index lt. lt; only = λ docs all only. only; each = λ k d lt. absurd (omega arith) }

  pub passes_more : (place : ℕ) (xs ys : List (List ℕ)) (a b c : List ℕ) → Passes terms place xs a b → Passes terms place ys b c → Passes terms place (xs ++ ys) a c
  passes_more place xs ys a b c one two = record {
    size = two.size ∙ one.size;
    grows = λ at index lt. two.grows at index (one.grows at index lt);
    only = λ docs all only.
        let each = recursion_from_All (λ t. has_at docs t place ≡ true) (xs ++ ys) all in
        two.only docs (All-from_recursion (λ t. has_at docs t place ≡ true) ys (all_back (λ t. has_at docs t place ≡ true) xs ys each)) (one.only docs (All-from_recursion (λ t. has_at docs t place ≡ true) xs (all_front (λ t. has_at docs t place ≡ true) xs ys each)) only);
    each = All-from_recursion (λ t. IsPassed terms c t place) (xs ++ ys) (each_append (λ t. IsPassed terms c t place) xs ys (all_stay b c place xs two.grows (recursion_from_All (λ t. IsPassed terms b t place) xs one.each)) (recursion_from_All (λ t. IsPassed terms c t place) ys two.each));
  }

  -- ---- all were passed

  found_at : (previous : Option (List ℕ)) (ts : Table) → TermsRise previous ts → (k : ℕ) → k < length ts → found ts (term_of ts k).0 ≡ Some (term_of ts k).1
  found_at previous [] up k lt = absurd (omega arith)
  found_at previous (t ∷ ts) up zero lt = ap (λ b. cond b (Some t.1) (found ts t.0)) (nat_list_eq_equiv.refl t.0)
  found_at previous (t ∷ ts) up (suc k) lt = ap (λ b. cond b (Some t.1) (found ts (term_of ts k).0)) (apart ts k (behind t.0 ts up.1) (omega arith)) ∙ found_at (Some t.0) ts up.1 k (omega arith)
    where
      self_less : word_cmp t.0 t.0 ≡ Less → ⊥
      self_less e = absurd (true≢false (sym (nat_list_eq_equiv.refl t.0) ∙ sym (is_eq-slice_cmp t.0 t.0) ∙ ap is_eq e))

      other : (q : List ℕ) (b : Bool) → word_cmp t.0 q ≡ Less → bytes_eq q t.0 ≡ b → b ≡ false
      other q true less e = absurd (self_less (sym (ap (word_cmp t.0) (bytes_same q t.0 e)) ∙ less))
      other q false less e = refl

      apart : (us : Table) (k : ℕ) → AllByRecursion (λ q. word_cmp t.0 q ≡ Less) (keys_of us) → k < length us → bytes_eq (term_of us k).0 t.0 ≡ false
      apart [] k all lt = absurd (omega arith)
      apart (u ∷ us) zero all lt = other u.0 (bytes_eq u.0 t.0) all.0 refl
      apart (u ∷ us) (suc k) all lt = apart us k all.1 (omega arith)

  where_in : (q : ℕ) (ps : List ℕ) → is_in q ps ≡ true → (j : ℕ) × (j < length ps) × (get_or ps j 0 ≡ q)
  where_in q [] e = absurd cc
  where_in q (p ∷ ps) e = by (where_in q ps) (or_cases (eqb q p) (is_in q ps) e)
    where
      by : (is_in q ps ≡ true → (j : ℕ) × (j < length ps) × (get_or ps j 0 ≡ q)) → (eqb q p ≡ true) ⊎ (is_in q ps ≡ true) → (j : ℕ) × (j < length (p ∷ ps)) × (get_or (p ∷ ps) j 0 ≡ q)
      by rest (inl here) = (0, omega arith, sym (eqb-true q p here))
      by rest (inr later) = let r = rest later in (suc r.0, omega (arith, r.1), r.2)

  where_found : (ts : Table) (t : List ℕ) (ps : List ℕ) → found ts t ≡ Some ps → (k : ℕ) × (k < length ts) × ((term_of ts k).0 ≡ t) × ((term_of ts k).1 ≡ ps)
  where_found [] t ps e = absurd cc
  where_found (u ∷ us) t ps e = by (bytes_eq t u.0) refl e (where_found us t ps)
    where
      by : (b : Bool) → bytes_eq t u.0 ≡ b → cond b (Some u.1) (found us t) ≡ Some ps → (found us t ≡ Some ps → (k : ℕ) × (k < length us) × ((term_of us k).0 ≡ t) × ((term_of us k).1 ≡ ps)) → (k : ℕ) × (k < length (u ∷ us)) × ((term_of (u ∷ us) k).0 ≡ t) × ((term_of (u ∷ us) k).1 ≡ ps)
      by true is here rest = let own : u.1 ≡ ps = cc in (0, omega arith, sym (bytes_same t u.0 is), own)
      by false is later rest = let r = rest later in (suc r.0, omega (arith, r.1), r.2, r.3)

  any_place : (t : List ℕ) (xs : List (List ℕ)) → list_any (bytes_eq t) xs ≡ true → (i : ℕ) × (i < length xs) × (t ≡ get_or xs i [])
  any_place t [] e = absurd cc
  any_place t (x ∷ xs) e = by (any_place t xs) (or_cases (bytes_eq t x) (list_any (bytes_eq t) xs) e)
    where
      by : (list_any (bytes_eq t) xs ≡ true → (i : ℕ) × (i < length xs) × (t ≡ get_or xs i [])) → (bytes_eq t x ≡ true) ⊎ (list_any (bytes_eq t) xs ≡ true) → (i : ℕ) × (i < length (x ∷ xs)) × (t ≡ get_or (x ∷ xs) i [])
      by rest (inl here) = (0, omega arith, bytes_same t x here)
      by rest (inr later) = let r = rest later in (suc r.0, omega (arith, r.1), r.2)

  module _ (docs : List Doc) (next : List ℕ) (up : TermsRise None terms) (ends : (k : ℕ) → k < length terms → get_or next k 0 ≡ length (term_of terms k).1) (only : OnlyTheirs docs terms next) (each : (p : ℕ) (doc : Doc) → slice_get docs p ≡ Some doc → All (λ t. IsPassed terms next t p) (doc_terms doc)) where
    stored_has : (t : List ℕ) (p : ℕ) (o : Option (List ℕ)) → found terms t ≡ o → option_map_or (is_in p) o false ≡ true → has_at docs t p ≡ true
    stored_has t p None e is = absurd cc
    stored_has t p (Some ps) e is =
        let k = where_found terms t ps e in
        let j = where_in p ps is in
        let low : j.0 < get_or next k.0 0 = omega (arith, j.1, ends k.0 k.1, ap length k.3) in
        let there : has_at docs (term_of terms k.0).0 (get_or (term_of terms k.0).1 j.0 0) ≡ true = only k.0 j.0 k.1 low in
        let point : get_or (term_of terms k.0).1 j.0 0 ≡ p = ap (λ (l : List ℕ). get_or l j.0 0) k.3 ∙ j.2 in
        sym (λ i. has_at docs (k.2 i) (point i)) ∙ there

    passed_is_stored : (t : List ℕ) (p : ℕ) → IsPassed terms next t p → is_stored terms t p ≡ true
    passed_is_stored t p h =
        let own : found terms t ≡ Some (term_of terms h.at).1 = ap (found terms) (sym h.is) ∙ found_at None terms up h.at h.there in
        let low : h.index < length (term_of terms h.at).1 = omega (arith, h.within, ends h.at h.there) in
        ap (λ o. option_map_or (is_in p) o false) own ∙ ap (λ q. is_in q (term_of terms h.at).1) (sym h.points) ∙ is_there (term_of terms h.at).1 h.index low

    has_stored : (t : List ℕ) (p : ℕ) (o : Option Doc) → slice_get docs p ≡ o → option_map_or (has_term t) o false ≡ true → is_stored terms t p ≡ true
    has_stored t p None e is = absurd cc
    has_stored t p (Some doc) e is =
        let i = any_place t (doc_terms doc) is in
        passed_is_stored t p (subst (λ u. IsPassed terms next u p) (sym i.2) (each p doc e i.0 [] i.1))

    pub theirs_at_end : AreTheirs docs terms
    theirs_at_end t p = both_ways (is_stored terms t p) (has_at docs t p) (stored_has t p (found terms t) refl) (has_stored t p (slice_get docs p) refl)

  pub own_has : (docs : List Doc) (p : ℕ) (doc : Doc) → slice_get docs p ≡ Some doc → All (λ t. has_at docs t p ≡ true) (doc_terms doc)
  own_has docs p doc e = All-from_recursion (λ t. has_at docs t p ≡ true) (doc_terms doc) (each (doc_terms doc) (λ t is. ap (λ o. option_map_or (has_term t) o false) e ∙ is))
    where
      each : (ts : List (List ℕ)) → ((t : List ℕ) → list_any (bytes_eq t) ts ≡ true → has_at docs t p ≡ true) → AllByRecursion (λ t. has_at docs t p ≡ true) ts
      each [] so = tt
      each (t ∷ ts) so = (so t (or_left (bytes_eq t t) (list_any (bytes_eq t) ts) (nat_list_eq_equiv.refl t)), each ts (λ u is. so u (or_right (bytes_eq u t) (list_any (bytes_eq u) ts) is)))

pub pushed_none : (xs : List ℕ) → ((at : ℕ) → get_or xs at 0 ≡ 0) → (at : ℕ) → get_or (xs ++ 0 ∷ []) at 0 ≡ 0
pushed_none [] none zero = refl
pushed_none [] none (suc at) = refl
pushed_none (x ∷ xs) none zero = none 0
pushed_none (x ∷ xs) none (suc at) = pushed_none xs (λ k. none (suc k)) at
