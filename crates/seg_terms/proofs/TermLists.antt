-- The list of the terms of documents: its order, and what is found in it.
use Rattle.std.proofs.Common.{◌≡◌, ℕ, Bool, true, false, cond, ◌||◌, List, [], ◌∷◌, map, Some, None, Result, Ok, Err, refl, sym, ap, subst, ◌∙◌}
use Rattle.std.specs.Prelude.{flat_map, fold, option_map, IfOk}
use Rattle.std.specs.declared.cmp.Ordering.{Ordering}
use Rattle.std.specs.declared.cmp.Ordering.TheVariants.{Less, Equal, Greater}
use Rattle.std.specs.Ordering.{match_ordering, ordering_reverse}
use Rattle.std.specs.Cmp.Lexicographic.{nat_list_cmp_total, nat_list_eq_equiv}
use Rattle.std.proofs.lemmas.List.Elements.{recursion_from_All}
use Rattle.std.proofs.lemmas.Map.Views.{All-from_any}
use Rattle.std.specs.List.{list_any, find, AllByRecursion}
use Rattle.std.specs.List.Sorted.{IsStrictlySortedBy}
use Rattle.std.specs.Map.{keys_of}
use Rattle.std.specs.Str.{bytes_eq}
use Rattle.std.proofs.lemmas.List.Folds.{list_any-append}
use Rattle.std.proofs.lemmas.Map.Entries.{lookup_head, lookup_tail}
use Rattle.std.proofs.lemmas.Map.Keys.{sorted_tail}
use Rattle.std.proofs.lemmas.Map.Lookups.{exact_bytes}
use Rattle.facet_model.specs.Documents.{Doc}
use Rattle.facet_model.specs.Words.{word_cmp}
use Rattle.facet_model.specs.CountedPaths.{places}
use Rattle.facet_model.specs.Terms.{doc_terms, put_term, terms_of}
use Rattle.seg_terms.specs.Noting.{Table, found}
use Rattle.seg_terms.specs.Laws.{has_term, term_places}
use Rattle.seg_terms.proofs.Tables.{bytes_same, none_below}
use Rattle.std.proofs.lemmas.Option.{same_Some, none-some}
use Rattle.std.proofs.Math.Bool.{or-false, or_self_left}

abbrev pub Terms : Type 0
Terms = List (List ℕ)

-- ---- a term that is put among others

pub turned : (t u : List ℕ) → word_cmp t u ≡ Greater → word_cmp u t ≡ Less
turned t u e = nat_list_cmp_total.antisymm u t ∙ ap ordering_reverse e

all_above : (t u : List ℕ) (us : Terms) → word_cmp t u ≡ Less → AllByRecursion (λ y. word_cmp u y ≡ Less) us → AllByRecursion (λ y. word_cmp t y ≡ Less) us
all_above t u [] less all = tt
all_above t u (v ∷ vs) less all = (nat_list_cmp_total.trans t u v less all.0, all_above t u vs less all.1)

still_above : (x : List ℕ) (us : Terms) (t : List ℕ) → AllByRecursion (λ y. word_cmp x y ≡ Less) us → word_cmp x t ≡ Less → AllByRecursion (λ y. word_cmp x y ≡ Less) (put_term us t)
still_above x [] t all less = (less, tt)
still_above x (u ∷ us) t all less = by (word_cmp t u) (still_above x us t all.1 less)
  where
    by : (o : Ordering) → AllByRecursion (λ y. word_cmp x y ≡ Less) (put_term us t) → AllByRecursion (λ y. word_cmp x y ≡ Less) (match_ordering o (t ∷ u ∷ us) (u ∷ us) (u ∷ put_term us t))
    by Less rest = (less, all)
    by Equal rest = all
    by Greater rest = (all.0, rest)

put_rises : (us : Terms) (t : List ℕ) → IsStrictlySortedBy word_cmp us → IsStrictlySortedBy word_cmp (put_term us t)
unfolding IsStrictlySortedBy
put_rises [] t up = (tt, tt)
put_rises (u ∷ us) t up = by (word_cmp t u) refl (put_rises us t up.1)
  where
    by : (o : Ordering) → word_cmp t u ≡ o → IsStrictlySortedBy word_cmp (put_term us t) → IsStrictlySortedBy word_cmp (match_ordering o (t ∷ u ∷ us) (u ∷ us) (u ∷ put_term us t))
    by Less e rest = ((e, all_above t u us e up.0), up)
    by Equal e rest = up
    by Greater e rest = (still_above u us t up.0 (turned t u e), rest)

put_all_rises : (us ts : Terms) → IsStrictlySortedBy word_cmp us → IsStrictlySortedBy word_cmp (fold put_term us ts)
put_all_rises us [] up = up
put_all_rises us (t ∷ ts) up = put_all_rises (put_term us t) ts (put_rises us t up)

either_way : (a b c : Bool) → (a || (b || c)) ≡ (b || (a || c))
either_way true true c = refl
either_way true false c = refl
either_way false true c = refl
either_way false false c = refl

put_is_there : (us : Terms) (t q : List ℕ) → list_any (bytes_eq q) (put_term us t) ≡ (bytes_eq q t || list_any (bytes_eq q) us)
put_is_there [] t q = refl
put_is_there (u ∷ us) t q = by (word_cmp t u) refl (put_is_there us t q)
  where
    by : (o : Ordering) → word_cmp t u ≡ o → list_any (bytes_eq q) (put_term us t) ≡ (bytes_eq q t || list_any (bytes_eq q) us) → list_any (bytes_eq q) (match_ordering o (t ∷ u ∷ us) (u ∷ us) (u ∷ put_term us t)) ≡ (bytes_eq q t || (bytes_eq q u || list_any (bytes_eq q) us))
    by Less e rest = refl
    by Equal e rest = sym (or_self_left (bytes_eq q u) (list_any (bytes_eq q) us)) ∙ ap (λ v. bytes_eq q v || (bytes_eq q u || list_any (bytes_eq q) us)) (sym (exact_bytes t u e))
    by Greater e rest = ap (λ b. bytes_eq q u || b) rest ∙ either_way (bytes_eq q u) (bytes_eq q t) (list_any (bytes_eq q) us)

put_all_are_there : (us ts : Terms) (q : List ℕ) → list_any (bytes_eq q) (fold put_term us ts) ≡ (list_any (bytes_eq q) us || list_any (bytes_eq q) ts)
put_all_are_there us [] q = sym (or-false (list_any (bytes_eq q) us))
put_all_are_there us (t ∷ ts) q =
    put_all_are_there (put_term us t) ts q
    ∙ ap (λ b. b || list_any (bytes_eq q) ts) (put_is_there us t q)
    ∙ by (bytes_eq q t) (list_any (bytes_eq q) us) (list_any (bytes_eq q) ts)
  where
    by : (a b c : Bool) → ((a || b) || c) ≡ (b || (a || c))
    by true true c = refl
    by true false c = refl
    by false true c = refl
    by false false c = refl

-- ---- each term with its places

module _ (g : List ℕ → List ℕ) where
  abbrev with_places : Terms → Table
  with_places ts = map (λ t. (t, g t)) ts

  keys_stay : (ts : Terms) → keys_of (with_places ts) ≡ ts
  keys_stay [] = refl
  keys_stay (t ∷ ts) = ap (λ us. t ∷ us) (keys_stay ts)

  found_with : (ts : Terms) (q : List ℕ) → found (with_places ts) q ≡ cond (list_any (bytes_eq q) ts) (Some (g q)) None
  found_with [] q = refl
  found_with (t ∷ ts) q = by (bytes_eq q t) refl (found_with ts q)
    where
      by : (b : Bool) → bytes_eq q t ≡ b → found (with_places ts) q ≡ cond (list_any (bytes_eq q) ts) (Some (g q)) None → cond b (Some (g t)) (found (with_places ts) q) ≡ cond (b || list_any (bytes_eq q) ts) (Some (g q)) None
      by true e rest = ap (λ u. Some (g u)) (sym (bytes_same q t e))
      by false e rest = rest

any_of_all : (docs : List Doc) (q : List ℕ) → list_any (bytes_eq q) (flat_map doc_terms docs) ≡ list_any (has_term q) docs
any_of_all [] q = refl
any_of_all (d ∷ ds) q = list_any-append (bytes_eq q) (doc_terms d) (flat_map doc_terms ds) ∙ ap (λ b. has_term q d || b) (any_of_all ds q)

-- the places of a term, by look-up
pub found_in_terms : (docs : List Doc) (q : List ℕ) → found (terms_of docs) q ≡ term_places docs q
found_in_terms docs q =
    let g : List ℕ → List ℕ = λ t. places (has_term t) docs in
    let there : list_any (bytes_eq q) (fold put_term [] (flat_map doc_terms docs)) ≡ list_any (has_term q) docs = put_all_are_there [] (flat_map doc_terms docs) q ∙ any_of_all docs q in
    found_with g (fold put_term [] (flat_map doc_terms docs)) q ∙ ap (λ b. cond b (Some (g q)) None) there

-- the terms rise
pub rises : (docs : List Doc) → IsStrictlySortedBy word_cmp (keys_of (terms_of docs))
unfolding IsStrictlySortedBy
rises docs = subst (IsStrictlySortedBy word_cmp) (sym (keys_stay (λ t. places (has_term t) docs) (fold put_term [] (flat_map doc_terms docs)))) (put_all_rises [] (flat_map doc_terms docs) tt)

-- looking a table up by the first entry that has the term
pub found_is_find : (es : Table) (q : List ℕ) → option_map (λ t. t.1) (find (λ t. bytes_eq q t.0) es) ≡ found es q
found_is_find [] q = refl
found_is_find (e ∷ es) q = by (bytes_eq q e.0) refl (found_is_find es q)
  where
    by : (b : Bool) → bytes_eq q e.0 ≡ b → option_map (λ t. t.1) (find (λ t. bytes_eq q t.0) es) ≡ found es q → option_map (λ t. t.1) (find (λ t. bytes_eq q t.0) (e ∷ es)) ≡ found (e ∷ es) q
    by true h rest = rw h refl
    by false h rest = rw h rest

-- ---- tables that rise and find the same are equal

at_head : (e : List ℕ × List ℕ) (es : Table) → found (e ∷ es) e.0 ≡ Some e.1
at_head e es = lookup_head (bytes_eq e.0) e es (nat_list_eq_equiv.refl e.0)

past_head : (e : List ℕ × List ℕ) (es : Table) → IsStrictlySortedBy word_cmp (keys_of (e ∷ es)) → found es e.0 ≡ None
unfolding IsStrictlySortedBy
past_head e [] up = refl
past_head e (f ∷ fs) up = none_below e.0 f fs up.1 up.0.0

pub same_tables : (es fs : Table) → IsStrictlySortedBy word_cmp (keys_of es) → IsStrictlySortedBy word_cmp (keys_of fs) → ((q : List ℕ) → found es q ≡ found fs q) → es ≡ fs
same_tables [] [] up up' same = refl
same_tables [] (f ∷ fs) up up' same = absurd (none-some _ (same f.0 ∙ at_head f fs))
same_tables (e ∷ es) [] up up' same = absurd (none-some _ (sym (same e.0) ∙ at_head e es))
same_tables (e ∷ es) (f ∷ fs) up up' same = by (word_cmp e.0 f.0) refl (same_tables es fs (sorted_tail word_cmp e.0 (keys_of es) up) (sorted_tail word_cmp f.0 (keys_of fs) up'))
  where
    tails : e.0 ≡ f.0 → (q : List ℕ) → found es q ≡ found fs q
    tails head q = at (bytes_eq q e.0) refl
      where
        at : (b : Bool) → bytes_eq q e.0 ≡ b → found es q ≡ found fs q
        at true is =
            let here : q ≡ e.0 = bytes_same q e.0 is in
            ap (found es) here ∙ past_head e es up ∙ sym (past_head f fs up') ∙ ap (found fs) (sym head ∙ sym here)
        at false is =
            sym (lookup_tail (bytes_eq q) e es is) ∙ same q ∙ lookup_tail (bytes_eq q) f fs (ap (bytes_eq q) (sym head) ∙ is)

    by : (o : Ordering) → word_cmp e.0 f.0 ≡ o → (((q : List ℕ) → found es q ≡ found fs q) → es ≡ fs) → e ∷ es ≡ f ∷ fs
    by Less less rest = absurd (none-some _ (sym (none_below e.0 f fs up' less) ∙ sym (same e.0) ∙ at_head e es))
    by Greater greater rest = absurd (none-some _ (sym (none_below f.0 e es up (turned e.0 f.0 greater)) ∙ same f.0 ∙ at_head f fs))
    by Equal equal rest =
        let head : e.0 ≡ f.0 = exact_bytes e.0 f.0 equal in
        let value : e.1 ≡ f.1 = same_Some _ _ (sym (at_head e es) ∙ same e.0 ∙ ap (found (f ∷ fs)) head ∙ at_head f fs) in
        let after : es ≡ fs = rest (tails head) in
        λ i. (head i, value i) ∷ after i

-- ---- two clauses at once

pub both_clauses : {T E : Type 0} (r : Result T E) (P Q R : T → Type 0) → ((x : T) → P x → Q x → R x) → IfOk r P → IfOk r Q → IfOk r R
both_clauses (Ok x) P Q R h p q = h x p q
both_clauses (Err e) P Q R h p q = tt

-- a table that rises and has each term's places is the terms
pub table_is : (docs : List Doc) (es : Table) → IsStrictlySortedBy word_cmp (keys_of es) → ((q : List ℕ) → found es q ≡ term_places docs q) → es ≡ terms_of docs
table_is docs es up same = same_tables es (terms_of docs) up (rises docs) (λ q. same q ∙ sym (found_in_terms docs q))

-- what holds of each term that a document has, with its places, holds of each of the terms
pub each_term : (docs : List Doc) (P : List ℕ × List ℕ → Type 0) → ((t : List ℕ) → list_any (has_term t) docs ≡ true → P (t, places (has_term t) docs)) → AllByRecursion P (terms_of docs)
each_term docs P holds = placed (fold put_term [] (flat_map doc_terms docs)) (recursion_from_All (λ t. P (t, places (has_term t) docs)) (fold put_term [] (flat_map doc_terms docs)) (All-from_any nat_list_eq_equiv (λ t. P (t, places (has_term t) docs)) (fold put_term [] (flat_map doc_terms docs)) (λ t there. holds t (sym (put_all_are_there [] (flat_map doc_terms docs) t ∙ any_of_all docs t) ∙ there))))
  where
    placed : (ts : Terms) → AllByRecursion (λ t. P (t, places (has_term t) docs)) ts → AllByRecursion P (map (λ t. (t, places (has_term t) docs)) ts)
    placed [] all = tt
    placed (t ∷ ts) all = (all.0, placed ts all.1)
