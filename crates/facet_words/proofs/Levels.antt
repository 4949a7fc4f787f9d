-- Queries, level by level.
use Rattle.std.proofs.Common.{◌≡◌, ◌≢◌, ◌-◌, ℕ, zero, suc, Bool, true, false, if◌then◌else◌, List, [], ◌∷◌, Option, Some, None, refl, sym, ap, ◌∙◌, arith}
use Rattle.std.specs.Prelude.{codes, option_and_then}
use Rattle.std.specs.Option.{option_or}
use Rattle.serde_json.specs.Data.{Data}
use Rattle.serde_json.specs.Find.{get}
use Rattle.facet_model.specs.Queries.{QueryTree, bool, queries}
use Rattle.facet_words.specs.Queries.{all_query, term_query, words_query, lists_of, three_of, bool_query, query_within}
use Rattle.facet_words.specs.Shapes.{◌>>=◌, when, list_of, key_or, keys_among}

pub no_level : (n : ℕ) (d : Data) → n ≡ 0 → None ≡ query_within n d
unfolding query_within
no_level n d e = rw e refl

pub one_level : (n : ℕ) (d : Data) → n ≢ 0 → query_within n d ≡ option_or (all_query d) (option_or (term_query d) (option_or (words_query n d) (bool_query (query_within (n - 1)) d)))
unfolding query_within
one_level zero d ne = absurd (ne refl)
one_level (suc n) d ne = let e : suc n - 1 ≡ n = omega arith in rw e refl

-- ---- leaves first

abbrev leaf : ℕ → Data → Option QueryTree
leaf n d = option_or (all_query d) (option_or (term_query d) (words_query n d))

leaves_first : (a b c e : Option QueryTree) → option_or a (option_or b (option_or c e)) ≡ option_or (option_or a (option_or b c)) e
leaves_first None None c e = refl
leaves_first None (Some q) c e = refl
leaves_first (Some q) b c e = refl

module _ (n : ℕ) (d : Data) (ne : n ≢ 0) where
  by_leaves : query_within n d ≡ option_or (leaf n d) (bool_query (query_within (n - 1)) d)
  by_leaves = one_level n d ne ∙ leaves_first (all_query d) (term_query d) (words_query n d) (bool_query (query_within (n - 1)) d)

  pub is_leaf : (q : QueryTree) → Some q ≡ leaf n d → Some q ≡ query_within n d
  is_leaf q e = sym (by_leaves ∙ ap (λ (o : Option QueryTree). option_or o (bool_query (query_within (n - 1)) d)) (sym e))

  pub no_leaf : None ≡ leaf n d → bool_query (query_within (n - 1)) d ≡ query_within n d
  no_leaf e = sym (by_leaves ∙ ap (λ (o : Option QueryTree). option_or o (bool_query (query_within (n - 1)) d)) (sym e))

-- ---- the lists of a boolean query

abbrev own_keys : List (List ℕ)
own_keys = codes "must" ∷ codes "should" ∷ codes "must_not" ∷ []

three_or_none : (a b c : Option (List QueryTree)) (own : Bool)
    → (a >>= λ must. b >>= λ should. c >>= λ must_not. when own (bool (queries must) (queries should) (queries must_not)))
    ≡ (if own then (a >>= λ must. b >>= λ should. c >>= λ must_not. Some (bool (queries must) (queries should) (queries must_not))) else None)
three_or_none None b c true = refl
three_or_none None b c false = refl
three_or_none (Some x) None c true = refl
three_or_none (Some x) None c false = refl
three_or_none (Some x) (Some y) None true = refl
three_or_none (Some x) (Some y) None false = refl
three_or_none (Some x) (Some y) (Some z) true = refl
three_or_none (Some x) (Some y) (Some z) false = refl

module _ (inner : Data → Option QueryTree) where
  lists_three : (e : Data) → lists_of inner e ≡ (if keys_among own_keys e then three_of inner e else None)
  unfolding lists_of three_of
  lists_three e = three_or_none (key_or (codes "must") [] (list_of inner) e) (key_or (codes "should") [] (list_of inner) e) (key_or (codes "must_not") [] (list_of inner) e) (keys_among own_keys e)

  bool_is : (d : Data) → bool_query inner d ≡ (if keys_among (codes "bool" ∷ []) d then option_and_then (lists_of inner) (get (codes "bool") d) else None)
  unfolding bool_query
  bool_is d = refl

  pub no_bool : (d : Data) → keys_among (codes "bool" ∷ []) d ≡ false → None ≡ bool_query inner d
  no_bool d among = sym (bool_is d ∙ ap (λ (b : Bool). if b then option_and_then (lists_of inner) (get (codes "bool") d) else None) among)

  under_bool : (d : Data) (o : Option Data) → keys_among (codes "bool" ∷ []) d ≡ true → o ≡ get (codes "bool") d → bool_query inner d ≡ option_and_then (lists_of inner) o
  under_bool d o among at = bool_is d ∙ (λ i. if among i then option_and_then (lists_of inner) (sym at i) else None)

  pub no_lists : (d : Data) → keys_among (codes "bool" ∷ []) d ≡ true → None ≡ get (codes "bool") d → None ≡ bool_query inner d
  no_lists d among at = sym (under_bool d None among at)

  pub other_lists : (d e : Data) → keys_among (codes "bool" ∷ []) d ≡ true → Some e ≡ get (codes "bool") d → keys_among own_keys e ≡ false → None ≡ bool_query inner d
  other_lists d e among at own = sym (under_bool d (Some e) among at ∙ lists_three e ∙ ap (λ (b : Bool). if b then three_of inner e else None) own)

  pub three_lists : (d e : Data) → keys_among (codes "bool" ∷ []) d ≡ true → Some e ≡ get (codes "bool") d → keys_among own_keys e ≡ true → three_of inner e ≡ bool_query inner d
  three_lists d e among at own = sym (under_bool d (Some e) among at ∙ lists_three e ∙ ap (λ (b : Bool). if b then three_of inner e else None) own)
