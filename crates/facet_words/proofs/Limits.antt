-- A query is read with so many levels exactly where it has no more.
use Rattle.std.proofs.Common.{◌≡◌, ◌≤◌, ◌∙◌, ℕ, zero, suc, Bool, true, false, List, [], ◌∷◌, map, Option, Some, None, option_map, inl, inr, refl, sym, ap, arith}
use Rattle.std.specs.Prelude.{◌⊎◌, ◌&&◌, codes, if◌then◌else◌, nat_le}
use Rattle.std.specs.Option.{option_or, option_map_or}
use Rattle.std.specs.Str.{bytes_eq}
use Rattle.std.proofs.lemmas.Bool.{le-leb, leb-true}
use Rattle.std.proofs.lemmas.Slice.Eq.{bytes_eq-Decides}
use Rattle.serde_json.specs.Data.{Data, Members, no_members, member, null, boolean, number, string, array, object}
use Rattle.serde_json.specs.Find.{get, get_member, as_array, as_bool, as_str}
use Rattle.facet_model.specs.Queries.{QueryTree, all, term, bool, queries, levels, list_levels}
use Rattle.facet_model.specs.Words.{word_of, words}
use Rattle.facet_words.specs.Queries.{all_query, term_query, all_words, words_query, lists_of, bool_query, query_within, LevelsAreCounted}
use Rattle.facet_words.specs.Shapes.{◌>>=◌, when, all_some, items_list, text_within, list_of, key, key_or, members_among, keys_among}

-- ---- what was read, step by step

either : {A : Type 0} (o p : Option A) (x : A) → option_or o p ≡ Some x → (o ≡ Some x) ⊎ ((o ≡ None) × (p ≡ Some x))
either None p x e = inr (refl, e)
either (Some y) p x e = inl e

first_then : {A B : Type 0} (o : Option A) (f : A → Option B) (y : B) → (o >>= f) ≡ Some y → (x : A) × (o ≡ Some x) × (f x ≡ Some y)
first_then None f y e = absurd cc
first_then (Some x) f y e = (x, refl, e)

passed : {A : Type 0} (b : Bool) (x y : A) → when b x ≡ Some y → (b ≡ true) × (y ≡ x)
passed true x y e = (refl, cc)
passed false x y e = absurd cc

chosen : {A : Type 0} (b : Bool) (o : Option A) (x : A) → (if b then o else None) ≡ Some x → (b ≡ true) × (o ≡ Some x)
chosen true o x e = (refl, e)
chosen false o x e = absurd cc

-- ---- queries without one inside

all_is_one : (d : Data) (q : QueryTree) → all_query d ≡ Some q → levels q ≡ 1
unfolding all_query
all_is_one d q e =
    let t = first_then (key (codes "all") as_bool d) (λ every. when (every && keys_among (codes "all" ∷ []) d) all) q e in
    let w = passed (t.0 && keys_among (codes "all" ∷ []) d) all q t.2 in
    ap levels w.1

term_is_one : (d : Data) (q : QueryTree) → term_query d ≡ Some q → levels q ≡ 1
unfolding term_query
term_is_one d q e =
    let t = first_then (key (codes "term") as_str d) (λ text. word_of text >>= (λ word. when (keys_among (codes "term" ∷ []) d) (term word))) q e in
    let u = first_then (word_of t.0) (λ word. when (keys_among (codes "term" ∷ []) d) (term word)) q t.2 in
    let w = passed (keys_among (codes "term" ∷ []) d) (term u.0) q u.2 in
    ap levels w.1

-- ---- the words of a text

both : (a b : Bool) → (a && b) ≡ true → (a ≡ true) × (b ≡ true)
both true b e = (refl, e)
both false b e = absurd cc

abbrev of_words : Data → ℕ → List ℕ → Option QueryTree
of_words d n text = when (keys_among (codes "words" ∷ []) d && nat_le (levels (all_words (words text))) n) (all_words (words text))

record Worded (n : ℕ) (d : Data) (q : QueryTree) : Type 0 where
  text : List ℕ
  at : key (codes "words") (text_within 0 65536) d ≡ Some text
  keys : keys_among (codes "words" ∷ []) d ≡ true
  few : levels q ≤ n
  is : q ≡ all_words (words text)

words_some : (n : ℕ) (d : Data) (q : QueryTree) → words_query n d ≡ Some q → Worded n d q
unfolding words_query
words_some n d q e =
    let t = first_then (key (codes "words") (text_within 0 65536) d) (of_words d n) q e in
    let w = passed (keys_among (codes "words" ∷ []) d && nat_le (levels (all_words (words t.0))) n) (all_words (words t.0)) q t.2 in
    let k = both (keys_among (codes "words" ∷ []) d) (nat_le (levels (all_words (words t.0))) n) w.0 in
    record { text = t.0; at = t.1; keys = k.0; few = rw w.1 (leb-true (levels (all_words (words t.0))) n k.1); is = w.1 }

words_follow : (m n : ℕ) (d : Data) (q : QueryTree) → words_query m d ≡ Some q → levels q ≤ n → words_query n d ≡ Some q
unfolding words_query
words_follow m n d q e le =
    let w = words_some m d q e in
    let few : nat_le (levels (all_words (words w.text))) n ≡ true = le-leb (levels (all_words (words w.text))) n (rw w.is at le) in
    (λ i. w.at i >>= of_words d n) ∙ (λ i. when (w.keys i && few i) (all_words (words w.text))) ∙ ap (λ (x : QueryTree). Some x) (sym w.is)

-- where there is another key, `words` is not the only one
other_member : (ms : Members) (e : Data) → get_member (codes "bool") ms ≡ Some e → members_among (codes "words" ∷ []) ms ≡ false
other_member no_members e found = absurd cc
other_member (member k d ms) e found = by (bytes_eq k (codes "words")) refl (other_member ms e)
  where
    by : (same : Bool) → bytes_eq k (codes "words") ≡ same → (get_member (codes "bool") ms ≡ Some e → members_among (codes "words" ∷ []) ms ≡ false) → members_among (codes "words" ∷ []) (member k d ms) ≡ false
    by false apart rest = rw apart refl
    by true same rest =
        let is : k ≡ codes "words" = (bytes_eq-Decides k (codes "words")).0 same in
        let more : get_member (codes "bool") ms ≡ Some e = ap (λ (l : List ℕ). get_member (codes "bool") (member l d ms)) (sym is) ∙ found in
        rw (same, rest more) refl

other_key : (d e : Data) → get (codes "bool") d ≡ Some e → keys_among (codes "words" ∷ []) d ≡ false
other_key null e found = absurd cc
other_key (boolean b) e found = absurd cc
other_key (number n) e found = absurd cc
other_key (string s) e found = absurd cc
other_key (array ds) e found = absurd cc
other_key (object ms) e found = other_member ms e found

never : {A B : Type 0} (o : Option A) (f : A → Bool) (g : A → B) → (o >>= (λ x. when (false && f x) (g x))) ≡ None
never None f g = refl
never (Some x) f g = refl

no_words_query : (n : ℕ) (d e : Data) → get (codes "bool") d ≡ Some e → words_query n d ≡ None
unfolding words_query
no_words_query n d e found =
    let other = other_key d e found in
    (λ i. key (codes "words") (text_within 0 65536) d >>= (λ text. when (other i && nat_le (levels (all_words (words text))) n) (all_words (words text))))
    ∙ never (key (codes "words") (text_within 0 65536) d) (λ text. nat_le (levels (all_words (words text))) n) (λ text. all_words (words text))

-- ---- the lists of a boolean query

-- what the shape gives has at most n levels
abbrev Limits : ℕ → (Data → Option QueryTree) → Type 0
Limits n inner = (d : Data) (q : QueryTree) → inner d ≡ Some q → levels q ≤ n

-- what the one shape gives with at most n levels, the other gives too
abbrev Follows : ℕ → (Data → Option QueryTree) → (Data → Option QueryTree) → Type 0
Follows n inner outer = (d : Data) (q : QueryTree) → inner d ≡ Some q → levels q ≤ n → outer d ≡ Some q

list_step : (q : QueryTree) (o : Option (List QueryTree)) (qs : List QueryTree) → option_map (λ xs. q ∷ xs) o ≡ Some qs → (xs : List QueryTree) × (o ≡ Some xs) × (qs ≡ q ∷ xs)
list_step q None qs e = absurd cc
list_step q (Some xs) qs e = (xs, refl, cc)

cons_some : (o : Option QueryTree) (os : List (Option QueryTree)) (qs : List QueryTree) → all_some (o ∷ os) ≡ Some qs
    → (q : QueryTree) × (xs : List QueryTree) × (o ≡ Some q) × (all_some os ≡ Some xs) × (qs ≡ q ∷ xs)
cons_some None os qs e = absurd cc
cons_some (Some q) os qs e = let s = list_step q (all_some os) qs e in (q, s.0, refl, s.1, s.2)

list_limited : (n : ℕ) (inner : Data → Option QueryTree) → Limits n inner → (ds : List Data) (qs : List QueryTree) → all_some (map inner ds) ≡ Some qs → list_levels (queries qs) ≤ n
list_limited n inner h [] qs e = let none : qs ≡ [] = cc in rw none (omega arith)
list_limited n inner h (d ∷ ds) qs e =
    let s = cons_some (inner d) (map inner ds) qs e in
    let first : levels s.0 ≤ n = h d s.0 s.2 in
    let more : list_levels (queries s.1) ≤ n = list_limited n inner h ds s.1 s.3 in
    rw s.4 (omega arith)

list_follows : (n : ℕ) (inner outer : Data → Option QueryTree) → Follows n inner outer → (ds : List Data) (qs : List QueryTree) → all_some (map inner ds) ≡ Some qs → list_levels (queries qs) ≤ n
    → all_some (map outer ds) ≡ Some qs
list_follows n inner outer h [] qs e le = e
list_follows n inner outer h (d ∷ ds) qs e le =
    let s = cons_some (inner d) (map inner ds) qs e in
    let both : list_levels (queries (s.0 ∷ s.1)) ≤ n = rw s.4 at le in
    let first : outer d ≡ Some s.0 = h d s.0 s.2 (omega arith) in
    let more : all_some (map outer ds) ≡ Some s.1 = list_follows n inner outer h ds s.1 s.3 (omega arith) in
    (λ i. all_some (first i ∷ map outer ds)) ∙ (λ i. option_map (λ xs. s.0 ∷ xs) (more i)) ∙ ap (λ (xs : List QueryTree). Some xs) (sym s.4)

or_limited : (n : ℕ) (inner : Data → Option QueryTree) → Limits n inner → (o : Option Data) (qs : List QueryTree) → option_map_or (list_of inner) o (Some []) ≡ Some qs → list_levels (queries qs) ≤ n
or_limited n inner h None qs e = let none : qs ≡ [] = cc in rw none (omega arith)
or_limited n inner h (Some d) qs e =
    let t = first_then (as_array d) (λ items. all_some (map inner (items_list items))) qs e in
    list_limited n inner h (items_list t.0) qs t.2

or_follows : (n : ℕ) (inner outer : Data → Option QueryTree) → Follows n inner outer → (o : Option Data) (qs : List QueryTree) → option_map_or (list_of inner) o (Some []) ≡ Some qs → list_levels (queries qs) ≤ n
    → option_map_or (list_of outer) o (Some []) ≡ Some qs
or_follows n inner outer h None qs e le = e
or_follows n inner outer h (Some d) qs e le =
    let t = first_then (as_array d) (λ items. all_some (map inner (items_list items))) qs e in
    ap (λ o. o >>= (λ items. all_some (map outer (items_list items)))) t.1 ∙ list_follows n inner outer h (items_list t.0) qs t.2 le

abbrev joined : Option (List QueryTree) → Option (List QueryTree) → Option (List QueryTree) → Bool → Option QueryTree
joined a b c k = a >>= (λ x. b >>= (λ y. c >>= (λ z. when k (bool (queries x) (queries y) (queries z)))))

record Joined (a b c : Option (List QueryTree)) (k : Bool) (q : QueryTree) : Type 0 where
  x : List QueryTree
  y : List QueryTree
  z : List QueryTree
  at_x : a ≡ Some x
  at_y : b ≡ Some y
  at_z : c ≡ Some z
  keys : k ≡ true
  is : q ≡ bool (queries x) (queries y) (queries z)

joined_some : (a b c : Option (List QueryTree)) (k : Bool) (q : QueryTree) → joined a b c k ≡ Some q → Joined a b c k q
joined_some a b c k q e =
    let t = first_then a (λ x. b >>= (λ y. c >>= (λ z. when k (bool (queries x) (queries y) (queries z))))) q e in
    let u = first_then b (λ y. c >>= (λ z. when k (bool (queries t.0) (queries y) (queries z)))) q t.2 in
    let v = first_then c (λ z. when k (bool (queries t.0) (queries u.0) (queries z))) q u.2 in
    let w = passed k (bool (queries t.0) (queries u.0) (queries v.0)) q v.2 in
    record { x = t.0; y = u.0; z = v.0; at_x = t.1; at_y = u.1; at_z = v.1; keys = w.0; is = w.1 }

abbrev list_under : List ℕ → (Data → Option QueryTree) → Data → Option (List QueryTree)
list_under name inner d = key_or name [] (list_of inner) d

abbrev has_lists : Data → Bool
has_lists d = keys_among (codes "must" ∷ codes "should" ∷ codes "must_not" ∷ []) d

lists_limited : (n : ℕ) (inner : Data → Option QueryTree) → Limits n inner → (d : Data) (q : QueryTree) → lists_of inner d ≡ Some q → levels q ≤ suc n
unfolding lists_of
lists_limited n inner h d q e =
    let j = joined_some (list_under (codes "must") inner d) (list_under (codes "should") inner d) (list_under (codes "must_not") inner d) (has_lists d) q e in
    let a = or_limited n inner h (get (codes "must") d) j.x j.at_x in
    let b = or_limited n inner h (get (codes "should") d) j.y j.at_y in
    let c = or_limited n inner h (get (codes "must_not") d) j.z j.at_z in
    rw j.is (omega arith)

lists_follow : (n : ℕ) (inner outer : Data → Option QueryTree) → Follows n inner outer → (d : Data) (q : QueryTree) → lists_of inner d ≡ Some q → levels q ≤ suc n → lists_of outer d ≡ Some q
unfolding lists_of
lists_follow n inner outer h d q e le =
    let j = joined_some (list_under (codes "must") inner d) (list_under (codes "should") inner d) (list_under (codes "must_not") inner d) (has_lists d) q e in
    let each : levels (bool (queries j.x) (queries j.y) (queries j.z)) ≤ suc n = rw j.is at le in
    let a = or_follows n inner outer h (get (codes "must") d) j.x j.at_x (omega arith) in
    let b = or_follows n inner outer h (get (codes "should") d) j.y j.at_y (omega arith) in
    let c = or_follows n inner outer h (get (codes "must_not") d) j.z j.at_z (omega arith) in
    (λ i. joined (a i) (b i) (c i) (j.keys i)) ∙ ap (λ (x : QueryTree). Some x) (sym j.is)

abbrev is_bool : Data → Bool
is_bool d = keys_among (codes "bool" ∷ []) d

bool_limited : (n : ℕ) (inner : Data → Option QueryTree) → Limits n inner → (d : Data) (q : QueryTree) → bool_query inner d ≡ Some q → levels q ≤ suc n
unfolding bool_query
bool_limited n inner h d q e =
    let c = chosen (is_bool d) (get (codes "bool") d >>= lists_of inner) q e in
    let t = first_then (get (codes "bool") d) (lists_of inner) q c.1 in
    lists_limited n inner h t.0 q t.2

bool_follows : (n : ℕ) (inner outer : Data → Option QueryTree) → Follows n inner outer → (d : Data) (q : QueryTree) → bool_query inner d ≡ Some q → levels q ≤ suc n → bool_query outer d ≡ Some q
unfolding bool_query
bool_follows n inner outer h d q e le =
    let c = chosen (is_bool d) (get (codes "bool") d >>= lists_of inner) q e in
    let t = first_then (get (codes "bool") d) (lists_of inner) q c.1 in
    (λ i. if c.0 i then (t.1 i >>= lists_of outer) else None) ∙ lists_follow n inner outer h t.0 q t.2 le

not_words : (n : ℕ) (inner : Data → Option QueryTree) (d : Data) (q : QueryTree) → bool_query inner d ≡ Some q → words_query n d ≡ None
unfolding bool_query
not_words n inner d q e =
    let c = chosen (is_bool d) (get (codes "bool") d >>= lists_of inner) q e in
    let t = first_then (get (codes "bool") d) (lists_of inner) q c.1 in
    no_words_query n d t.0 t.1

-- ---- a query

words_or_bool : (n : ℕ) (d : Data) (q : QueryTree) → Limits n (query_within n) → (words_query (suc n) d ≡ Some q) ⊎ ((words_query (suc n) d ≡ None) × (bool_query (query_within n) d ≡ Some q)) → levels q ≤ suc n
words_or_bool n d q h (inl w) = (words_some (suc n) d q w).few
words_or_bool n d q h (inr b) = bool_limited n (query_within n) h d q b.1

term_or_more : (n : ℕ) (d : Data) (q : QueryTree) → Limits n (query_within n) → (term_query d ≡ Some q) ⊎ ((term_query d ≡ None) × (option_or (words_query (suc n) d) (bool_query (query_within n) d) ≡ Some q)) → levels q ≤ suc n
term_or_more n d q h (inl t) = omega (arith, term_is_one d q t)
term_or_more n d q h (inr b) = words_or_bool n d q h (either (words_query (suc n) d) (bool_query (query_within n) d) q b.1)

all_or_more : (n : ℕ) (d : Data) (q : QueryTree) → Limits n (query_within n) → (all_query d ≡ Some q) ⊎ ((all_query d ≡ None) × (option_or (term_query d) (option_or (words_query (suc n) d) (bool_query (query_within n) d)) ≡ Some q)) → levels q ≤ suc n
all_or_more n d q h (inl a) = omega (arith, all_is_one d q a)
all_or_more n d q h (inr b) = term_or_more n d q h (either (term_query d) (option_or (words_query (suc n) d) (bool_query (query_within n) d)) q b.1)

read_has : (n : ℕ) (d : Data) (q : QueryTree) → query_within n d ≡ Some q → levels q ≤ n
unfolding query_within
read_has zero d q e = absurd cc
read_has (suc n) d q e = all_or_more n d q (read_has n) (either (all_query d) (option_or (term_query d) (option_or (words_query (suc n) d) (bool_query (query_within n) d))) q e)

one_or_more : (q : QueryTree) → 1 ≤ levels q
one_or_more all = omega arith
one_or_more (term word) = omega arith
one_or_more (bool must should must_not) = omega arith

words_or_bool_follows : (m n : ℕ) (d : Data) (q : QueryTree) → Follows n (query_within m) (query_within n) → (words_query (suc m) d ≡ Some q) ⊎ ((words_query (suc m) d ≡ None) × (bool_query (query_within m) d ≡ Some q)) → levels q ≤ suc n
    → option_or (words_query (suc n) d) (bool_query (query_within n) d) ≡ Some q
words_or_bool_follows m n d q h (inl w) le = rw (words_follow (suc m) (suc n) d q w le) refl
words_or_bool_follows m n d q h (inr b) le = rw (not_words (suc n) (query_within m) d q b.1) (bool_follows n (query_within m) (query_within n) h d q b.1 le)

term_or_more_follows : (m n : ℕ) (d : Data) (q : QueryTree) → Follows n (query_within m) (query_within n) → (term_query d ≡ Some q) ⊎ ((term_query d ≡ None) × (option_or (words_query (suc m) d) (bool_query (query_within m) d) ≡ Some q)) → levels q ≤ suc n
    → option_or (term_query d) (option_or (words_query (suc n) d) (bool_query (query_within n) d)) ≡ Some q
term_or_more_follows m n d q h (inl t) le = rw t refl
term_or_more_follows m n d q h (inr b) le = rw b.0 (words_or_bool_follows m n d q h (either (words_query (suc m) d) (bool_query (query_within m) d) q b.1) le)

all_or_more_follows : (m n : ℕ) (d : Data) (q : QueryTree) → Follows n (query_within m) (query_within n)
    → (all_query d ≡ Some q) ⊎ ((all_query d ≡ None) × (option_or (term_query d) (option_or (words_query (suc m) d) (bool_query (query_within m) d)) ≡ Some q)) → levels q ≤ suc n
    → option_or (all_query d) (option_or (term_query d) (option_or (words_query (suc n) d) (bool_query (query_within n) d))) ≡ Some q
all_or_more_follows m n d q h (inl a) le = rw a refl
all_or_more_follows m n d q h (inr b) le = rw b.0 (term_or_more_follows m n d q h (either (term_query d) (option_or (words_query (suc m) d) (bool_query (query_within m) d)) q b.1) le)

read_again : (m n : ℕ) (d : Data) (q : QueryTree) → query_within m d ≡ Some q → levels q ≤ n → query_within n d ≡ Some q
unfolding query_within
read_again zero n d q e le = absurd cc
read_again (suc m) zero d q e le = absurd (omega (arith, one_or_more q))
read_again (suc m) (suc n) d q e le = all_or_more_follows m n d q (read_again m n) (either (all_query d) (option_or (term_query d) (option_or (words_query (suc m) d) (bool_query (query_within m) d))) q e) le

pub levels_counted : LevelsAreCounted
levels_counted m n d q e = (read_has n d q, read_again m n d q e)
