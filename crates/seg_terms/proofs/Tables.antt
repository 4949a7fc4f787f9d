-- Tables of terms: how a map's entries read, and what holds of two tables that find the same.
use Rattle.std.proofs.Common.{◌≡◌, ◌<◌, ℕ, ◌+◌, Bool, true, false, cond, ◌||◌, List, [], ◌∷◌, ◌++◌, map, get_or, Option, Some, None, String, string_bytes, Global, length, slice_get, refl, sym, ap, subst, ◌∙◌, arith, append_assoc, true≢false}
use Rattle.std.specs.Prelude.{option_map, IfSome}
use Rattle.std.specs.declared.vec.Vec.{Vec}
use Rattle.std.specs.declared.cmp.Ordering.{Ordering}
use Rattle.std.specs.declared.cmp.Ordering.TheVariants.{Less, Equal, Greater}
use Rattle.std.specs.Ordering.{nat_cmp, is_lt, is_eq, ordering_reverse}
use Rattle.std.specs.Cmp.Lexicographic.{slice_cmp, nat_list_cmp_total, nat_list_eq_equiv}
use Rattle.std.specs.HashMap as hash
use Rattle.std.specs.HashMap.{HashMap}
use Rattle.std.specs.List.{AllByRecursion, IsDistinct}
use Rattle.std.specs.List.Sorted.{IsStrictlySortedBy, IsSorted, IsPermutation}
use Rattle.std.specs.Map.{lookup, keys_of}
use Rattle.std.specs.Str.{bytes_eq}
use Rattle.std.specs.String.{string_eq, string_eq_equiv, string_cmp}
use Rattle.std.proofs.lemmas.Cmp.{on_total}
use Rattle.std.proofs.lemmas.List.Sorted.{IsPermutation-map}
use Rattle.std.proofs.lemmas.Map.{lookup-none}
use Rattle.std.proofs.lemmas.Map.Entries.{lookup_from_place, none_below_head}
use Rattle.std.proofs.lemmas.Option.{slice_get-map, slice_get_within}
use Rattle.std.proofs.lemmas.Map.Keys.{sorted_from_all_adjacent, apart_from_distinct}
use Rattle.std.proofs.lemmas.Map.Lookups.{exact_bytes}
use Rattle.std.proofs.lemmas.Map.Text.{is_eq-slice_cmp, hash_map_updates_text}
use Rattle.indexmap.proofs.MapLemmas.{lookup_permutation}
use Rattle.facet_model.specs.Words.{word_cmp}
use Rattle.std.proofs.lemmas.List.{map-append}
use Rattle.seg_terms.specs.Noting.{Table, table_of, found, put_place, with_place, AreNoted}
use Rattle.seg_terms.specs.Places.{term_view}
use Rattle.seg_terms.specs.declared.term_places.TermPlaces.{TermPlaces}
use Rattle.facet_names.proofs.Keys.{is_key}

abbrev pub Entries : Type 0
Entries = List (String Global × Vec ℕ Global)

abbrev pub items_of : Option (Vec ℕ Global) → Option (List ℕ)
items_of o = option_map (λ v. v.items) o

-- ---- tests of bytes

pub bytes_same : (a b : List ℕ) → bytes_eq a b ≡ true → a ≡ b
bytes_same a b e = exact_bytes a b (equal (slice_cmp nat_cmp a b) (is_eq-slice_cmp a b ∙ e))
  where
    equal : (o : Ordering) → is_eq o ≡ true → o ≡ Equal
    equal Less e = absurd cc
    equal Equal e = refl
    equal Greater e = absurd cc

pub bytes_back : (a b : List ℕ) → bytes_eq a b ≡ bytes_eq b a
bytes_back a b = nat_list_eq_equiv.symm a b

-- ---- entries

pub found_is : (t : List ℕ) (es : Entries) → found (table_of es) t ≡ items_of (lookup (is_key t) es)
found_is t [] = refl
found_is t (e ∷ es) = by (is_key t e.0) refl (found_is t es)
  where
    by : (b : Bool) → is_key t e.0 ≡ b → found (table_of es) t ≡ items_of (lookup (is_key t) es) → found (table_of (e ∷ es)) t ≡ items_of (lookup (is_key t) (e ∷ es))
    by true h rest = rw h refl
    by false h rest = rw h rest

-- one place is noted under one term
pub noted_one : (old new : Table) (bs : List ℕ) (place : ℕ) (ps : List ℕ) → ((t : List ℕ) → found new t ≡ cond (bytes_eq bs t) (Some ps) (found old t)) → with_place (found old bs) place ≡ Some ps → AreNoted place (bs ∷ []) old new
noted_one old new bs place ps updates is t = by (bytes_eq t bs) refl
  where
    by : (b : Bool) → bytes_eq t bs ≡ b → found new t ≡ cond (bytes_eq t bs || false) (with_place (found old t) place) (found old t)
    by true e =
        updates t
        ∙ ap (λ b. cond b (Some ps) (found old t)) (bytes_back bs t ∙ e)
        ∙ sym is
        ∙ ap (λ u. with_place (found old u) place) (sym (bytes_same t bs e))
        ∙ sym (ap (λ b. cond (b || false) (with_place (found old t) place) (found old t)) e)
    by false e =
        updates t
        ∙ ap (λ b. cond b (Some ps) (found old t)) (bytes_back bs t ∙ e)
        ∙ sym (ap (λ b. cond (b || false) (with_place (found old t) place) (found old t)) e)

-- what an update of a map at a term is in the table
pub updated : {S : Type 0} (m n : HashMap (String Global) (Vec ℕ Global) S) (bs : List ℕ) (v : Vec ℕ Global) → hash.UpdatesBy string_eq (is_key bs) m n (Some v) → (t : List ℕ) → found (table_of n.entries) t ≡ cond (bytes_eq bs t) (Some v.items) (found (table_of m.entries) t)
updated m n bs v u t = found_is t n.entries ∙ ap items_of (hash_map_updates_text bs m n (Some v) u t) ∙ by (bytes_eq bs t)
  where
    by : (b : Bool) → items_of (cond b (Some v) (lookup (is_key t) m.entries)) ≡ cond b (Some v.items) (found (table_of m.entries) t)
    by true = refl
    by false = sym (found_is t m.entries)

abbrev entry_of : String Global × Vec ℕ Global → List ℕ × List ℕ
entry_of e = (string_bytes e.0, e.1.items)

-- the term with a number, and its places
pub term_at : (es : Entries) (number : ℕ) (key : String Global) (v : Vec ℕ Global) → slice_get es number ≡ Some (key, v) → slice_get (table_of es) number ≡ Some (string_bytes key, v.items)
term_at es number key v is = slice_get-map entry_of es number ∙ ap (option_map entry_of) is

-- the place is noted under the term with this number, whose places these were
pub noted_at : {S : Type 0} (m n : HashMap (String Global) (Vec ℕ Global) S) (number : ℕ) (key : String Global) (old new : Vec ℕ Global) (place : ℕ) → hash.IsUnique string_eq m → slice_get m.entries number ≡ Some (key, old) → hash.Updates string_eq m n key (Some new) → new.items ≡ put_place old.items place → IfSome (slice_get (table_of m.entries) number) (λ e. AreNoted place (e.0 ∷ []) (table_of m.entries) (table_of n.entries))
noted_at m n number key old new place unique at updates put =
    let bs = string_bytes key in
    let there : lookup (is_key bs) m.entries ≡ Some old = lookup_from_place string_eq_equiv m.entries number key old unique at in
    let was : found (table_of m.entries) bs ≡ Some old.items = found_is bs m.entries ∙ ap items_of there in
    let noted : AreNoted place (bs ∷ []) (table_of m.entries) (table_of n.entries) = noted_one (table_of m.entries) (table_of n.entries) bs place new.items (updated m n bs new updates) (ap (λ o. with_place o place) was ∙ ap Some (sym put)) in
    subst (λ o. IfSome o (λ e. AreNoted place (e.0 ∷ []) (table_of m.entries) (table_of n.entries))) (sym (term_at m.entries number key old at)) noted

-- a place that is noted under the term with a number is noted under that term
pub noted_under : (old new : Table) (number : ℕ) (term : List ℕ) (place : ℕ) → option_map (λ e. e.0) (slice_get old number) ≡ Some term → IfSome (slice_get old number) (λ e. AreNoted place (e.0 ∷ []) old new) → AreNoted place (term ∷ []) old new
noted_under old new number term place is noted = by (slice_get old number) is noted
  where
    by : (o : Option (List ℕ × List ℕ)) → option_map (λ e. e.0) o ≡ Some term → IfSome o (λ e. AreNoted place (e.0 ∷ []) old new) → AreNoted place (term ∷ []) old new
    by None is noted = absurd cc
    by (Some e) is noted = same cc
      where
        same : e.0 ≡ term → AreNoted place (term ∷ []) old new
        same h = subst (λ t. AreNoted place (t ∷ []) old new) h noted

-- so it is within the table
pub is_within : (old : Table) (number : ℕ) (term : List ℕ) → option_map (λ e. e.0) (slice_get old number) ≡ Some term → number < length old
is_within old number term is = by (slice_get old number) refl is
  where
    by : (o : Option (List ℕ × List ℕ)) → slice_get old number ≡ o → option_map (λ e. e.0) o ≡ Some term → number < length old
    by None at is = absurd cc
    by (Some e) at is = slice_get_within old number e at

-- ---- the order of terms

images_sorted : (es : Entries) → IsStrictlySortedBy string_cmp (keys_of es) → IsStrictlySortedBy word_cmp (keys_of (table_of es))
unfolding IsStrictlySortedBy
images_sorted [] h = tt
images_sorted (e ∷ es) h = (below es h.0, images_sorted es h.1)
  where
    below : (fs : Entries) → AllByRecursion (λ k. string_cmp e.0 k ≡ Less) (keys_of fs) → AllByRecursion (λ k. word_cmp (string_bytes e.0) k ≡ Less) (keys_of (table_of fs))
    below [] h = tt
    below (f ∷ fs) h = (h.0, below fs h.1)

images_distinct : (es : Entries) → IsDistinct string_eq (keys_of es) → IsDistinct bytes_eq (keys_of (table_of es))
unfolding IsDistinct
images_distinct [] h = tt
images_distinct (e ∷ es) h = (apart es h.0, images_distinct es h.1)
  where
    apart : (fs : Entries) → AllByRecursion (λ k. string_eq e.0 k ≡ false) (keys_of fs) → AllByRecursion (λ k. bytes_eq (string_bytes e.0) k ≡ false) (keys_of (table_of fs))
    apart [] h = tt
    apart (f ∷ fs) h = (h.0, apart fs h.1)

strictly : (a b : String Global) → is_lt (string_cmp b a) ≡ false → string_eq a b ≡ false → string_cmp a b ≡ Less
strictly a b up apart = by (slice_cmp nat_cmp (string_bytes a) (string_bytes b)) refl
  where
    by : (o : Ordering) → slice_cmp nat_cmp (string_bytes a) (string_bytes b) ≡ o → slice_cmp nat_cmp (string_bytes a) (string_bytes b) ≡ Less
    by Less e = e
    by Equal e = absurd (true≢false (sym (ap is_eq e) ∙ is_eq-slice_cmp (string_bytes a) (string_bytes b) ∙ apart))
    by Greater e = absurd (true≢false (sym (ap is_lt (nat_list_cmp_total.antisymm (string_bytes b) (string_bytes a) ∙ ap ordering_reverse e)) ∙ up))

-- sorted keys that differ rise
pub rising_table : (es : Entries) → IsSorted string_cmp (keys_of es) → IsDistinct string_eq (keys_of es) → IsStrictlySortedBy word_cmp (keys_of (table_of es))
unfolding IsStrictlySortedBy
rising_table [] up apart = tt
rising_table (e ∷ es) up apart =
    images_sorted (e ∷ es) (sorted_from_all_adjacent {R = string_cmp} (on_total string_bytes nat_list_cmp_total) (keys_of (e ∷ es)) e.0 (λ k lt. strictly (get_or (keys_of (e ∷ es)) k e.0) (get_or (keys_of (e ∷ es)) (k + 1) e.0) (up k e.0 (omega arith) lt) (apart_from_distinct string_eq (keys_of (e ∷ es)) k (k + 1) e.0 apart (omega arith) lt)))

-- ---- tables in another order

pub found_reordered : (es fs : Entries) → IsPermutation es fs → IsDistinct string_eq (keys_of fs) → (t : List ℕ) → found (table_of fs) t ≡ found (table_of es) t
found_reordered es fs moved apart t = lookup_permutation nat_list_eq_equiv (table_of es) (table_of fs) (IsPermutation-map (λ (e : String Global × Vec ℕ Global). (string_bytes e.0, e.1.items)) es fs moved) (images_distinct fs apart) (bytes_eq t) (nat_list_eq_equiv.congr t)

-- a term below all of a table is not in it
pub none_below : (t : List ℕ) (e : List ℕ × List ℕ) (es : Table) → IsStrictlySortedBy word_cmp (keys_of (e ∷ es)) → word_cmp t e.0 ≡ Less → found (e ∷ es) t ≡ None
none_below t e es up less = found_by t (e ∷ es) ∙ lookup-none (λ k. is_eq (word_cmp t k)) (e ∷ es) (none_below_head nat_list_cmp_total t e es up less)
  where
    found_by : (t : List ℕ) (es : Table) → found es t ≡ lookup (λ k. is_eq (word_cmp t k)) es
    found_by t [] = refl
    found_by t (e ∷ es) = (λ i. cond (back i) (Some e.1) (found_by t es i))
      where
        back : bytes_eq t e.0 ≡ is_eq (word_cmp t e.0)
        back = sym (is_eq-slice_cmp t e.0)

-- ---- a map's entries as terms with their places

pub one_more_term : (sorted : List TermPlaces) (t : TermPlaces) (rest : Entries) → map term_view (sorted ++ t ∷ []) ++ table_of rest ≡ map term_view sorted ++ table_of ((t.term, t.places) ∷ rest)
one_more_term sorted t rest = ap (λ xs. xs ++ table_of rest) (map-append term_view sorted (t ∷ [])) ∙ append_assoc (map term_view sorted) (term_view t ∷ []) (table_of rest)
