-- A walk over the terms of segments: what each step keeps, and what is written at its end.
use Rattle.std.proofs.Common.{◌≡◌, ◌⊎◌, inl, inr, ℕ, zero, suc, ◌+◌, ◌<◌, ◌≤◌, Bool, true, false, cond, List, [], ◌∷◌, ◌++◌, map, length, take, set, replicate, get_or, Some, None, refl, sym, ap, subst, ◌∙◌, arith, append_assoc, length-append}
use Rattle.std.specs.Prelude.{unwrap_or}
use Rattle.std.specs.declared.cmp.Ordering.TheVariants.{Less, Equal, Greater}
use Rattle.std.specs.declared.cmp.Ordering.{Ordering}
use Rattle.std.specs.Ordering.{is_lt, is_gt, is_eq, ordering_reverse}
use Rattle.std.specs.List.{AllByRecursion}
use Rattle.std.specs.List.Sorted.{IsStrictlySortedBy}
use Rattle.std.specs.Map.{keys_of}
use Rattle.std.specs.Str.{bytes_eq}
use Rattle.std.proofs.lemmas.Bool.{cases_lt}
use Rattle.std.proofs.lemmas.Cmp.{nat_list_cmp_total}
use Rattle.std.proofs.lemmas.List.{append-nil, take_more, take_all, length-set, get_or-set_same, get_or-set_other, get_or-replicate, length-replicate, get_or-map}
use Rattle.std.proofs.lemmas.Map.Text.{is_eq-slice_cmp}
use Rattle.facet_codec.specs.Spelling.{text}
use Rattle.facet_codec.proofs.Lists.{each_push, bytes_push}
use Rattle.facet_model.specs.Stored.{Records, alive}
use Rattle.facet_model.specs.Words.{word_cmp}
use Rattle.seg_grammar.specs.Spelling.{term_bytes, places_bytes}
use Rattle.seg_terms.specs.Noting.{Table, found, behind}
use Rattle.seg_terms.proofs.Tables.{bytes_same}
use Rattle.seg_writing.specs.Written.{IsTermText}
use Rattle.seg_documents.specs.Decoding.{records_in}
use Rattle.seg_merge.specs.Moved.{moved, all_places, places_in}
use Rattle.seg_merge.specs.Walk.{bases_from, places_passed, segment_at, text_in, with_term, AreWritten, ComeBefore, IsWalk, IsNextTerm, AreAllPassed, AreMerged}
use Rattle.seg_merge.proofs.Moved.{moved_append, all_append}
use Rattle.seg_merge.proofs.Places.{all_found}

-- ---- the order of texts

before : (a b c : List ℕ) → word_cmp a b ≡ Less → word_cmp b c ≡ Less → word_cmp a c ≡ Less
before a b c e f = nat_list_cmp_total.trans a b c e f

-- one that comes before another is not it
not_it : (a b : List ℕ) → word_cmp a b ≡ Less → bytes_eq b a ≡ false
not_it a b e = sym (is_eq-slice_cmp b a) ∙ ap is_eq (nat_list_cmp_total.antisymm b a ∙ ap ordering_reverse e)

same_order : (o : Ordering) → is_lt o ≡ false → is_gt o ≡ false → is_eq o ≡ true
same_order Less less more = absurd cc
same_order Equal less more = refl
same_order Greater less more = absurd cc

-- two that come neither before nor after each other
pub same_text : (a b : List ℕ) → is_lt (word_cmp a b) ≡ false → is_gt (word_cmp a b) ≡ false → a ≡ b
same_text a b less more = bytes_same a b (sym (is_eq-slice_cmp a b) ∙ same_order (word_cmp a b) less more)

-- ---- what is written

keys_push : (u : List ℕ) (es : Table) (t : List ℕ × List ℕ) → AllByRecursion (λ k. word_cmp u k ≡ Less) (keys_of es) → word_cmp u t.0 ≡ Less → AllByRecursion (λ k. word_cmp u k ≡ Less) (keys_of (es ++ t ∷ []))
keys_push u [] t all one = (one, tt)
keys_push u (e ∷ es) t all one = (all.0, keys_push u es t all.1 one)

sorted_push : (es : Table) (t : List ℕ × List ℕ) → IsStrictlySortedBy word_cmp (keys_of es) → ComeBefore es t.0 → IsStrictlySortedBy word_cmp (keys_of (es ++ t ∷ []))
unfolding IsStrictlySortedBy
sorted_push [] t up all = (tt, tt)
sorted_push (e ∷ es) t up all = (keys_push e.0 es t up.0 all.0, sorted_push es t up.1 all.1)

-- the bytes of one term
term_put : (t : List ℕ × List ℕ) (o a b : List ℕ) → a ≡ o ++ text t.0 → b ≡ a ++ places_bytes t.1 → b ≡ o ++ term_bytes t
unfolding term_bytes
term_put t o a b ea eb = eb ∙ ap (λ l. l ++ places_bytes t.1) ea ∙ append_assoc o (text t.0) (places_bytes t.1)

some_term : (terms : Table) (word : List ℕ) (ps : List ℕ) → 0 < length ps → with_term terms word ps ≡ terms ++ (word, ps) ∷ []
some_term terms word [] some = absurd (omega (arith, some))
some_term terms word (p ∷ ps) some = refl

-- one term more
pub written_more : (start old mid new : List ℕ) (count : ℕ) (terms : Table) (word ps : List ℕ) → AreWritten start old count terms → ComeBefore terms word
    → mid ≡ old ++ text word → new ≡ mid ++ places_bytes ps → IsTermText (word, ps) → 0 < length ps → AreWritten start new (count + 1) (with_term terms word ps)
written_more start old mid new count terms word ps written all put placed fits some =
    let t : List ℕ × List ℕ = (word, ps) in
    subst (AreWritten start new (count + 1)) (sym (some_term terms word ps some)) (record {
      bytes = bytes_push term_bytes start old new terms t written.bytes (term_put t old mid new put placed);
      number = omega (arith, written.number, length-append terms (t ∷ []));
      rise = sorted_push terms t written.rise all;
      some = each_push (λ u. 1 ≤ length u.1) terms t written.some (omega (arith, some));
      texts = each_push IsTermText terms t written.texts fits;
    })

no_places : (b : Bool) → (xs : List ℕ) → cond b xs xs ≡ xs
no_places true xs = refl
no_places false xs = refl

all_with_term : (terms : Table) (word ps q : List ℕ) → all_places (with_term terms word ps) q ≡ all_places terms q ++ cond (bytes_eq q word) ps []
all_with_term terms word [] q = sym (append-nil (all_places terms q)) ∙ ap (λ l. all_places terms q ++ l) (sym (no_places (bytes_eq q word) []))
all_with_term terms word (p ∷ ps) q = all_append terms ((word, p ∷ ps) ∷ []) q ∙ ap (λ l. all_places terms q ++ l) (append-nil (cond (bytes_eq q word) (p ∷ ps) []))

-- ---- a term of another text, or of the same text

all_before : (terms : Table) (word next : List ℕ) → word_cmp word next ≡ Less → ComeBefore terms word → ComeBefore terms next
all_before [] word next less all = tt
all_before (t ∷ ts) word next less all = (before t.0 word next all.0 less, all_before ts word next less all.1)

all_before_with : (terms : Table) (word ps next : List ℕ) → word_cmp word next ≡ Less → ComeBefore terms word → ComeBefore (with_term terms word ps) next
all_before_with terms word [] next less all = all_before terms word next less all
all_before_with terms word (p ∷ ps) next less all = each_push (λ t. word_cmp t.0 next ≡ Less) terms (word, p ∷ ps) (all_before terms word next less all) less

module _ (ss : List Records) (start old new : List ℕ) (count more : ℕ) (passed word : List ℕ) (from : ℕ) (places next : List ℕ) (number : ℕ) (walk : IsWalk ss start old count passed word from places) where
  pub turned_on : word_cmp word next ≡ Less → AreWritten start new more (with_term walk.terms word places) → IsWalk ss start new more passed next number []
  turned_on less written = record {
    terms = with_term walk.terms word places;
    written = written;
    before = all_before_with walk.terms word places next less walk.before;
    each = walk.each;
    all = λ q. ap (λ l. all_places (with_term walk.terms word places) q ++ l) (no_places (bytes_eq q next) []) ∙ append-nil (all_places (with_term walk.terms word places) q) ∙ all_with_term walk.terms word places q ∙ walk.all q;
    order = λ k i lt there. inl (elim (walk.order k i lt there) [
      | inl first ↦ before (text_in ss k i) word next first less
      | inr same ↦ ap (λ t. word_cmp t next) same.0 ∙ less
    ]);
  }

  pub turned_same : word ≡ next → from ≤ number → IsWalk ss start old count passed next number places
  turned_same same le = subst (λ w. IsWalk ss start old count passed w number places) same (record {
    terms = walk.terms;
    written = walk.written;
    before = walk.before;
    each = walk.each;
    all = walk.all;
    order = λ k i lt there. elim (walk.order k i lt there) [
      | inl first ↦ inl first
      | inr other ↦ inr (other.0, omega (arith, le, other.1))
    ];
  })

-- ---- one term passed

none_taken : (n : ℕ) (terms : Table) (q : List ℕ) → ((i : ℕ) → i < n → bytes_eq q (get_or terms i ([], [])).0 ≡ false) → all_places (take n terms) q ≡ []
none_taken zero terms q none = refl
none_taken (suc n) [] q none = refl
none_taken (suc n) (t ∷ ts) q none = ap (λ b. cond b t.1 [] ++ all_places (take n ts) q) (none 0 (omega arith)) ∙ none_taken n ts q (λ i lt. none (suc i) (omega (arith, lt)))

none_passed : (base : ℕ) (ss : List Records) (ns q : List ℕ) → ((j i : ℕ) → j < length ss → i < get_or ns j 0 → bytes_eq q (text_in ss j i) ≡ false) → places_passed base ss ns q ≡ []
none_passed base [] ns q none = refl
none_passed base (s ∷ ss) [] q none = refl
none_passed base (s ∷ ss) (n ∷ ns) q none =
    (λ i. moved base s.dead (none_taken n s.terms q (λ k lt. none 0 k (omega arith) lt) i) ++ none_passed (base + length (alive s.dead s.records)) ss ns q (λ j k lt there. none (suc j) k (omega (arith, lt)) there) i)

moved_cond : (base : ℕ) (dead ps : List ℕ) (b : Bool) → moved base dead (cond b ps []) ≡ cond b (moved base dead ps) []
moved_cond base dead ps true = refl
moved_cond base dead ps false = refl

term_taken : (base : ℕ) (dead : List ℕ) (terms : Table) (k : ℕ) (q : List ℕ) → k < length terms
    → moved base dead (all_places (take (k + 1) terms) q) ≡ moved base dead (all_places (take k terms) q) ++ cond (bytes_eq q (get_or terms k ([], [])).0) (moved base dead (get_or terms k ([], [])).1) []
term_taken base dead terms k q lt =
    let t : List ℕ × List ℕ = get_or terms k ([], []) in
    ap (λ ts. moved base dead (all_places ts q)) (take_more terms k ([], []) lt)
    ∙ ap (moved base dead) (all_append (take k terms) (t ∷ []) q ∙ ap (λ l. all_places (take k terms) q ++ l) (append-nil (cond (bytes_eq q t.0) t.1 [])))
    ∙ moved_append base dead (all_places (take k terms) q) (cond (bytes_eq q t.0) t.1 [])
    ∙ ap (λ l. moved base dead (all_places (take k terms) q) ++ l) (moved_cond base dead t.1 (bytes_eq q t.0))

swapped : (xs ms rest : List ℕ) (b : Bool) → (b ≡ true → rest ≡ []) → (xs ++ cond b ms []) ++ rest ≡ (xs ++ rest) ++ cond b ms []
swapped xs ms rest true none =
    ap (λ r. (xs ++ ms) ++ r) (none refl) ∙ append-nil (xs ++ ms) ∙ ap (λ l. l ++ ms) (sym (append-nil xs) ∙ ap (λ r. xs ++ r) (sym (none refl)))
swapped xs ms rest false none = ap (λ l. l ++ rest) (append-nil xs) ∙ sym (append-nil (xs ++ rest))

passed_more : (base : ℕ) (ss : List Records) (ns : List ℕ) (k at : ℕ) (q : List ℕ) → length ns ≡ length ss → k < length ss → at ≡ get_or ns k 0 → at < length (segment_at ss k).terms
    → (bytes_eq q (text_in ss k at) ≡ true → (j i : ℕ) → k < j → j < length ss → i < get_or ns j 0 → bytes_eq q (text_in ss j i) ≡ false)
    → places_passed base ss (set ns k (at + 1)) q
    ≡ places_passed base ss ns q ++ cond (bytes_eq q (text_in ss k at)) (moved (get_or (bases_from base ss) k 0) (segment_at ss k).dead (get_or (segment_at ss k).terms at ([], [])).1) []
passed_more base [] ns k at q size lt here within later = absurd (omega (arith, lt))
passed_more base (s ∷ ss) [] k at q size lt here within later = absurd (omega (arith, size))
passed_more base (s ∷ ss) (n ∷ ns) zero at q size lt here within later =
    let rest : List ℕ = places_passed (base + length (alive s.dead s.records)) ss ns q in
    let b : Bool = bytes_eq q (get_or s.terms at ([], [])).0 in
    let ms : List ℕ = moved base s.dead (get_or s.terms at ([], [])).1 in
    ap (λ l. l ++ rest) (term_taken base s.dead s.terms at q within)
    ∙ swapped (moved base s.dead (all_places (take at s.terms) q)) ms rest b (λ e. none_passed (base + length (alive s.dead s.records)) ss ns q (λ j i less there. later e (suc j) i (omega arith) (omega (arith, less)) there))
    ∙ ap (λ m. (moved base s.dead (all_places (take m s.terms) q) ++ rest) ++ cond b ms []) here
passed_more base (s ∷ ss) (n ∷ ns) (suc k) at q size lt here within later =
    let front : List ℕ = moved base s.dead (all_places (take n s.terms) q) in
    let live : ℕ = base + length (alive s.dead s.records) in
    let one : List ℕ = cond (bytes_eq q (text_in ss k at)) (moved (get_or (bases_from live ss) k 0) (segment_at ss k).dead (get_or (segment_at ss k).terms at ([], [])).1) [] in
    ap (λ l. front ++ l) (passed_more live ss ns k at q (omega (arith, size)) (omega (arith, lt)) here within (λ e j i less there. later e (suc j) i (omega (arith, less)) (omega (arith, there))))
    ∙ sym (append_assoc front (places_passed live ss ns q) one)

grown : (xs ps ms : List ℕ) (b : Bool) → xs ++ cond b (ps ++ ms) [] ≡ (xs ++ cond b ps []) ++ cond b ms []
grown xs ps ms true = sym (append_assoc xs ps ms)
grown xs ps ms false = sym (append-nil (xs ++ []))

module _ (ss : List Records) (start out : List ℕ) (count : ℕ) (passed word : List ℕ) (k at : ℕ) (places : List ℕ) (walk : IsWalk ss start out count passed word k places) (next : IsNextTerm ss passed k at) (here : word ≡ text_in ss k at) where
  later : (q : List ℕ) → bytes_eq q (text_in ss k at) ≡ true → (j i : ℕ) → k < j → j < length ss → i < get_or passed j 0 → bytes_eq q (text_in ss j i) ≡ false
  later q is j i behind lt there =
      let same : q ≡ word = bytes_same q (text_in ss k at) is ∙ sym here in
      elim (walk.order j i lt there) [
        | inl first ↦ ap (λ t. bytes_eq t (text_in ss j i)) same ∙ not_it (text_in ss j i) word first
        | inr other ↦ absurd (omega (arith, other.1, behind))
      ]

  in_order : (j i : ℕ) → j < length ss → i < get_or (set passed k (at + 1)) j 0 → (word_cmp (text_in ss j i) word ≡ Less) ⊎ ((text_in ss j i ≡ word) × (j < k + 1))
  in_order j i lt there = elim (cases_lt j k) [
    | inl less ↦ old (omega (arith, there, get_or-set_other passed k j (at + 1) 0 (λ e. absurd (omega (arith, e, less)))))
    | inr ge ↦ elim (cases_lt k j) [
      | inl more ↦ old (omega (arith, there, get_or-set_other passed k j (at + 1) 0 (λ e. absurd (omega (arith, e, more)))))
      | inr le ↦ at_it (omega (arith, ge, le)) (cases_lt i at)
    ]
  ]
    where
      old : i < get_or passed j 0 → (word_cmp (text_in ss j i) word ≡ Less) ⊎ ((text_in ss j i ≡ word) × (j < k + 1))
      old less = elim (walk.order j i lt less) [
        | inl first ↦ inl first
        | inr other ↦ inr (other.0, omega (arith, other.1))
      ]

      at_it : j ≡ k → (i < at) ⊎ (at ≤ i) → (word_cmp (text_in ss j i) word ≡ Less) ⊎ ((text_in ss j i ≡ word) × (j < k + 1))
      at_it same (inl less) = old (omega (arith, less, next.first, ap (λ n. get_or passed n 0) same))
      at_it same (inr ge) =
          let size : k < length passed = omega (arith, walk.each, next.segment) in
          let upto : i < at + 1 = omega (arith, there, ap (λ n. get_or (set passed k (at + 1)) n 0) same, get_or-set_same passed k (at + 1) 0 size) in
          let last : i ≡ at = omega (arith, ge, upto) in
          inr ((λ n. text_in ss (same n) (last n)) ∙ sym here, omega (arith, same))

  pub walk_more : (base : ℕ) (dead ps more : List ℕ) → base ≡ get_or (bases_from 0 ss) k 0 → dead ≡ (segment_at ss k).dead → ps ≡ (get_or (segment_at ss k).terms at ([], [])).1 → more ≡ places ++ moved base dead ps
      → IsWalk ss start out count (set passed k (at + 1)) word (k + 1) more
  walk_more base dead ps more based gone placed is = record {
    terms = walk.terms;
    written = walk.written;
    before = walk.before;
    each = length-set passed k (at + 1) ∙ walk.each;
    all = λ q.
        let b : Bool = bytes_eq q (text_in ss k at) in
        let ms : List ℕ = moved (get_or (bases_from 0 ss) k 0) (segment_at ss k).dead (get_or (segment_at ss k).terms at ([], [])).1 in
        (λ i. all_places walk.terms q ++ cond (bytes_eq q (here i)) ((is ∙ (λ j. places ++ moved (based j) (gone j) (placed j))) i) [])
        ∙ grown (all_places walk.terms q) places ms b
        ∙ ap (λ l. l ++ cond b ms []) (ap (λ w. all_places walk.terms q ++ cond (bytes_eq q w) places []) (sym here) ∙ walk.all q)
        ∙ sym (passed_more 0 ss passed k at q walk.each next.segment next.first next.within (later q));
    order = in_order;
  }

-- ---- the start

none_at_first : (base : ℕ) (ss : List Records) (n : ℕ) (q : List ℕ) → places_passed base ss (replicate n 0) q ≡ []
none_at_first base [] n q = refl
none_at_first base (s ∷ ss) zero q = refl
none_at_first base (s ∷ ss) (suc n) q = none_at_first (base + length (alive s.dead s.records)) ss n q

pub walk_begins : (ss : List Records) (start : List ℕ) (n : ℕ) → n ≡ length ss → IsWalk ss start start 0 (replicate n 0) [] 0 []
unfolding IsStrictlySortedBy
walk_begins ss start n size = record {
  terms = [];
  written = record { bytes = sym (append-nil start); number = refl; rise = tt; some = tt; texts = tt };
  before = tt;
  each = length-replicate n 0 ∙ size;
  all = λ q. no_places (bytes_eq q []) [] ∙ sym (none_at_first 0 ss n q);
  order = λ k i lt there. absurd (omega (arith, there, get_or-replicate {A = ℕ} n k 0 0 (omega (arith, lt, size))));
}

-- ---- the end

all_passed : (base : ℕ) (ss : List Records) (ns q : List ℕ) → length ns ≡ length ss → AreAllPassed ss ns → places_passed base ss ns q ≡ places_in base ss q
all_passed base [] ns q size all = refl
all_passed base (s ∷ ss) [] q size all = absurd (omega (arith, size))
all_passed base (s ∷ ss) (n ∷ ns) q size all =
    (λ i. moved base s.dead (all_places (take_all n s.terms (all 0 (omega arith)) i) q) ++ all_passed (base + length (alive s.dead s.records)) ss ns q (omega (arith, size)) (λ k lt. all (suc k) (omega (arith, lt))) i)

found_some : (es : Table) (q : List ℕ) → AllByRecursion (λ t. 1 ≤ length t.1) es → behind None (unwrap_or (found es q) []) ≡ found es q
found_some [] q some = refl
found_some (e ∷ es) q some = by (bytes_eq q e.0) e.1 some.0 (found_some es q some.1)
  where
    by : (b : Bool) (ps : List ℕ) → 1 ≤ length ps → behind None (unwrap_or (found es q) []) ≡ found es q → behind None (unwrap_or (cond b (Some ps) (found es q)) []) ≡ cond b (Some ps) (found es q)
    by true [] one rest = absurd (omega (arith, one))
    by true (p ∷ ps) one rest = refl
    by false ps one rest = rest

pub walk_ends : (ss : List Records) (start old new : List ℕ) (count more : ℕ) (passed word : List ℕ) (from : ℕ) (places : List ℕ) (walk : IsWalk ss start old count passed word from places)
    → AreWritten start new more (with_term walk.terms word places) → AreAllPassed ss passed → AreMerged ss start new more
walk_ends ss start old new count more passed word from places walk written all =
    let terms : Table = with_term walk.terms word places in
    record {
      terms = terms;
      written = written;
      found = λ q.
          sym (found_some terms q written.some) ∙ ap (behind None) (sym (all_found terms written.rise q) ∙ all_with_term walk.terms word places q ∙ walk.all q ∙ all_passed 0 ss passed q walk.each all);
    }

-- ---- the bases

pub bases_push : (base : ℕ) (ss : List Records) (s : Records) → bases_from base (ss ++ s ∷ []) ≡ bases_from base ss ++ (base + length (records_in ss)) ∷ []
bases_push base [] s = ap (λ n. n ∷ []) (omega arith)
bases_push base (r ∷ rs) s =
    let e : (base + length (alive r.dead r.records)) + length (records_in rs) ≡ base + length (records_in (r ∷ rs)) = omega (arith, length-append (alive r.dead r.records) (records_in rs)) in
    ap (λ l. base ∷ l) (bases_push (base + length (alive r.dead r.records)) rs s ∙ ap (λ n. bases_from (base + length (alive r.dead r.records)) rs ++ n ∷ []) e)

pub length_bases : (base : ℕ) (ss : List Records) → length (bases_from base ss) ≡ length ss
length_bases base [] = refl
length_bases base (s ∷ ss) = ap suc (length_bases (base + length (alive s.dead s.records)) ss)

pub base_there : (ss : List Records) (k d : ℕ) → k < length ss → get_or (bases_from 0 ss) k d ≡ get_or (bases_from 0 ss) k 0
base_there ss k d lt = same (bases_from 0 ss) k (omega (arith, lt, length_bases 0 ss))
  where
    same : (ns : List ℕ) (i : ℕ) → i < length ns → get_or ns i d ≡ get_or ns i 0
    same [] i less = absurd (omega (arith, less))
    same (n ∷ ns) zero less = refl
    same (n ∷ ns) (suc i) less = same ns i (omega (arith, less))

pub low_base : (base : ℕ) (ss : List Records) (k : ℕ) → k < length ss → get_or (bases_from base ss) k 0 ≤ base + length (records_in ss)
low_base base [] k lt = absurd (omega (arith, lt))
low_base base (s ∷ ss) zero lt = omega arith
low_base base (s ∷ ss) (suc k) lt = omega (arith, low_base (base + length (alive s.dead s.records)) ss k (omega (arith, lt)), length-append (alive s.dead s.records) (records_in ss))

-- ---- one of the segments

pub segment_is : {A : Type 0} (value : A → Records) (xs : List A) (k : ℕ) (x : A) → k < length xs → get_or xs k x ≡ x → segment_at (map value xs) k ≡ value x
segment_is value xs k x lt is = get_or-map value xs k x (record { records = []; terms = []; dead = [] }) lt ∙ ap value is
