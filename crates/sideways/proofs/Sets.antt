-- The sets of a segment, one for each pass.
use Rattle.std.proofs.Common.{◌≡◌, ℕ, zero, suc, ◌+◌, ◌/◌, ◌<◌, ◌≤◌, Bool, true, false, List, [], ◌∷◌, length, map, get_or, set, Option, Some, None, refl, sym, ap, subst, ◌∙◌, inl, inr, arith}
use Rattle.std.specs.Prelude.{◌||◌, ◌&&◌, not, cond, filter, nat_le, nat_eq, slice_get}
use Rattle.std.specs.List.{list_any, AllByRecursion, AllZip}
use Rattle.std.specs.Option.{option_map_or}
use Rattle.std.specs.Str.{bytes_eq}
use Rattle.std.specs.Cmp.Lexicographic.{bytes_decides}
use Rattle.std.proofs.Math.Bool.{or-true}
use Rattle.std.proofs.lemmas.Bool.{cases_eq, ne_eqb}
use Rattle.std.proofs.lemmas.List.{get_or-set_same, get_or-set_other, get_or_default, length-set}
use Rattle.facet_model.specs.CountedPaths.{places}
use Rattle.facet_model.specs.Documents.{Doc}
use Rattle.facet_model.specs.Queries.{QueryTree, matches}
use Rattle.facet_model.specs.Stored.{Records}
use Rattle.place_bits.specs.Misses.{HaveWords, IsNear, fails}
use Rattle.place_bits.specs.Words.{Marked}
use Rattle.plan_places.specs.Planned.{Planned}
use Rattle.query_eval.proofs.Living.{are_live}
use Rattle.query_eval.proofs.Marks.{at, is_in_places, same_places}
use Rattle.query_eval.specs.Segments.{HasTermsOf, passes_tests}
use Rattle.seg_postings.specs.Rising.{IsRising, is_in}
use Rattle.seg_postings.specs.Sets.{without}
use Rattle.seg_postings.proofs.Members.{is_in-without}
use Rattle.seg_drill.specs.Counting.{IsSetWithin}
use Rattle.sideways.specs.Counted.{AreNodesFor, IsMarkedBy, fails_alone, is_drilled, is_near}
use Rattle.sideways.specs.Kept.{AreDistinct, HasNear, IsGivenSet, IsGivenSets, dim_in}
use Rattle.sideways.specs.declared.pass.LiftedPass.{LiftedPass}
use Rattle.sideways.proofs.Misses.{near_test, test_of}
use Rattle.sideways.proofs.Passed.{within_docs}

pub have_words : (docs : ℕ) (nodes : List Planned) (sets : List Marked) → AllZip (IsMarkedBy docs) nodes sets → HaveWords ((docs + 63) / 64) sets
have_words docs [] [] are = tt
have_words docs [] (s ∷ ss) are = absurd are
have_words docs (p ∷ ps) [] are = absurd are
have_words docs (p ∷ ps) (s ∷ ss) are = (are.0.words, have_words docs ps ss are.1)

pub near_words : (words : ℕ) (base : List ℕ) (all olds news : List Marked) → HaveWords words olds → AllZip (IsNear base all) olds news → HaveWords words news
near_words words base all [] [] have near = tt
near_words words base all [] (n ∷ ns) have near = absurd near
near_words words base all (o ∷ os) [] have near = absurd near
near_words words base all (o ∷ os) (n ∷ ns) have near = (near.0.words ∙ have.0, near_words words base all os ns have.1 near.1)

module _ (among : List Doc) where
  -- the set has the places of the documents that pass
  abbrev pub IsSetOf : (Doc → Bool) → Marked → Type 0
  IsSetOf t s = (n : ℕ) → is_in n s.places ≡ at t among n

  pub sets_of : (docs : ℕ) (tests : List (Doc → Bool)) (nodes : List Planned) (sets : List Marked) → AreNodesFor among tests nodes → AllZip (IsMarkedBy docs) nodes sets → AllZip IsSetOf tests sets
  sets_of docs [] [] [] are marked = tt
  sets_of docs [] [] (s ∷ ss) are marked = absurd marked
  sets_of docs [] (p ∷ ps) sets are marked = absurd are
  sets_of docs (t ∷ ts) [] sets are marked = absurd are
  sets_of docs (t ∷ ts) (p ∷ ps) [] are marked = absurd marked
  sets_of docs (t ∷ ts) (p ∷ ps) (s ∷ ss) are marked = ((λ n. marked.0.members n ∙ ap (is_in n) are.0 ∙ is_in_places n t among), sets_of docs ts ps ss are.1 marked.1)

  fails_are : (n : ℕ) (doc : Doc) → slice_get among n ≡ Some doc → (tests : List (Doc → Bool)) (sets : List Marked) → AllZip IsSetOf tests sets → fails sets n ≡ length (filter (λ t. not (t doc)) tests)
  unfolding fails
  fails_are n doc there [] [] are = refl
  fails_are n doc there [] (s ∷ ss) are = absurd are
  fails_are n doc there (t ∷ ts) [] are = absurd are
  fails_are n doc there (t ∷ ts) (s ∷ ss) are = by (is_in n s.places) (t doc) (are.0 n ∙ ap (λ o. option_map_or t o false) there) (fails_are n doc there ts ss are.1)
    where
      by : (b c : Bool) → b ≡ c → length (filter (λ (x : Marked). not (is_in n x.places)) ss) ≡ length (filter (λ (x : Doc → Bool). not (x doc)) ts)
          → length (cond (not b) (s ∷ filter (λ (x : Marked). not (is_in n x.places)) ss) (filter (λ (x : Marked). not (is_in n x.places)) ss)) ≡ length (cond (not c) (t ∷ filter (λ (x : Doc → Bool). not (x doc)) ts) (filter (λ (x : Doc → Bool). not (x doc)) ts))
      by true true e h = h
      by true false e h = absurd cc
      by false true e h = absurd cc
      by false false e h = omega (arith, h)

  none_failed : (doc : Doc) (tests : List (Doc → Bool)) → nat_eq (length (filter (λ t. not (t doc)) tests)) 0 ≡ passes_tests tests doc
  none_failed doc [] = refl
  none_failed doc (t ∷ ts) = by (t doc) (none_failed doc ts)
    where
      by : (b : Bool) → nat_eq (length (filter (λ (x : Doc → Bool). not (x doc)) ts)) 0 ≡ passes_tests ts doc → nat_eq (length (cond (not b) (t ∷ filter (λ (x : Doc → Bool). not (x doc)) ts) (filter (λ (x : Doc → Bool). not (x doc)) ts))) 0 ≡ (b && passes_tests ts doc)
      by true h = h
      by false h = ne_eqb (suc (length (filter (λ (x : Doc → Bool). not (x doc)) ts))) 0 (λ e. omega arith)

  module _ (test : Doc → Bool) (base dead : List ℕ) (is : base ≡ without (places test among) dead) (tests : List (Doc → Bool)) (sets : List Marked) (are : AllZip IsSetOf tests sets) where
    base_at : (n : ℕ) (o : Option Doc) → slice_get among n ≡ o → is_in n base ≡ (option_map_or test o false && not (is_in n dead))
    base_at n o e = ap (is_in n) is ∙ is_in-without n (places test among) dead ∙ ap (λ b. b && not (is_in n dead)) (is_in_places n test among ∙ ap (λ x. option_map_or test x false) e)

    turned : (a b c : Bool) → ((a && b) && c) ≡ ((a && c) && b)
    turned false b c = refl
    turned true true true = refl
    turned true true false = refl
    turned true false true = refl
    turned true false false = refl

    pub hits_are : (hits : List ℕ) → IsRising hits → ((n : ℕ) → is_in n hits ≡ (is_in n base && nat_eq (fails sets n) 0)) → hits ≡ without (places (λ doc. test doc && passes_tests tests doc) among) dead
    hits_are hits rising members = are_live (λ doc. test doc && passes_tests tests doc) among dead hits rising (λ n. members n ∙ by n (slice_get among n) refl)
      where
        by : (n : ℕ) (o : Option Doc) → slice_get among n ≡ o → (is_in n base && nat_eq (fails sets n) 0) ≡ (at (λ doc. test doc && passes_tests tests doc) among n && not (is_in n dead))
        by n None e = ap (λ b. b && nat_eq (fails sets n) 0) (base_at n None e) ∙ sym (ap (λ o. option_map_or (λ doc. test doc && passes_tests tests doc) o false && not (is_in n dead)) e)
        by n (Some doc) e =
            (λ i. base_at n (Some doc) e i && (ap (λ m. nat_eq m 0) (fails_are n doc e tests sets are) ∙ none_failed doc tests) i)
            ∙ turned (test doc) (not (is_in n dead)) (passes_tests tests doc)
            ∙ sym (ap (λ o. option_map_or (λ d. test d && passes_tests tests d) o false && not (is_in n dead)) e)

    near_is : (t : Doc → Bool) (old new : Marked) → IsSetOf t old → IsNear base sets old new → new.places ≡ without (places (λ doc. test doc && fails_alone tests t doc) among) dead
    near_is t old new own near = are_live (λ doc. test doc && fails_alone tests t doc) among dead new.places near.rising (λ n. near.members n ∙ by n (slice_get among n) refl)
      where
        by : (n : ℕ) (o : Option Doc) → slice_get among n ≡ o → (is_in n base && (not (is_in n old.places) && nat_le (fails sets n) 1)) ≡ (at (λ doc. test doc && fails_alone tests t doc) among n && not (is_in n dead))
        by n None e = ap (λ b. b && (not (is_in n old.places) && nat_le (fails sets n) 1)) (base_at n None e) ∙ sym (ap (λ o. option_map_or (λ doc. test doc && fails_alone tests t doc) o false && not (is_in n dead)) e)
        by n (Some doc) e =
            (λ i. base_at n (Some doc) e i && (not ((own n ∙ ap (λ o. option_map_or t o false) e) i) && nat_le (fails_are n doc e tests sets are i) 1))
            ∙ turned (test doc) (not (is_in n dead)) (fails_alone tests t doc)
            ∙ sym (ap (λ o. option_map_or (λ d. test d && fails_alone tests t d) o false && not (is_in n dead)) e)

    pub nears_are : (ts : List (Doc → Bool)) (olds news : List Marked) → AllZip IsSetOf ts olds → AllZip (IsNear base sets) olds news → AllZip (λ t s. s.places ≡ without (places (λ doc. test doc && fails_alone tests t doc) among) dead) ts news
    nears_are [] [] [] own near = tt
    nears_are [] [] (n ∷ ns) own near = absurd near
    nears_are [] (o ∷ os) news own near = absurd own
    nears_are (t ∷ ts) [] news own near = absurd own
    nears_are (t ∷ ts) (o ∷ os) [] own near = absurd near
    nears_are (t ∷ ts) (o ∷ os) (n ∷ ns) own near = (near_is t o n own.0 near.0, nears_are ts os ns own.1 near.1)

-- ---- within the segment

pub within_at : (segment : Records) (sets : List Marked) (i : ℕ) (s : Marked) → AllByRecursion (IsSetWithin segment) sets → i < length sets → s ≡ get_or sets i s → IsSetWithin segment s
within_at segment [] i s all lt is = absurd (omega arith)
within_at segment (x ∷ xs) zero s all lt is = subst (IsSetWithin segment) (sym is) all.0
within_at segment (x ∷ xs) (suc i) s all lt is = within_at segment xs i s all.1 (omega arith) is

pub each_within : (segment : Records) (docs : List Doc) (dead : List ℕ) (f : (Doc → Bool) → Doc → Bool) (ts : List (Doc → Bool)) (sets : List Marked) → length segment.records ≡ length docs → HaveWords ((length segment.records + 63) / 64) sets
    → AllZip (λ t s. s.places ≡ without (places (f t) docs) dead) ts sets → AllByRecursion (IsSetWithin segment) sets
each_within segment docs dead f [] [] long have are = tt
each_within segment docs dead f [] (s ∷ ss) long have are = absurd are
each_within segment docs dead f (t ∷ ts) [] long have are = absurd are
each_within segment docs dead f (t ∷ ts) (s ∷ ss) long have are = (record { words = have.0; within = within_docs segment docs (f t) dead s.places long are.0 }, each_within segment docs dead f ts ss long have.1 are.1)

-- ---- a set for each pass

pub none_given : (segment : Records) (sets : List Marked) (old : List LiftedPass) → IsGivenSets segment sets 0 old old
none_given segment sets old = record { len = refl; done = λ j s l low w. absurd (omega arith); rest = λ j l le. refl }

pub given_more : (segment : Records) (sets : List Marked) (k : ℕ) (old now : List LiftedPass) (s : Marked) (one d : LiftedPass) → IsGivenSets segment sets k old now → k < length old → k < length sets → s ≡ get_or sets k s
    → IsGivenSet segment s (get_or now k d) one → IsGivenSets segment sets (k + 1) old (set now k one)
given_more segment sets k old now s one d given lt within is new = record {
  len = length-set now k one ∙ given.len;
  done = λ j x l low w. elim (cases_eq j k) [
    | inl same ↦
        let here : s ≡ get_or sets j x = is ∙ get_or_default sets k s x within ∙ ap (λ i. get_or sets i x) (sym same) in
        let before : get_or now k d ≡ get_or old j l = given.rest k d (omega arith) ∙ get_or_default old k d l lt ∙ ap (λ i. get_or old i l) (sym same) in
        let after : one ≡ get_or (set now k one) j l = sym (ap (λ i. get_or (set now k one) i l) same ∙ get_or-set_same now k one l (omega (arith, given.len))) in
        subst (λ m. IsGivenSet segment m (get_or old j l) (get_or (set now k one) j l)) here (subst (λ o. IsGivenSet segment s o (get_or (set now k one) j l)) before (subst (IsGivenSet segment s (get_or now k d)) after new))
    | inr other ↦ subst (IsGivenSet segment (get_or sets j x) (get_or old j l)) (sym (get_or-set_other now k j one l other)) (given.done j x l (omega arith) w)
  ];
  rest = λ j l le. get_or-set_other now k j one l (λ e. omega arith) ∙ given.rest j l (omega arith);
}

-- each of the passes is among all
pub each_in : (all ls : List LiftedPass) → ((dim : List ℕ) → list_any (λ x. bytes_eq x.dim.now dim) ls ≡ true → list_any (λ x. bytes_eq x.dim.now dim) all ≡ true) → AllByRecursion (λ l. list_any (λ x. bytes_eq x.dim.now l.dim.now) all ≡ true) ls
each_in all [] in_all = tt
each_in all (l ∷ ls) in_all = (
  in_all l.dim.now (ap (λ b. b || list_any (λ x. bytes_eq x.dim.now l.dim.now) ls) ((bytes_decides l.dim.now l.dim.now).1 refl)),
  each_in all ls (λ dim some. in_all dim (ap (λ b. bytes_eq l.dim.now dim || b) some ∙ or-true (bytes_eq l.dim.now dim))),
)

module _ (query : QueryTree) (drill : List (List (List ℕ))) (segment : Records) (all : List LiftedPass) (covers : (dim : List ℕ) → list_any (λ l. bytes_eq l.dim.now dim) all ≡ is_drilled drill dim) (distinct : AreDistinct (map dim_in all)) where
  pub given_all : (ls : List LiftedPass) (sets : List Marked) (news : List LiftedPass)
      → ((docs : List Doc) → HasTermsOf segment docs → AllZip (λ t s. s.places ≡ without (places (λ doc. matches query doc && fails_alone (map (test_of query drill) all) t doc) docs) segment.dead) (map (test_of query drill) ls) sets)
      → length sets ≡ length ls → length news ≡ length ls → ((j : ℕ) (s : Marked) (l : LiftedPass) → j < length ls → IsGivenSet segment (get_or sets j s) (get_or ls j l) (get_or news j l))
      → AllByRecursion (λ l. list_any (λ x. bytes_eq x.dim.now l.dim.now) all ≡ true) ls → AllZip (HasNear query drill segment) ls news
  given_all [] [] [] near len len2 given among = tt
  given_all [] [] (n ∷ ns) near len len2 given among = absurd (omega (arith, len2))
  given_all [] (s ∷ ss) news near len len2 given among = absurd (omega (arith, len))
  given_all (l ∷ ls) [] news near len len2 given among = absurd (omega (arith, len))
  given_all (l ∷ ls) (s ∷ ss) [] near len len2 given among = absurd (omega (arith, len2))
  given_all (l ∷ ls) (s ∷ ss) (n ∷ ns) near len len2 given among =
      let own : IsGivenSet segment s l n = given 0 s l (omega arith) in (
        (
          own.dim,
          record {
            part = record { segment = segment; left = s.places };
            is = record { same = refl; left = λ docs are. (near docs are).0 ∙ ap (λ xs. without xs segment.dead) (same_places (λ doc. matches query doc && fails_alone (map (test_of query drill) all) (test_of query drill l) doc) (is_near query drill l.dim.now) docs (near_test query drill all covers distinct l among.0)) };
            parts = own.parts;
            counter = own.counter;
          },
        ),
        given_all ls ss ns (λ docs are. (near docs are).1) (omega (arith, len)) (omega (arith, len2)) (λ j x y lt. given (suc j) x y (omega arith)) among.1,
      )

-- ---- one pass after the other

-- The first k passes were changed, and the others are as they were.
pub record AreChangedTo (R : LiftedPass → LiftedPass → Type 0) (k : ℕ) (now old : List LiftedPass) : Type 0 where
  pub len : length now ≡ length old
  pub done : (j : ℕ) (l : LiftedPass) → j < k → j < length old → R (get_or old j l) (get_or now j l)
  pub rest : (j : ℕ) (l : LiftedPass) → k ≤ j → get_or now j l ≡ get_or old j l

pub changed_more : (R : LiftedPass → LiftedPass → Type 0) (k : ℕ) (now old : List LiftedPass) (one d : LiftedPass) → AreChangedTo R k now old → k < length old → R (get_or now k d) one → AreChangedTo R (k + 1) (set now k one) old
changed_more R k now old one d changed lt new = record {
  len = length-set now k one ∙ changed.len;
  done = λ j l low w. elim (cases_eq j k) [
    | inl same ↦
        let before : get_or now k d ≡ get_or old j l = changed.rest k d (omega arith) ∙ get_or_default old k d l lt ∙ ap (λ i. get_or old i l) (sym same) in
        let after : one ≡ get_or (set now k one) j l = sym (ap (λ i. get_or (set now k one) i l) same ∙ get_or-set_same now k one l (omega (arith, changed.len))) in
        subst (λ o. R o (get_or (set now k one) j l)) before (subst (R (get_or now k d)) after new)
    | inr other ↦ subst (R (get_or old j l)) (sym (get_or-set_other now k j one l other)) (changed.done j l (omega arith) w)
  ];
  rest = λ j l le. get_or-set_other now k j one l (λ e. omega arith) ∙ changed.rest j l (omega arith);
}

zip_all : (R : LiftedPass → LiftedPass → Type 0) (old now : List LiftedPass) → length now ≡ length old → ((j : ℕ) (l : LiftedPass) → j < length old → R (get_or old j l) (get_or now j l)) → AllZip R old now
zip_all R [] [] len h = tt
zip_all R [] (y ∷ ys) len h = absurd (omega (arith, len))
zip_all R (x ∷ xs) [] len h = absurd (omega (arith, len))
zip_all R (x ∷ xs) (y ∷ ys) len h = (h 0 x (omega arith), zip_all R xs ys (omega (arith, len)) (λ j l lt. h (suc j) l (omega arith)))

pub all_changed : (R : LiftedPass → LiftedPass → Type 0) (k : ℕ) (now old : List LiftedPass) → AreChangedTo R k now old → length old ≤ k → AllZip R old now
all_changed R k now old changed le = zip_all R old now changed.len (λ j l lt. changed.done j l (omega arith) lt)
