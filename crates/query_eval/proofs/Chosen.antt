-- Set operations over the places of the documents that pass tests.
use Rattle.std.proofs.Common.{◌≡◌, ℕ, ◌<◌, Bool, true, false, List, [], ◌∷◌, ◌++◌, length, get_or, map, Option, Some, None, refl, sym, ap, subst, ◌∙◌, arith}
use Rattle.std.specs.Prelude.{◌||◌, ◌&&◌, not, slice_get, Result, Ok, Err, IfOk}
use Rattle.std.specs.List.{list_any, All}
use Rattle.std.specs.Option.{option_map_or}
use Rattle.facet_model.specs.Documents.{Doc}
use Rattle.facet_model.specs.CountedPaths.{places}
use Rattle.plan_places.specs.Planned.{Planned, any_of, all_have}
use Rattle.seg_postings.specs.Rising.{IsRising, is_in}
use Rattle.seg_postings.specs.Sets.{either, without}
use Rattle.seg_postings.proofs.Either.{rising_either}
use Rattle.std.proofs.lemmas.List.{map_push}
use Rattle.std.proofs.lemmas.List.Elements.{All-nil, All-cons}
use Rattle.seg_postings.proofs.Sets.{rising_without}
use Rattle.seg_postings.proofs.Members.{is_in-either, is_in-without}
use Rattle.query_eval.specs.Segments.{AreTests, passes_tests}
use Rattle.query_eval.proofs.Marks.{at, rising_places, is_in_places, are_places}
use Rattle.std.proofs.Math.Bool.{and-true, or-false}

-- the document passes one of the tests
abbrev pub some_of : List (Doc → Bool) → Doc → Bool
some_of tests doc = list_any (λ test. test doc) tests

at_none : (o : Option Doc) → false ≡ option_map_or (λ doc. false) o false
at_none None = refl
at_none (Some d) = refl

at_or : (f g : Doc → Bool) (o : Option Doc) → (option_map_or f o false || option_map_or g o false) ≡ option_map_or (λ doc. f doc || g doc) o false
at_or f g None = refl
at_or f g (Some d) = refl

at_without : (f g : Doc → Bool) (o : Option Doc) → (option_map_or f o false && not (option_map_or g o false)) ≡ option_map_or (λ doc. f doc && not (g doc)) o false
at_without f g None = refl
at_without f g (Some d) = refl

head_is : (x y : List ℕ) (xs ys : List (List ℕ)) → x ∷ xs ≡ y ∷ ys → x ≡ y
head_is x y xs ys h = cc

tail_is : (x y : List ℕ) (xs ys : List (List ℕ)) → x ∷ xs ≡ y ∷ ys → xs ≡ ys
tail_is x y xs ys h = cc

pub any_tests : (docs : List Doc) (tests : List (Doc → Bool)) (nodes : List Planned) → AreTests docs tests nodes → any_of nodes ≡ places (some_of tests) docs
any_tests docs [] [] are = are_places (λ doc. false) docs [] tt (λ n. at_none (slice_get docs n))
any_tests docs [] (p ∷ ps) are = absurd cc
any_tests docs (t ∷ ts) [] are = absurd cc
any_tests docs (t ∷ ts) (p ∷ ps) are =
    let first : p.left ≡ places t docs = head_is p.left (places t docs) (map (λ (q : Planned). q.left) ps) (map (λ (test : Doc → Bool). places test docs) ts) are in
    let rest : any_of ps ≡ places (some_of ts) docs = any_tests docs ts ps (tail_is p.left (places t docs) (map (λ (q : Planned). q.left) ps) (map (λ (test : Doc → Bool). places test docs) ts) are) in
    are_places (some_of (t ∷ ts)) docs (either p.left (any_of ps)) (rising_either p.left (any_of ps) (subst IsRising (sym rest) (rising_places (some_of ts) docs)))
    (λ n. is_in-either n p.left (any_of ps) ∙ (λ i. is_in n (first i) || is_in n (rest i)) ∙ (λ i. is_in_places n t docs i || is_in_places n (some_of ts) docs i) ∙ at_or t (some_of ts) (slice_get docs n))

-- one node alone
pub one_test : (docs : List Doc) (tests : List (Doc → Bool)) (p : Planned) → AreTests docs tests (p ∷ []) → p.left ≡ places (some_of tests) docs
one_test docs [] p are = absurd cc
one_test docs (t ∷ []) p are = head_is p.left (places t docs) [] [] are ∙ alone
  where
    alone : places t docs ≡ places (some_of (t ∷ [])) docs
    alone = ap (λ (f : Doc → Bool). places f docs) (λ i doc. sym (or-false (t doc)) i)
one_test docs (t ∷ u ∷ ts) p are = absurd (cc (tail_is p.left (places t docs) [] (map (λ (test : Doc → Bool). places test docs) (u ∷ ts)) are))

pub without_tests : (docs : List Doc) (f g : Doc → Bool) (xs ys : List ℕ) → xs ≡ places f docs → ys ≡ places g docs → without xs ys ≡ places (λ doc. f doc && not (g doc)) docs
without_tests docs f g xs ys left right = are_places (λ doc. f doc && not (g doc)) docs (without xs ys) (rising_without xs ys (subst IsRising (sym left) (rising_places f docs)))
    (λ n. is_in-without n xs ys ∙ (λ i. is_in n (left i) && not (is_in n (right i))) ∙ (λ i. is_in_places n f docs i && not (is_in_places n g docs i)) ∙ at_without f g (slice_get docs n))

-- with none excluded
pub without_none : (docs : List Doc) (f : Doc → Bool) (others : List (Doc → Bool)) (nodes : List Planned) → length nodes ≡ 0 → AreTests docs others nodes → places f docs ≡ places (λ doc. f doc && not (some_of others doc)) docs
without_none docs f [] [] none are = ap (λ (t : Doc → Bool). places t docs) (λ i doc. sym (and-true (f doc)) i)
without_none docs f (t ∷ ts) [] none are = absurd cc
without_none docs f others (p ∷ ps) none are = absurd (omega arith)

-- ---- each of some tests

pub rising_tests : (docs : List Doc) (tests : List (Doc → Bool)) (nodes : List Planned) → AreTests docs tests nodes → All (λ p. IsRising p.left) nodes
rising_tests docs [] [] are = All-nil (λ (p : Planned). IsRising p.left)
rising_tests docs [] (p ∷ ps) are = absurd cc
rising_tests docs (t ∷ ts) [] are = absurd cc
rising_tests docs (t ∷ ts) (p ∷ ps) are = All-cons (λ (q : Planned). IsRising q.left) p ps
    (subst IsRising (sym (head_is p.left (places t docs) (map (λ (q : Planned). q.left) ps) (map (λ (test : Doc → Bool). places test docs) ts) are)) (rising_places t docs))
    (rising_tests docs ts ps (tail_is p.left (places t docs) (map (λ (q : Planned). q.left) ps) (map (λ (test : Doc → Bool). places test docs) ts) are))

-- where there is a document, all nodes have its place where it passes all tests
have_at : (docs : List Doc) (n : ℕ) (d : Doc) (tests : List (Doc → Bool)) (nodes : List Planned) → slice_get docs n ≡ Some d → AreTests docs tests nodes → all_have n nodes ≡ passes_tests tests d
have_at docs n d [] [] there are = refl
have_at docs n d [] (p ∷ ps) there are = absurd cc
have_at docs n d (t ∷ ts) [] there are = absurd cc
have_at docs n d (t ∷ ts) (p ∷ ps) there are =
    let first : is_in n p.left ≡ t d = ap (is_in n) (head_is p.left (places t docs) (map (λ (q : Planned). q.left) ps) (map (λ (test : Doc → Bool). places test docs) ts) are) ∙ is_in_places n t docs ∙ ap (λ o. option_map_or t o false) there in
    let rest : all_have n ps ≡ passes_tests ts d = have_at docs n d ts ps there (tail_is p.left (places t docs) (map (λ (q : Planned). q.left) ps) (map (λ (test : Doc → Bool). places test docs) ts) are) in
    λ i. first i && rest i

-- where there is none, no node has the place
have_past : (docs : List Doc) (n : ℕ) (tests : List (Doc → Bool)) (nodes : List Planned) → 0 < length nodes → slice_get docs n ≡ None → AreTests docs tests nodes → all_have n nodes ≡ false
have_past docs n tests [] some none are = absurd (omega arith)
have_past docs n [] (p ∷ ps) some none are = absurd cc
have_past docs n (t ∷ ts) (p ∷ ps) some none are = ap (λ b. b && all_have n ps) first
  where
    first : is_in n p.left ≡ false
    first = ap (is_in n) (head_is p.left (places t docs) (map (λ (q : Planned). q.left) ps) (map (λ (test : Doc → Bool). places test docs) ts) are) ∙ is_in_places n t docs ∙ ap (λ o. option_map_or t o false) none

pub all_tests : (docs : List Doc) (tests others : List (Doc → Bool)) (nodes excluded : List Planned) (xs : List ℕ) → 0 < length nodes → AreTests docs tests nodes → AreTests docs others excluded
    → ((n : ℕ) → is_in n xs ≡ (all_have n nodes && not (is_in n (any_of excluded)))) → (All (λ p. IsRising p.left) nodes → IsRising xs) → xs ≡ places (λ doc. passes_tests tests doc && not (some_of others doc)) docs
all_tests docs tests others nodes excluded xs some are none members rises = are_places (λ doc. passes_tests tests doc && not (some_of others doc)) docs xs (rises (rising_tests docs tests nodes are)) (λ n. members n ∙ by n (slice_get docs n) refl)
  where
    out : (n : ℕ) → is_in n (any_of excluded) ≡ at (some_of others) docs n
    out n = ap (is_in n) (any_tests docs others excluded none) ∙ is_in_places n (some_of others) docs

    by : (n : ℕ) (o : Option Doc) → slice_get docs n ≡ o → (all_have n nodes && not (is_in n (any_of excluded))) ≡ at (λ doc. passes_tests tests doc && not (some_of others doc)) docs n
    by n None e = rw (have_past docs n tests nodes some e are, e) refl
    by n (Some d) e = rw (have_at docs n d tests nodes e are, out n, e) refl

-- one node alone, with none excluded
pub all_of_one : (docs : List Doc) (tests others : List (Doc → Bool)) (p : Planned) (excluded : List Planned) → AreTests docs tests (p ∷ []) → length excluded ≡ 0 → AreTests docs others excluded → p.left ≡ places (λ doc. passes_tests tests doc && not (some_of others doc)) docs
all_of_one docs tests others p excluded are none out = one_test docs tests p are ∙ ap (λ (f : Doc → Bool). places f docs) (λ i doc. alike tests are doc i) ∙ without_none docs (passes_tests tests) others excluded none out
  where
    or_and : (b : Bool) → (b || false) ≡ (b && true)
    or_and true = refl
    or_and false = refl

    alike : (ts : List (Doc → Bool)) → AreTests docs ts (p ∷ []) → (doc : Doc) → some_of ts doc ≡ passes_tests ts doc
    alike [] h doc = absurd cc
    alike (t ∷ []) h doc = or_and (t doc)
    alike (t ∷ u ∷ us) h doc = absurd (cc (tail_is p.left (places t docs) [] (map (λ (test : Doc → Bool). places test docs) (u ∷ us)) h))

-- one test more, with its node
pub tests_push : (docs : List Doc) (tests : List (Doc → Bool)) (nodes : List Planned) (t : Doc → Bool) (p : Planned) → AreTests docs tests nodes → p.left ≡ places t docs → AreTests docs (tests ++ t ∷ []) (nodes ++ p ∷ [])
tests_push docs tests nodes t p are is = map_push (λ (q : Planned). q.left) nodes p ∙ (λ i. are i ++ is i ∷ []) ∙ sym (map_push (λ (test : Doc → Bool). places test docs) tests t)

-- ---- answers

-- a list of one
pub one_of : (ps : List Planned) (p : Planned) → length ps ≡ 1 → p ≡ get_or ps 0 p → ps ≡ p ∷ []
one_of [] p one is = absurd (omega arith)
one_of (q ∷ []) p one is = ap (λ x. x ∷ []) (sym is)
one_of (q ∷ r ∷ rs) p one is = absurd (omega arith)

pub ok_by_two : {T E : Type 0} (r : Result T E) (A : Type 0) (P Q R : T → Type 0) → ((x : T) → P x → (A → Q x) → R x) → IfOk r P → (A → IfOk r Q) → IfOk r R
ok_by_two (Ok x) A P Q R f p q = f x p q
ok_by_two (Err e) A P Q R f p q = tt
