-- Nodes of the documents that pass, and the live ones of their places.
use Rattle.std.proofs.Common.{◌≡◌, ℕ, zero, suc, ◌<◌, Bool, true, List, [], ◌∷◌, ◌++◌, length, sym, ap, subst, ◌∙◌, arith}
use Rattle.std.specs.Prelude.{◌&&◌, not}
use Rattle.std.proofs.lemmas.List.{append_assoc, append-nil}
use Rattle.std.proofs.lemmas.Bool.{and_parts}
use Rattle.std.proofs.Math.Bool.{and-true, and_assoc}
use Rattle.facet_model.specs.CountedPaths.{places}
use Rattle.facet_model.specs.Documents.{Doc}
use Rattle.facet_model.specs.Stored.{Records}
use Rattle.plan_places.specs.Planned.{Planned}
use Rattle.query_eval.proofs.Marks.{at, rising_places, is_in_places}
use Rattle.query_eval.specs.Segments.{passes_tests}
use Rattle.seg_drill.specs.Counting.{AreWithin}
use Rattle.seg_drill.specs.Passing.{AreAllOf}
use Rattle.seg_drill.proofs.Narrowed.{push_all, same_all}
use Rattle.seg_postings.proofs.Members.{is_in-without}
use Rattle.seg_postings.proofs.Sets.{rising_without}
use Rattle.seg_postings.specs.Rising.{IsRising, is_in}
use Rattle.seg_postings.specs.Sets.{without}
use Rattle.sideways.specs.Counted.{AreNodesFor}

-- a node more for each test
pub append_all : (docs : List Doc) (test : Doc → Bool) (tests : List (Doc → Bool)) (nodes more : List Planned) → AreAllOf docs test nodes → AreNodesFor docs tests more → AreAllOf docs (λ doc. test doc && passes_tests tests doc) (nodes ++ more)
append_all docs test [] nodes [] all is = subst (AreAllOf docs (λ doc. test doc && true)) (sym (append-nil nodes)) (same_all docs test (λ doc. test doc && true) nodes (λ doc. sym (and-true (test doc))) all)
append_all docs test [] nodes (p ∷ ps) all is = absurd is
append_all docs test (t ∷ ts) nodes [] all is = absurd is
append_all docs test (t ∷ ts) nodes (p ∷ ps) all is =
    subst (AreAllOf docs (λ doc. test doc && passes_tests (t ∷ ts) doc)) (append_assoc nodes (p ∷ []) ps)
    (same_all docs (λ doc. (test doc && t doc) && passes_tests ts doc) (λ doc. test doc && passes_tests (t ∷ ts) doc) ((nodes ++ p ∷ []) ++ ps) (λ doc. and_assoc (test doc) (t doc) (passes_tests ts doc))
    (append_all docs (λ doc. test doc && t doc) ts (nodes ++ p ∷ []) ps (push_all docs test t nodes p all is.0) is.1))

-- live places of documents that pass
pub within_docs : (segment : Records) (docs : List Doc) (test : Doc → Bool) (dead left : List ℕ) → length segment.records ≡ length docs → left ≡ without (places test docs) dead → AreWithin segment left
within_docs segment docs test dead left long is = record {
  rising = subst IsRising (sym is) (rising_without (places test docs) dead (rising_places test docs));
  within = λ n among. within n (sym (is_in_places n test docs) ∙ (and_parts (is_in n (places test docs)) (not (is_in n dead)) (sym (is_in-without n (places test docs) dead) ∙ ap (is_in n) (sym is) ∙ among)).0);
}
  where
    past : (n : ℕ) (xs : List Doc) → at test xs n ≡ true → n < length xs
    past n [] among = absurd cc
    past zero (x ∷ xs) among = omega arith
    past (suc n) (x ∷ xs) among = omega (arith, past n xs among)

    within : (n : ℕ) → at test docs n ≡ true → n < length segment.records
    within n among = omega (arith, past n docs among, long)
