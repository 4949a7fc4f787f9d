-- What nodes have in common, one node after the other.
use Rattle.std.proofs.Common.{◌≡◌, ℕ, zero, suc, ◌+◌, ◌/◌, ◌<◌, Bool, true, false, ◌&&◌, ◌||◌, List, [], ◌∷◌, ◌++◌, length, get_or, Option, Some, None, refl, sym, ap, subst, ◌∙◌, arith}
use Rattle.std.specs.Prelude.{not, slice_get}
use Rattle.std.specs.List.{range_with_len, AllByRecursion}
use Rattle.std.specs.Option.{option_map_or}
use Rattle.std.proofs.lemmas.Option.{slice_get_within}
use Rattle.facet_model.specs.CountedPaths.{places}
use Rattle.facet_model.specs.Documents.{Doc}
use Rattle.place_bits.specs.Words.{Marked, empty_set, with_places}
use Rattle.plan_places.specs.Marks.{AreMarkedToo, IsMarkable}
use Rattle.plan_places.specs.Planned.{Planned, all_have}
use Rattle.query_eval.proofs.Marks.{at, rising_places, is_in_places, are_places, all_from_place}
use Rattle.facet_codec.specs.Laws.{IsBelow}
use Rattle.seg_postings.specs.Rising.{IsRising, is_in}
use Rattle.seg_postings.specs.Sets.{without}
use Rattle.seg_postings.proofs.Members.{is_in-without, one_rising}
use Rattle.seg_postings.proofs.Sets.{rising_without}
use Rattle.seg_drill.specs.Passing.{AreAllOf}
use Rattle.sideways.specs.Counted.{AreNodesFor, IsAmong, IsMarkedBy}
use Rattle.sideways.proofs.Gathered.{all_front, all_last}
use Rattle.seg_drill.proofs.Narrowed.{all_have_more}
use Rattle.std.proofs.Math.Bool.{and-true}
use Rattle.live_records.proofs.Added.{below_in}
use Rattle.std.proofs.lemmas.List.{nil_from_length}

at_within : (test : Doc → Bool) (docs : List Doc) (n : ℕ) → at test docs n ≡ true → n < length docs
at_within test docs n among = by (slice_get docs n) refl among
  where
    by : (o : Option Doc) → slice_get docs n ≡ o → option_map_or test o false ≡ true → n < length docs
    by None e there = absurd cc
    by (Some doc) e there = slice_get_within docs n doc e

nodes_among : (among : List Doc) (docs : ℕ) (ps : List Planned) → docs ≡ length among → AllByRecursion (λ p. (other : Doc → Bool) × (p.left ≡ places other among)) ps → AllByRecursion (IsAmong docs) ps
nodes_among among docs [] same each = tt
nodes_among among docs (p ∷ ps) same each =
    ((λ n there. omega (arith, same, at_within each.0.0 among n (sym (is_in_places n each.0.0 among) ∙ ap (is_in n) (sym each.0.1) ∙ there))), nodes_among among docs ps same each.1)

-- What is common so far, and what all nodes have that are left, are together what all nodes have.
pub record AreCommonSoFar (docs : ℕ) (all left : List Planned) (common : Marked) : Type 0 where
  pub words : common.words ≡ (docs + 63) / 64
  pub rising : IsRising common.places
  pub each : AllByRecursion (IsAmong docs) left
  pub same : (n : ℕ) → (is_in n common.places && all_have n left) ≡ (is_in n (range_with_len 0 docs) && all_have n all)

all_places : (among : List Doc) (docs : ℕ) → docs ≡ length among → range_with_len 0 docs ≡ places (λ doc. true) among
all_places among docs same = ap (range_with_len 0) same ∙ all_from_place 0 among

pub none_common : (docs : ℕ) (all : List Planned) (among : List Doc) (test : Doc → Bool) (empty common : Marked) → AreAllOf among test all → docs ≡ length among → empty ≡ empty_set ((docs + 63) / 64) → common ≡ with_places (range_with_len 0 docs) empty
    → AreCommonSoFar docs all all common
none_common docs all among test empty common are same nil_from_length filled = record {
  words = ap (λ (m : Marked). m.words) filled ∙ ap (λ (m : Marked). m.words) nil_from_length;
  rising = subst IsRising (sym (ap (λ (m : Marked). m.places) filled ∙ all_places among docs same)) (rising_places (λ (doc : Doc). true) among);
  each = nodes_among among docs all same are.each;
  same = λ n. ap (λ (m : Marked). is_in n m.places && all_have n all) filled;
}

module _ (docs : ℕ) (all left rest : List Planned) (node : Planned) (common : Marked) (so_far : AreCommonSoFar docs all left common) (is : left ≡ rest ++ node ∷ []) where
  each_left : AllByRecursion (IsAmong docs) (rest ++ node ∷ [])
  each_left = subst (AllByRecursion (IsAmong docs)) is so_far.each

  pub node_room : (empty : Marked) → empty ≡ empty_set ((docs + 63) / 64) → IsMarkable empty node.left
  node_room empty nil_from_length n there = omega (arith, ap (λ (m : Marked). m.words) nil_from_length, all_last (IsAmong docs) rest node each_left n there)

  pub one_common : (empty marked new : Marked) → empty ≡ empty_set ((docs + 63) / 64) → AreMarkedToo node.left marked empty → new.words ≡ common.words → IsRising new.places
      → ((n : ℕ) → is_in n new.places ≡ (is_in n common.places && is_in n marked.places)) → AreCommonSoFar docs all rest new
  one_common empty marked new nil_from_length too words rising kept = record {
    words = words ∙ so_far.words;
    rising = rising;
    each = all_front (IsAmong docs) rest node each_left;
    same = λ n.
        let has : is_in n marked.places ≡ is_in n node.left = too.members n ∙ ap (λ (m : Marked). is_in n m.places || is_in n node.left) nil_from_length in
        ap (λ b. b && all_have n rest) (kept n ∙ ap (λ b. is_in n common.places && b) has) ∙ turned (is_in n common.places) (is_in n node.left) (all_have n rest)
        ∙ ap (λ b. is_in n common.places && b) (sym (ap (all_have n) is ∙ all_have_more n rest node)) ∙ so_far.same n;
  }
    where
      turned : (a b c : Bool) → ((a && b) && c) ≡ (a && (c && b))
      turned true true true = refl
      turned true true false = refl
      turned true false true = refl
      turned true false false = refl
      turned false b c = refl

pub all_common : (docs : ℕ) (all left : List Planned) (common : Marked) → AreCommonSoFar docs all left common → length left ≡ 0
    → (among : List Doc) (test : Doc → Bool) → docs ≡ length among → AreAllOf among test all → common.places ≡ places test among
all_common docs all left common so_far end among test same are =
    are_places test among common.places so_far.rising (λ n. sym (and-true (is_in n common.places)) ∙ ap (λ ps. is_in n common.places && all_have n ps) (sym (nil_from_length left end)) ∙ so_far.same n ∙ by n (slice_get among n) refl)
  where
    among_at : (n : ℕ) → is_in n (range_with_len 0 docs) ≡ at (λ (d : Doc). true) among n
    among_at n = ap (is_in n) (all_places among docs same) ∙ is_in_places n (λ (d : Doc). true) among

    by : (n : ℕ) (o : Option Doc) → slice_get among n ≡ o → (is_in n (range_with_len 0 docs) && all_have n all) ≡ at test among n
    by n None e = ap (λ b. b && all_have n all) (among_at n ∙ ap (λ (o : Option Doc). option_map_or (λ d. true) o false) e) ∙ sym (ap (λ o. option_map_or test o false) e)
    by n (Some doc) e =
        ap (λ b. b && all_have n all) (among_at n ∙ ap (λ (o : Option Doc). option_map_or (λ d. true) o false) e) ∙ are.have n doc e ∙ sym (ap (λ o. option_map_or test o false) e)

-- ---- without the dead

-- there is room for all of them
pub dead_room : (docs : ℕ) (dead : List ℕ) (empty : Marked) → AllByRecursion (IsBelow docs) dead → empty ≡ empty_set ((docs + 63) / 64) → IsMarkable empty dead
dead_room docs dead empty below nil_from_length n there = omega (arith, ap (λ (m : Marked). m.words) nil_from_length, below_in docs dead below n there)

pub dead_left : (dead : List ℕ) (empty marked old new : Marked) (words : ℕ) → empty ≡ empty_set words → AreMarkedToo dead marked empty → IsRising old.places → IsRising new.places → ((n : ℕ) → is_in n new.places ≡ (is_in n old.places && not (is_in n marked.places)))
    → new.places ≡ without old.places dead
dead_left dead empty marked old new words nil_from_length too rising after left =
    one_rising new.places (without old.places dead) after (rising_without old.places dead rising)
    (λ n. left n ∙ ap (λ b. is_in n old.places && not b) (too.members n ∙ ap (λ (m : Marked). is_in n m.places || is_in n dead) nil_from_length) ∙ sym (is_in-without n old.places dead))

-- ---- each node for itself

pub nodes_for_among : (among : List Doc) (docs : ℕ) (tests : List (Doc → Bool)) (ps : List Planned) → docs ≡ length among → AreNodesFor among tests ps → AllByRecursion (IsAmong docs) ps
nodes_for_among among docs [] [] same are = tt
nodes_for_among among docs [] (p ∷ ps) same are = absurd are
nodes_for_among among docs (t ∷ ts) [] same are = absurd are
nodes_for_among among docs (t ∷ ts) (p ∷ ps) same are =
    ((λ n there. omega (arith, same, at_within t among n (sym (is_in_places n t among) ∙ ap (is_in n) (sym are.0) ∙ there))), nodes_for_among among docs ts ps same are.1)

among_at_index : (docs : ℕ) (ps : List Planned) (i : ℕ) (d : Planned) → AllByRecursion (IsAmong docs) ps → i < length ps → IsAmong docs (get_or ps i d)
among_at_index docs [] i d all lt = absurd (omega arith)
among_at_index docs (p ∷ ps) zero d all lt = all.0
among_at_index docs (p ∷ ps) (suc i) d all lt = among_at_index docs ps i d all.1 (omega arith)

pub markable_here : (docs : ℕ) (ps : List Planned) (i : ℕ) (p : Planned) (empty : Marked) → AllByRecursion (IsAmong docs) ps → i < length ps → p ≡ get_or ps i p → empty ≡ empty_set ((docs + 63) / 64) → IsMarkable empty p.left
markable_here docs ps i p empty all lt is nil_from_length n there =
    omega (arith, ap (λ (m : Marked). m.words) nil_from_length, among_at_index docs ps i p all lt n (ap (λ (q : Planned). is_in n q.left) (sym is) ∙ there))

pub marked_by : (docs : ℕ) (p : Planned) (empty marked : Marked) → empty ≡ empty_set ((docs + 63) / 64) → AreMarkedToo p.left marked empty → IsMarkedBy docs p marked
marked_by docs p empty marked nil_from_length too = record {
  words = too.words ∙ ap (λ (m : Marked). m.words) nil_from_length;
  members = λ n. too.members n ∙ ap (λ (m : Marked). is_in n m.places || is_in n p.left) nil_from_length;
}
