-- Nodes all of which a document has to have, one dimension of a drill after the other.
use Rattle.std.proofs.Common.{◌≡◌, ℕ, ◌+◌, ◌<◌, Bool, true, false, List, [], ◌∷◌, ◌++◌, length, take, get_or, Option, Some, None, refl, sym, ap, subst, ◌∙◌, arith}
use Rattle.std.specs.Prelude.{◌||◌, ◌&&◌, not, slice_get, unwrap_or}
use Rattle.std.specs.List.{list_any, list_all, range_with_len, All, AllByRecursion}
use Rattle.std.specs.Option.{option_map_or}
use Rattle.std.specs.Str.{bytes_eq}
use Rattle.std.specs.Cmp.Lexicographic.{bytes_decides}
use Rattle.std.proofs.lemmas.List.Elements.{All-nil, All-cons}
use Rattle.std.proofs.lemmas.List.Folds.{list_all-append}
use Rattle.std.proofs.lemmas.List.{take_more}
use Rattle.std.proofs.lemmas.Option.{get_or_from_slice_get, slice_get_read}
use Rattle.facet_model.specs.CountedPaths.{places}
use Rattle.facet_model.specs.Documents.{Doc, dim_of}
use Rattle.facet_model.specs.Hits.{passes}
use Rattle.plan_places.specs.Planned.{Planned, any_of, all_have}
use Rattle.query_eval.proofs.Marks.{at, rising_places, is_in_places, are_places, all_from_place}
use Rattle.seg_postings.proofs.Members.{is_in-either}
use Rattle.seg_postings.specs.Rising.{IsRising, is_in}
use Rattle.seg_drill.specs.Passing.{AreAllOf, is_lifted, passes_each, is_again, is_first}
use Rattle.std.proofs.Math.Bool.{or-false, and-true, and_assoc}

-- no node, where every document passes
pub none_all : (docs : List Doc) → AreAllOf docs (λ doc. true) []
none_all docs = record { each = tt; have = λ n doc there. refl }

pub same_all : (docs : List Doc) (f g : Doc → Bool) (nodes : List Planned) → ((doc : Doc) → f doc ≡ g doc) → AreAllOf docs f nodes → AreAllOf docs g nodes
same_all docs f g nodes same all = record { each = all.each; have = λ n doc there. all.have n doc there ∙ same doc }

-- one node more
pub all_have_more : (n : ℕ) (nodes : List Planned) (p : Planned) → all_have n (nodes ++ p ∷ []) ≡ (all_have n nodes && is_in n p.left)
all_have_more n [] p = and-true (is_in n p.left)
all_have_more n (q ∷ qs) p = ap (λ b. is_in n q.left && b) (all_have_more n qs p) ∙ sym (and_assoc (is_in n q.left) (all_have n qs) (is_in n p.left))

each_more : (P : Planned → Type 0) (nodes : List Planned) (p : Planned) → AllByRecursion P nodes → P p → AllByRecursion P (nodes ++ p ∷ [])
each_more P [] p all here = (here, tt)
each_more P (q ∷ qs) p all here = (all.0, each_more P qs p all.1 here)

pub push_all : (docs : List Doc) (test f : Doc → Bool) (nodes : List Planned) (p : Planned) → AreAllOf docs test nodes → p.left ≡ places f docs → AreAllOf docs (λ doc. test doc && f doc) (nodes ++ p ∷ [])
push_all docs test f nodes p all is = record {
  each = each_more (λ q. (other : Doc → Bool) × (q.left ≡ places other docs)) nodes p all.each (f, is);
  have = λ n doc there. all_have_more n nodes p ∙ (λ i. all.have n doc there i && (ap (is_in n) is ∙ is_in_places n f docs ∙ ap (λ o. option_map_or f o false) there) i);
}

-- ---- the places of the documents that pass

-- what passes alike has the same places
same_on : (docs : List Doc) (f g : Doc → Bool) → ((n : ℕ) (doc : Doc) → slice_get docs n ≡ Some doc → f doc ≡ g doc) → places f docs ≡ places g docs
same_on docs f g same = are_places g docs (places f docs) (rising_places f docs) (λ n. is_in_places n f docs ∙ by n (slice_get docs n) refl)
  where
    by : (n : ℕ) (o : Option Doc) → slice_get docs n ≡ o → at f docs n ≡ at g docs n
    by n None e = rw e refl
    by n (Some doc) e = rw e (same n doc e)

pub all_pass : (docs : List Doc) (test : Doc → Bool) → AreAllOf docs test [] → range_with_len 0 (length docs) ≡ places test docs
all_pass docs test all = all_from_place 0 docs ∙ same_on docs (λ doc. true) test (λ n doc there. all.have n doc there)

pub each_rises : (docs : List Doc) (nodes : List Planned) → AllByRecursion (λ p. (other : Doc → Bool) × (p.left ≡ places other docs)) nodes → All (λ p. IsRising p.left) nodes
each_rises docs [] all = All-nil (λ (p : Planned). IsRising p.left)
each_rises docs (p ∷ ps) all = All-cons (λ (q : Planned). IsRising q.left) p ps (subst IsRising (sym all.0.1) (rising_places all.0.0 docs)) (each_rises docs ps all.1)

-- where no document stands, no node has the place
pub none_past : (docs : List Doc) (n : ℕ) (nodes : List Planned) → 0 < length nodes → slice_get docs n ≡ None → AllByRecursion (λ p. (other : Doc → Bool) × (p.left ≡ places other docs)) nodes → all_have n nodes ≡ false
none_past docs n [] some none all = absurd (omega arith)
none_past docs n (p ∷ ps) some none all = ap (λ b. b && all_have n ps) (ap (is_in n) all.0.1 ∙ is_in_places n all.0.0 docs ∙ ap (λ o. option_map_or all.0.0 o false) none)

pub all_left : (docs : List Doc) (test : Doc → Bool) (nodes : List Planned) (xs : List ℕ) → 0 < length nodes → AreAllOf docs test nodes
    → ((n : ℕ) → is_in n xs ≡ (all_have n nodes && not (is_in n (any_of [])))) → (All (λ p. IsRising p.left) nodes → IsRising xs) → xs ≡ places test docs
all_left docs test nodes xs some all members rises = are_places test docs xs (rises (each_rises docs nodes all.each)) (λ n. members n ∙ and-true (all_have n nodes) ∙ by n (slice_get docs n) refl)
  where
    by : (n : ℕ) (o : Option Doc) → slice_get docs n ≡ o → all_have n nodes ≡ at test docs n
    by n None e = rw (none_past docs n nodes some e all.each, e) refl
    by n (Some doc) e = rw e (all.have n doc e)

-- ---- the dimensions of a drill

module _ (drill : List (List (List ℕ))) (lift : Option (List ℕ)) where
  -- it passes the dimension of the path, or that is lifted
  abbrev pub one_of : Doc → List (List ℕ) → Bool
  one_of doc path = is_lifted lift (dim_of path) || passes doc drill (dim_of path)

  each_to : (doc : Doc) (i : ℕ) → i < length drill → passes_each drill lift (take (i + 1) drill) doc ≡ (passes_each drill lift (take i drill) doc && one_of doc (get_or drill i []))
  each_to doc i lt = ap (list_all (one_of doc)) (take_more drill i [] lt) ∙ list_all-append (one_of doc) (take i drill) (get_or drill i [] ∷ []) ∙ ap (λ b. passes_each drill lift (take i drill) doc && b) (and-true (one_of doc (get_or drill i [])))

  -- a path whose dimension stood before says no more
  again : (doc : Doc) (dim : List ℕ) (ps : List (List (List ℕ))) → list_any (λ path. bytes_eq (dim_of path) dim) ps ≡ true → list_all (one_of doc) ps ≡ true → (is_lifted lift dim || passes doc drill dim) ≡ true
  again doc dim [] some all = absurd cc
  again doc dim (p ∷ ps) some all = by (bytes_eq (dim_of p) dim) (one_of doc p) refl refl some all (again doc dim ps)
    where
      by : (b c : Bool) → bytes_eq (dim_of p) dim ≡ b → one_of doc p ≡ c → (b || list_any (λ path. bytes_eq (dim_of path) dim) ps) ≡ true → (c && list_all (one_of doc) ps) ≡ true
          → (list_any (λ path. bytes_eq (dim_of path) dim) ps ≡ true → list_all (one_of doc) ps ≡ true → (is_lifted lift dim || passes doc drill dim) ≡ true) → (is_lifted lift dim || passes doc drill dim) ≡ true
      by true true e f s a rest = ap (λ d. is_lifted lift d || passes doc drill d) (sym ((bytes_decides (dim_of p) dim).0 e)) ∙ f
      by false true e f s a rest = rest s a
      by b false e f s a rest = absurd cc

  -- the first path of a dimension that is not lifted
  pub narrowed : (m : Bool) (doc : Doc) (i : ℕ) (dim : List ℕ) → i < length drill → dim_of (get_or drill i []) ≡ dim → is_first drill i lift ≡ true
      → ((m && passes_each drill lift (take i drill) doc) && passes doc drill dim) ≡ (m && passes_each drill lift (take (i + 1) drill) doc)
  narrowed m doc i dim lt is first =
      and_assoc m (passes_each drill lift (take i drill) doc) (passes doc drill dim)
      ∙ ap (λ d. m && (passes_each drill lift (take i drill) doc && passes doc drill d)) (sym is)
      ∙ ap (λ b. m && (passes_each drill lift (take i drill) doc && (b || passes doc drill (dim_of (get_or drill i []))))) (sym (kept (is_again drill i (dim_of (get_or drill i []))) (is_lifted lift (dim_of (get_or drill i []))) first))
      ∙ ap (λ b. m && b) (sym (each_to doc i lt))
    where
      kept : (a b : Bool) → (not a && not b) ≡ true → b ≡ false
      kept a false h = refl
      kept true true h = absurd cc
      kept false true h = absurd cc

  -- a path of a dimension that stood before, or is lifted
  pub passed_over : (m : Bool) (doc : Doc) (i : ℕ) → i < length drill → is_first drill i lift ≡ false
      → (m && passes_each drill lift (take i drill) doc) ≡ (m && passes_each drill lift (take (i + 1) drill) doc)
  passed_over m doc i lt other = ap (λ b. m && b) (by (passes_each drill lift (take i drill) doc) refl (is_again drill i (dim_of (get_or drill i []))) (is_lifted lift (dim_of (get_or drill i []))) refl refl other ∙ sym (each_to doc i lt))
    where
      by : (all : Bool) → passes_each drill lift (take i drill) doc ≡ all → (a b : Bool) → is_again drill i (dim_of (get_or drill i [])) ≡ a → is_lifted lift (dim_of (get_or drill i [])) ≡ b → (not a && not b) ≡ false
          → passes_each drill lift (take i drill) doc ≡ (passes_each drill lift (take i drill) doc && one_of doc (get_or drill i []))
      by false e a b f g h = rw e refl
      by true e a true f g h = rw (e, g) refl
      by true e true false f g h = rw (e, again doc (dim_of (get_or drill i [])) (take i drill) f e) refl
      by true e false false f g h = absurd cc

pub dim_at : (drill : List (List (List ℕ))) (i : ℕ) (path : List (List ℕ)) (dim : List ℕ) → i < length drill → path ≡ get_or drill i path → slice_get path 0 ≡ Some dim → dim_of (get_or drill i []) ≡ dim
dim_at drill i path dim lt is at = ap dim_of (get_or_from_slice_get drill i path [] (slice_get_read drill (length drill) i path refl lt is)) ∙ ap (λ o. unwrap_or o []) at

-- one node alone
pub one_left : (docs : List Doc) (test : Doc → Bool) (p : Planned) → AreAllOf docs test (p ∷ []) → p.left ≡ places test docs
one_left docs test p all = are_places test docs p.left (subst IsRising (sym all.each.0.1) (rising_places all.each.0.0 docs)) (λ n. by n (slice_get docs n) refl)
  where
    by : (n : ℕ) (o : Option Doc) → slice_get docs n ≡ o → is_in n p.left ≡ at test docs n
    by n None e = ap (is_in n) all.each.0.1 ∙ is_in_places n all.each.0.0 docs ∙ ap (λ o. option_map_or all.each.0.0 o false) e ∙ sym (ap (λ o. option_map_or test o false) e)
    by n (Some doc) e = sym (and-true (is_in n p.left)) ∙ all.have n doc e ∙ sym (ap (λ o. option_map_or test o false) e)

-- ---- all nodes but not one

-- where there are nodes, all have a place exactly where its document passes
pub have_at : (docs : List Doc) (test : Doc → Bool) (nodes : List Planned) → 0 < length nodes → AreAllOf docs test nodes → (n : ℕ) → all_have n nodes ≡ at test docs n
have_at docs test nodes some all n = by (slice_get docs n) refl
  where
    by : (o : Option Doc) → slice_get docs n ≡ o → all_have n nodes ≡ at test docs n
    by None e = rw (none_past docs n nodes some e all.each, e) refl
    by (Some doc) e = rw e (all.have n doc e)

-- where there are none, every document passes
pub every_at : (docs : List Doc) (test : Doc → Bool) (whole : Planned) → whole.left ≡ range_with_len 0 (length docs) → AreAllOf docs test [] → (n : ℕ) → all_have n (whole ∷ []) ≡ at test docs n
every_at docs test whole is all n = and-true (is_in n whole.left) ∙ ap (is_in n) (is ∙ all_pass docs test all) ∙ is_in_places n test docs

pub nodes_rise : (docs : List Doc) (test : Doc → Bool) (nodes : List Planned) → AreAllOf docs test nodes → All (λ p. IsRising p.left) nodes
nodes_rise docs test nodes all = each_rises docs nodes all.each

pub whole_rises : (docs : List Doc) (whole : Planned) → whole.left ≡ range_with_len 0 (length docs) → All (λ p. IsRising p.left) (whole ∷ [])
whole_rises docs whole is = All-cons (λ (q : Planned). IsRising q.left) whole [] (subst IsRising (sym (is ∙ all_from_place 0 docs)) (rising_places (λ (doc : Doc). true) docs)) (All-nil (λ (p : Planned). IsRising p.left))

pub left_without : (docs : List Doc) (test other : Doc → Bool) (nodes : List Planned) (own : Planned) (left : List ℕ) → ((n : ℕ) → all_have n nodes ≡ at test docs n) → own.left ≡ places other docs → IsRising left
    → ((n : ℕ) → is_in n left ≡ (all_have n nodes && not (is_in n (any_of (own ∷ []))))) → left ≡ places (λ doc. test doc && not (other doc)) docs
left_without docs test other nodes own left have is rising members = are_places (λ doc. test doc && not (other doc)) docs left rising (λ n. members n ∙ by n (slice_get docs n) refl)
  where
    own_at : (n : ℕ) → is_in n (any_of (own ∷ [])) ≡ at other docs n
    own_at n = is_in-either n own.left [] ∙ or-false (is_in n own.left) ∙ ap (is_in n) is ∙ is_in_places n other docs

    by : (n : ℕ) (o : Option Doc) → slice_get docs n ≡ o → (all_have n nodes && not (is_in n (any_of (own ∷ [])))) ≡ at (λ doc. test doc && not (other doc)) docs n
    by n None e = ap (λ b. b && not (is_in n (any_of (own ∷ [])))) (have n ∙ ap (λ o. option_map_or test o false) e) ∙ sym (ap (λ o. option_map_or (λ doc. test doc && not (other doc)) o false) e)
    by n (Some doc) e =
        (λ i. (have n ∙ ap (λ o. option_map_or test o false) e) i && not ((own_at n ∙ ap (λ o. option_map_or other o false) e) i))
        ∙ sym (ap (λ o. option_map_or (λ d. test d && not (other d)) o false) e)
