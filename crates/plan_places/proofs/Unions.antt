-- Nodes that were moved to a place, one after the other.
use Rattle.std.proofs.Common.{◌≡◌, ℕ, zero, suc, ◌+◌, ◌<◌, ◌≤◌, List, [], ◌∷◌, ◌++◌, length, get_or, set, take, drop, map, Option, Some, None, refl, sym, ap, subst, ◌∙◌, arith, inl, inr}
use Rattle.std.specs.List.{AllByRecursion}
use Rattle.std.proofs.lemmas.Bool.{le-ltb, lt-ltb, cases_lt}
use Rattle.std.proofs.lemmas.List.{drop-set-lt, drop_more, length-set, map-append, take_more, take_more_set}
use Rattle.std.proofs.lemmas.Grind.{drop_more_same}
use Rattle.seg_postings.specs.Rising.{IsBelowAll, IsRising, from_place, first_of}
use Rattle.seg_postings.specs.Sets.{put_in, either}
use Rattle.seg_postings.specs.Steps.{least_of}
use Rattle.seg_postings.proofs.Order.{rising_from}
use Rattle.seg_postings.proofs.Either.{put_less, put_same, put_more, put_none, rising_either, either-from_place, from_none}
use Rattle.plan_places.specs.Planned.{Planned, all_nodes, moved_to, any_of}
use Rattle.plan_places.specs.Nodes.{conjunction_left, conjunction_nodes}
use Rattle.plan_places.specs.Steps.{IsMoved}
use Rattle.plan_places.specs.declared.conjunction.Conjunction.{Conjunction}

first_put : (x : ℕ) (ys : List ℕ) → first_of (put_in x ys) ≡ least_of (Some x) (first_of ys)
first_put x [] = rw (put_none x) refl
first_put x (y ∷ ys) =
    elim (cases_lt x y) [
      | inl less ↦ rw (put_less x y ys less, le-ltb y x (omega arith)) refl
      | inr ge ↦ elim (cases_lt y x) [
        | inl more ↦ rw (put_more x y ys more, lt-ltb y x more) refl
        | inr le ↦ let e : x ≡ y = omega arith in rw (put_same x y ys e, le-ltb y x (omega arith)) (ap (λ (n : ℕ). Some n) (sym e))
      ]
    ]

least_skips : (x z : ℕ) (b : Option ℕ) → x < z → least_of (Some x) (least_of (Some z) b) ≡ least_of (Some x) b
least_skips x z None lt = rw (le-ltb z x (omega arith)) refl
least_skips x z (Some y) lt =
    elim (cases_lt y z) [
      | inl less ↦ rw (lt-ltb y z less) refl
      | inr ge ↦ rw (le-ltb y z ge, le-ltb z x (omega arith), le-ltb y x (omega arith)) refl
    ]

first_rest : (x : ℕ) (xs : List ℕ) (b : Option ℕ) → IsBelowAll x xs → least_of (Some x) (least_of (first_of xs) b) ≡ least_of (Some x) b
first_rest x [] b h = refl
first_rest x (z ∷ zs) b h = least_skips x z b h.0

first_either : (xs ys : List ℕ) → IsRising xs → first_of (either xs ys) ≡ least_of (first_of xs) (first_of ys)
unfolding either
first_either [] ys h = refl
first_either (x ∷ xs) ys h = first_put x (either xs ys) ∙ ap (λ (b : Option ℕ). least_of (Some x) b) (first_either xs ys h.1) ∙ first_rest x xs (first_of ys) h.0

least_once_more : (x : ℕ) (a b : Option ℕ) → least_of (Some x) (least_of a b) ≡ least_of (least_of (Some x) a) b
least_once_more x None b = refl
least_once_more x (Some y) None = elim (cases_lt y x) [ inl less ↦ rw (lt-ltb y x less) refl | inr ge ↦ rw (le-ltb y x ge) refl ]
least_once_more x (Some y) (Some z) =
    elim (cases_lt y x) [
      | inl less ↦ elim (cases_lt z y) [
        | inl lt ↦ rw (lt-ltb y x less, lt-ltb z y lt, lt-ltb z x (omega arith)) refl
        | inr ge ↦ rw (lt-ltb y x less, le-ltb z y ge, lt-ltb y x less) refl
      ]
      | inr more ↦ elim (cases_lt z y) [
        | inl lt ↦ rw (le-ltb y x more, lt-ltb z y lt) refl
        | inr ge ↦ rw (le-ltb y x more, le-ltb z y ge, le-ltb y x more, le-ltb z x (omega arith)) refl
      ]
    ]

least_is_associative : (a b c : Option ℕ) → least_of a (least_of b c) ≡ least_of (least_of a b) c
least_is_associative None b c = refl
least_is_associative (Some x) b c = least_once_more x b c

least_alone : (a : Option ℕ) → least_of a None ≡ a
least_alone None = refl
least_alone (Some x) = refl

-- the first of some with one more
first_more : (ps : List Planned) (q : Planned) → AllByRecursion (λ p. IsRising p.left) ps → IsRising q.left → first_of (any_of (ps ++ q ∷ [])) ≡ least_of (first_of (any_of ps)) (first_of q.left)
first_more [] q h r = first_either q.left [] r ∙ least_alone (first_of q.left)
first_more (p ∷ ps) q h r =
    first_either p.left (any_of (ps ++ q ∷ [])) h.0 ∙ ap (λ (o : Option ℕ). least_of (first_of p.left) o) (first_more ps q h.1 r)
    ∙ least_is_associative (first_of p.left) (first_of (any_of ps)) (first_of q.left) ∙ ap (λ (o : Option ℕ). least_of o (first_of q.left)) (sym (first_either p.left (any_of ps) h.0))

all_rise_more : (ps : List Planned) (q : Planned) → AllByRecursion (λ p. IsRising p.left) ps → IsRising q.left → AllByRecursion (λ p. IsRising p.left) (ps ++ q ∷ [])
all_rise_more [] q h r = (r, tt)
all_rise_more (p ∷ ps) q h r = (h.0, all_rise_more ps q h.1 r)

all_rise_moved : (place : ℕ) (ps : List Planned) → AllByRecursion (λ p. IsRising p.left) ps → AllByRecursion (λ p. IsRising p.left) (map (moved_to place) ps)
all_rise_moved place [] h = tt
all_rise_moved place (p ∷ ps) h = (rising_from place p.left h.0, all_rise_moved place ps h.1)

-- Those before i are moved, and the others are as they were.
pub record AreMoved (place i : ℕ) (now old : List Planned) (first : Option ℕ) : Type 0 where
  pub within : i ≤ length old
  pub long : length now ≡ length old
  pub moved : take i now ≡ map (moved_to place) (take i old)
  pub kept : drop i now ≡ drop i old
  pub first_is : first ≡ first_of (any_of (take i now))
  pub rises : AllByRecursion (λ p. IsRising p.left) (take i old)

kept_is : (place i : ℕ) (now old : List Planned) (first : Option ℕ) (d : Planned) → AreMoved place i now old first → i < length now → get_or now i d ≡ get_or old i d
kept_is place i now old first d h lt = let same : (get_or now i d ∷ drop (i + 1) now) ≡ (get_or old i d ∷ drop (i + 1) old) = sym (drop_more now i d lt) ∙ h.kept ∙ drop_more old i d (omega (arith, h.long)) in cc

pub moved_more : (place i : ℕ) (now old : List Planned) (first next : Option ℕ) (child d : Planned) → AreMoved place i now old first → i < length now
    → child ≡ moved_to place (get_or now i d) → IsRising (get_or now i d).left → next ≡ first_of child.left → AreMoved place (i + 1) (set now i child) old (least_of first next)
moved_more place i now old first next child d h lt e r n =
    let lt2 : i < length old = omega (arith, h.long) in
    let same : get_or now i d ≡ get_or old i d = kept_is place i now old first d h lt in
    let done : take (i + 1) (set now i child) ≡ take i now ++ child ∷ [] = take_more_set now i child lt in
    let old_done : take (i + 1) old ≡ take i old ++ get_or old i d ∷ [] = take_more old i d lt2 in
    let child_is : child ≡ moved_to place (get_or old i d) = e ∙ ap (moved_to place) same in
    let child_rises : IsRising child.left = subst (λ (p : Planned). IsRising p.left) (sym e) (rising_from place (get_or now i d).left r) in
    let rose : AllByRecursion (λ p. IsRising p.left) (take i now) = subst (λ (ps : List Planned). AllByRecursion (λ p. IsRising p.left) ps) (sym h.moved) (all_rise_moved place (take i old) h.rises) in
    record {
      within = omega (arith, lt2);
      long = length-set now i child ∙ h.long;
      moved = done ∙ ap (λ (ps : List Planned). ps ++ child ∷ []) h.moved ∙ ap (λ (p : Planned). map (moved_to place) (take i old) ++ p ∷ []) child_is ∙ sym (map-append (moved_to place) (take i old) (get_or old i d ∷ [])) ∙ ap (map (moved_to place)) (sym old_done);
      kept = drop-set-lt (i + 1) now i child (omega arith) ∙ drop_more_same now old i h.kept;
      first_is = ap (λ (o : Option ℕ). least_of first o) n ∙ ap (λ (o : Option ℕ). least_of o (first_of child.left)) h.first_is ∙ sym (first_more (take i now) child rose child_rises) ∙ ap (λ (ps : List Planned). first_of (any_of ps)) (sym done);
      rises = rw old_done (all_rise_more (take i old) (get_or old i d) h.rises (subst (λ (p : Planned). IsRising p.left) same r));
    }

pub rising_any : (ps : List Planned) → AllByRecursion (λ p. IsRising p.left) ps → IsRising (any_of ps)
rising_any [] h = tt
rising_any (p ∷ ps) h = rising_either p.left (any_of ps) (rising_any ps h.1)

pub any_moved : (place : ℕ) (ps : List Planned) → any_of (map (moved_to place) ps) ≡ from_place place (any_of ps)
any_moved place [] = sym (from_none place)
any_moved place (p ∷ ps) = ap (λ (r : List ℕ). either (from_place place p.left) r) (any_moved place ps) ∙ sym (either-from_place place p.left (any_of ps))

nodes_moved : (place : ℕ) (ps : List Planned) → all_nodes (map (moved_to place) ps) ≡ all_nodes ps
nodes_moved place [] = refl
nodes_moved place (p ∷ ps) = ap (λ (n : ℕ). p.nodes + n) (nodes_moved place ps)

pub nodes_below : (ps : List Planned) (j : ℕ) (d : Planned) → j < length ps → (get_or ps j d).nodes ≤ all_nodes ps
nodes_below [] j d lt = absurd (omega arith)
nodes_below (p ∷ ps) zero d lt = omega arith
nodes_below (p ∷ ps) (suc j) d lt = omega (arith, nodes_below ps j d (omega arith))

pub kept_nodes : (place i : ℕ) (now old : List Planned) (first : Option ℕ) (d : Planned) → AreMoved place i now old first → i < length now → (get_or now i d).nodes ≤ all_nodes old
kept_nodes place i now old first d h lt = omega (arith, ap (λ (p : Planned). p.nodes) (kept_is place i now old first d h lt), nodes_below old i d (omega (arith, h.long)))

abbrev made : List ℕ → ℕ → Planned
made xs n = record { left = xs; nodes = n }

abbrev pub leaf_of : List ℕ → Planned
leaf_of xs = record { left = xs; nodes = 1 }

pub conjunction_is : (place : ℕ) (now old : Conjunction) → IsMoved place now old
    → (let p : Planned = record { left = conjunction_left now; nodes = 1 + conjunction_nodes now } in p ≡ moved_to place (record { left = conjunction_left old; nodes = 1 + conjunction_nodes old }))
conjunction_is place now old h =
    ap (λ (xs : List ℕ). made xs (1 + conjunction_nodes now)) h.left ∙ ap (λ (m : ℕ). made (from_place place (conjunction_left old)) (1 + m)) h.nodes

pub any_is : (place : ℕ) (now old : List Planned) → now ≡ map (moved_to place) old → (let p : Planned = record { left = any_of now; nodes = 1 + all_nodes now } in p ≡ moved_to place (record { left = any_of old; nodes = 1 + all_nodes old }))
any_is place now old e =
    let l : any_of now ≡ from_place place (any_of old) = ap any_of e ∙ any_moved place old in
    let n : all_nodes now ≡ all_nodes old = ap all_nodes e ∙ nodes_moved place old in
    ap (λ (xs : List ℕ). made xs (1 + all_nodes now)) l ∙ ap (λ (m : ℕ). made (from_place place (any_of old)) (1 + m)) n
