-- The places of a node that others choose.
use Rattle.std.proofs.Common.{◌≡◌, ℕ, zero, suc, ◌+◌, ◌<◌, ◌≤◌, Bool, true, false, not, cond, leb, eqb, ◌&&◌, ◌||◌, List, [], ◌∷◌, ◌++◌, length, get_or, set, drop, take, map, Option, Some, None, refl, sym, ap, subst, ◌∙◌, arith, inl, inr}
use Rattle.std.specs.List.{filter, AllByRecursion}
use Rattle.std.specs.Option.{option_eq}
use Rattle.std.proofs.lemmas.Bool.{le-leb, lt-leb, cases_lt}
use Rattle.std.proofs.lemmas.List.{append-nil, drop_all, take_more, take_all}
use Rattle.seg_postings.specs.Rising.{IsRising, is_in, from_place, first_of}
use Rattle.seg_postings.proofs.Order.{rising_from, rising_filter, from_past}
use Rattle.seg_postings.proofs.Members.{is_in-either}
use Rattle.plan_places.specs.Planned.{Planned, all_nodes, moved_to, any_of, all_have, is_chosen, chosen_of}
use Rattle.plan_places.specs.Steps.{IsSameFrom, AreSameFrom, AreNoneBefore}
use Rattle.plan_places.proofs.Walks.{from_twice, all_from, is_in_same, first_some, first_none, first_from, before_first, from_first, is_first}
use Rattle.plan_places.proofs.Unions.{any_moved, rising_any, nodes_below}
use Rattle.seg_postings.proofs.Sets.{is_in_from}

-- ---- nodes that are the same from a place on

pub same_itself : (p : ℕ) (ps : List Planned) → AreSameFrom p ps ps
same_itself p [] = tt
same_itself p (q ∷ qs) = (record { left = refl; nodes = refl }, same_itself p qs)

pub same_through : (p : ℕ) (ms bs cs : List Planned) → AreSameFrom p ms bs → AreSameFrom p bs cs → AreSameFrom p ms cs
same_through p [] [] cs h k = k
same_through p [] (b ∷ bs) cs h k = absurd h
same_through p (a ∷ ms) [] cs h k = absurd h
same_through p (a ∷ ms) (b ∷ bs) [] h k = absurd k
same_through p (a ∷ ms) (b ∷ bs) (c ∷ cs) h k = (record { left = h.0.left ∙ k.0.left; nodes = h.0.nodes ∙ k.0.nodes }, same_through p ms bs cs h.1 k.1)

one_later : (p q : ℕ) (a b : List ℕ) → p ≤ q → from_place p a ≡ from_place p b → from_place q a ≡ from_place q b
one_later p q a b le e = sym (from_twice q p a le) ∙ ap (from_place q) e ∙ from_twice q p b le

pub same_later : (p q : ℕ) (ms bs : List Planned) → p ≤ q → AreSameFrom p ms bs → AreSameFrom q ms bs
same_later p q [] [] le h = tt
same_later p q [] (b ∷ bs) le h = absurd h
same_later p q (a ∷ ms) [] le h = absurd h
same_later p q (a ∷ ms) (b ∷ bs) le h = (record { left = one_later p q a.left b.left le h.0.left; nodes = h.0.nodes }, same_later p q ms bs le h.1)

all_moved : (p : ℕ) (ps : List Planned) → AreSameFrom p (map (moved_to p) ps) ps
all_moved p [] = tt
all_moved p (q ∷ qs) = (record { left = from_twice p p q.left (omega arith); nodes = refl }, all_moved p qs)

pub same_moved : (p : ℕ) (now old : List Planned) → now ≡ map (moved_to p) old → AreSameFrom p now old
same_moved p now old e = subst (λ (ps : List Planned). AreSameFrom p ps old) (sym e) (all_moved p old)

pub same_length : (p : ℕ) (ms bs : List Planned) → AreSameFrom p ms bs → length ms ≡ length bs
same_length p [] [] h = refl
same_length p [] (b ∷ bs) h = absurd h
same_length p (a ∷ ms) [] h = absurd h
same_length p (a ∷ ms) (b ∷ bs) h = ap (λ (n : ℕ). suc n) (same_length p ms bs h.1)

pub same_nodes : (p : ℕ) (ms bs : List Planned) → AreSameFrom p ms bs → all_nodes ms ≡ all_nodes bs
same_nodes p [] [] h = refl
same_nodes p [] (b ∷ bs) h = absurd h
same_nodes p (a ∷ ms) [] h = absurd h
same_nodes p (a ∷ ms) (b ∷ bs) h = omega (arith, h.0.nodes, same_nodes p ms bs h.1)

pub same_at : (p i : ℕ) (ms bs : List Planned) (d : Planned) → AreSameFrom p ms bs → i < length bs → IsSameFrom p (get_or ms i d) (get_or bs i d)
same_at p i [] [] d h lt = absurd (omega arith)
same_at p i [] (b ∷ bs) d h lt = absurd h
same_at p i (a ∷ ms) [] d h lt = absurd h
same_at p zero (a ∷ ms) (b ∷ bs) d h lt = h.0
same_at p (suc i) (a ∷ ms) (b ∷ bs) d h lt = same_at p i ms bs d h.1 (omega arith)

pub same_set : (p i : ℕ) (ms bs : List Planned) (c d : Planned) → AreSameFrom p ms bs → i < length bs → IsSameFrom p c (get_or bs i d) → AreSameFrom p (set ms i c) bs
same_set p i [] [] c d h lt k = absurd (omega arith)
same_set p i [] (b ∷ bs) c d h lt k = absurd h
same_set p i (a ∷ ms) [] c d h lt k = absurd h
same_set p zero (a ∷ ms) (b ∷ bs) c d h lt k = (k, h.1)
same_set p (suc i) (a ∷ ms) (b ∷ bs) c d h lt k = (h.0, same_set p i ms bs c d h.1 (omega arith) k)

all_same : (p n : ℕ) (ms bs : List Planned) → AreSameFrom p ms bs → p ≤ n → all_have n ms ≡ all_have n bs
all_same p n [] [] h le = refl
all_same p n [] (b ∷ bs) h le = absurd h
all_same p n (a ∷ ms) [] h le = absurd h
all_same p n (a ∷ ms) (b ∷ bs) h le =
    ap (λ (t : Bool). t && all_have n ms) (is_in_same n p a.left b.left h.0.left le) ∙ ap (λ (t : Bool). is_in n b.left && t) (all_same p n ms bs h.1 le)

any_same : (p n : ℕ) (ms bs : List Planned) → AreSameFrom p ms bs → p ≤ n → is_in n (any_of ms) ≡ is_in n (any_of bs)
any_same p n [] [] h le = refl
any_same p n [] (b ∷ bs) h le = absurd h
any_same p n (a ∷ ms) [] h le = absurd h
any_same p n (a ∷ ms) (b ∷ bs) h le =
    is_in-either n a.left (any_of ms) ∙ ap (λ (t : Bool). t || is_in n (any_of ms)) (is_in_same n p a.left b.left h.0.left le)
    ∙ ap (λ (t : Bool). is_in n b.left || t) (any_same p n ms bs h.1 le) ∙ sym (is_in-either n b.left (any_of bs))

pub chosen_same : (p n : ℕ) (ms bs es fs : List Planned) → AreSameFrom p ms bs → AreSameFrom p es fs → p ≤ n → is_chosen ms es n ≡ is_chosen bs fs n
chosen_same p n ms bs es fs h k le =
    ap (λ (t : Bool). t && not (is_in n (any_of es))) (all_same p n ms bs h le) ∙ ap (λ (t : Bool). all_have n bs && not t) (any_same p n es fs k le)

-- ---- what a test picks from a place on

choices_from : (t : ℕ → Bool) (p x : ℕ) (ts ps : List ℕ) (b : Bool) → t x ≡ b → from_place p ts ≡ filter t ps → from_place p (cond b (x ∷ ts) ts) ≡ filter t (cond (leb p x) (x ∷ ps) ps)
unfolding from_place
choices_from t p x ts ps true e h = elim (cases_lt x p) [ inl lt ↦ rw (lt-leb p x lt) h | inr ge ↦ rw (le-leb p x ge, e) (ap (λ (r : List ℕ). x ∷ r) h) ]
choices_from t p x ts ps false e h = elim (cases_lt x p) [ inl lt ↦ rw (lt-leb p x lt) h | inr ge ↦ rw (le-leb p x ge, e) h ]

pub from_filter : (t : ℕ → Bool) (p : ℕ) (xs : List ℕ) → from_place p (filter t xs) ≡ filter t (from_place p xs)
unfolding from_place
from_filter t p [] = refl
from_filter t p (x ∷ xs) = choices_from t p x (filter t xs) (from_place p xs) (t x) refl (from_filter t p xs)

filter_same : (t u : ℕ → Bool) (p : ℕ) (xs : List ℕ) → ((n : ℕ) → p ≤ n → t n ≡ u n) → filter t (from_place p xs) ≡ filter u (from_place p xs)
unfolding from_place
filter_same t u p [] h = refl
filter_same t u p (x ∷ xs) h =
    elim (cases_lt x p) [
      | inl lt ↦ rw (lt-leb p x lt) (filter_same t u p xs h)
      | inr ge ↦ rw (le-leb p x ge, h x ge) (ap (λ (r : List ℕ). cond (u x) (x ∷ r) r) (filter_same t u p xs h))
    ]

-- none from p on and before q
filter_skips : (t : ℕ → Bool) (p q : ℕ) (xs : List ℕ) → p ≤ q → ((n : ℕ) → p ≤ n → n < q → t n ≡ false) → filter t (from_place q xs) ≡ filter t (from_place p xs)
unfolding from_place
filter_skips t p q [] le h = refl
filter_skips t p q (x ∷ xs) le h =
    elim (cases_lt x p) [
      | inl low ↦ rw (lt-leb p x low, lt-leb q x (omega arith)) (filter_skips t p q xs le h)
      | inr ge ↦ elim (cases_lt x q) [
        | inl lt ↦ rw (le-leb p x ge, lt-leb q x lt, h x ge lt) (filter_skips t p q xs le h)
        | inr high ↦ rw (le-leb p x ge, le-leb q x high) (ap (λ (r : List ℕ). cond (t x) (x ∷ r) r) (filter_skips t p q xs le h))
      ]
    ]

filter_none : (t : ℕ → Bool) (p : ℕ) (xs : List ℕ) → ((n : ℕ) → p ≤ n → t n ≡ false) → filter t (from_place p xs) ≡ []
unfolding from_place
filter_none t p [] h = refl
filter_none t p (x ∷ xs) h =
    elim (cases_lt x p) [
      | inl lt ↦ rw (lt-leb p x lt) (filter_none t p xs h)
      | inr ge ↦ rw (le-leb p x ge, h x ge) (filter_none t p xs h)
    ]

filter_first : (t : ℕ → Bool) (xs : List ℕ) (f : ℕ) → first_of xs ≡ Some f → t f ≡ true → first_of (filter t xs) ≡ Some f
filter_first t [] f e h = absurd cc
filter_first t (x ∷ xs) f e h = let k : x ≡ f = cc in let tx : t x ≡ true = ap t k ∙ h in rw tx (ap (λ (n : ℕ). Some n) k)

-- ---- the search of a conjunction

-- No place that is chosen was passed from the place asked up to the first, and all below the first are passed.
pub record IsAhead (place first : ℕ) (lead : Planned) (others excluded : List Planned) (lead0 : Planned) (others0 excluded0 : List Planned) : Type 0 where
  pub left : lead.left ≡ from_place first lead0.left
  pub nodes : lead.nodes ≡ lead0.nodes
  pub rising : IsRising lead0.left
  pub others_same : AreSameFrom first others others0
  pub excluded_same : AreSameFrom first excluded excluded0
  pub same : filter (is_chosen others0 excluded0) (from_place first lead0.left) ≡ filter (is_chosen others0 excluded0) (from_place place lead0.left)

pub ahead_starts : (place : ℕ) (lead lead0 : Planned) (others excluded : List Planned) → lead ≡ moved_to place lead0 → IsRising lead0.left → IsAhead place place lead others excluded lead0 others excluded
ahead_starts place lead lead0 others excluded e h =
    record { left = ap (λ (p : Planned). p.left) e; nodes = ap (λ (p : Planned). p.nodes) e; rising = h; others_same = same_itself place others; excluded_same = same_itself place excluded; same = refl }

-- from the first place of the lead on it is the same
pub ahead_first : (place q : ℕ) (lead : Planned) (others excluded : List Planned) (lead0 : Planned) (others0 excluded0 : List Planned) (f : ℕ) → IsAhead place q lead others excluded lead0 others0 excluded0
    → first_of lead.left ≡ Some f → IsAhead place f lead others excluded lead0 others0 excluded0
ahead_first place q lead others excluded lead0 others0 excluded0 f h e =
    let head : first_of (from_place q lead0.left) ≡ Some f = ap first_of (sym h.left) ∙ e in
    let same : from_place f lead0.left ≡ from_place q lead0.left = from_first q lead0.left f h.rising head in
    let le : q ≤ f = first_from q (from_place q lead0.left) f (all_from q lead0.left) head in
    record {
      left = h.left ∙ sym same;
      nodes = h.nodes;
      rising = h.rising;
      others_same = same_later q f others others0 le h.others_same;
      excluded_same = same_later q f excluded excluded0 le h.excluded_same;
      same = ap (filter (is_chosen others0 excluded0)) same ∙ h.same;
    }

pub ahead_same : (place first : ℕ) (lead : Planned) (others excluded : List Planned) (lead0 : Planned) (others0 excluded0 others1 excluded1 : List Planned) → IsAhead place first lead others excluded lead0 others0 excluded0
    → AreSameFrom first others1 others → AreSameFrom first excluded1 excluded → IsAhead place first lead others1 excluded1 lead0 others0 excluded0
ahead_same place first lead others excluded lead0 others0 excluded0 others1 excluded1 h a b =
    record {
      left = h.left;
      nodes = h.nodes;
      rising = h.rising;
      others_same = same_through first others1 others others0 a h.others_same;
      excluded_same = same_through first excluded1 excluded excluded0 b h.excluded_same;
      same = h.same;
    }

pub ahead_goes : (place first : ℕ) (lead : Planned) (others excluded : List Planned) (lead0 : Planned) (others0 excluded0 others1 excluded1 : List Planned) (next : ℕ) (lead1 : Planned)
    → IsAhead place first lead others excluded lead0 others0 excluded0 → AreSameFrom first others1 others → AreSameFrom first excluded1 excluded → AreNoneBefore (is_chosen others excluded) first next → lead1 ≡ moved_to next lead
    → IsAhead place next lead1 others1 excluded1 lead0 others0 excluded0
ahead_goes place first lead others excluded lead0 others0 excluded0 others1 excluded1 next lead1 h a b none e =
    let t = is_chosen others0 excluded0 in
    let skipped : (n : ℕ) → first ≤ n → n < next → is_chosen others0 excluded0 n ≡ false = λ n le lt. sym (chosen_same first n others others0 excluded excluded0 h.others_same h.excluded_same le) ∙ none.none n le lt in
    record {
      left = ap (λ (p : Planned). p.left) e ∙ ap (from_place next) h.left ∙ from_twice next first lead0.left none.from;
      nodes = ap (λ (p : Planned). p.nodes) e ∙ h.nodes;
      rising = h.rising;
      others_same = same_later first next others1 others0 none.from (same_through first others1 others others0 a h.others_same);
      excluded_same = same_later first next excluded1 excluded0 none.from (same_through first excluded1 excluded excluded0 b h.excluded_same);
      same = filter_skips (is_chosen others0 excluded0) first next lead0.left none.from skipped ∙ h.same;
    }

pub ahead_left : (place first : ℕ) (lead : Planned) (others excluded : List Planned) (lead0 : Planned) (others0 excluded0 : List Planned) → IsAhead place first lead others excluded lead0 others0 excluded0
    → chosen_of lead others excluded ≡ from_place place (chosen_of lead0 others0 excluded0)
unfolding chosen_of
ahead_left place first lead others excluded lead0 others0 excluded0 h =
    ap (filter (is_chosen others excluded)) h.left
    ∙ filter_same (is_chosen others excluded) (is_chosen others0 excluded0) first lead0.left (λ n le. chosen_same first n others others0 excluded excluded0 h.others_same h.excluded_same le)
    ∙ h.same ∙ sym (from_filter (is_chosen others0 excluded0) place lead0.left)

pub ahead_nodes : (place first : ℕ) (lead : Planned) (others excluded : List Planned) (lead0 : Planned) (others0 excluded0 : List Planned) → IsAhead place first lead others excluded lead0 others0 excluded0
    → lead.nodes + (all_nodes others + all_nodes excluded) ≡ lead0.nodes + (all_nodes others0 + all_nodes excluded0)
ahead_nodes place first lead others excluded lead0 others0 excluded0 h = omega (arith, h.nodes, same_nodes first others others0 h.others_same, same_nodes first excluded excluded0 h.excluded_same)

pub found_first : (place first : ℕ) (lead : Planned) (others excluded : List Planned) (others1 excluded1 : List Planned) → first_of lead.left ≡ Some first → AreSameFrom first others1 others → AreSameFrom first excluded1 excluded
    → is_chosen others excluded first ≡ true → Some first ≡ first_of (chosen_of lead others1 excluded1)
unfolding chosen_of
found_first place first lead others excluded others1 excluded1 e a b t =
    sym (filter_first (is_chosen others1 excluded1) lead.left first e (chosen_same first first others1 others excluded1 excluded a b (omega arith) ∙ t))

pub none_first : (first : ℕ) (lead : Planned) (others excluded others1 excluded1 : List Planned) (xs : List ℕ) → lead.left ≡ from_place first xs → AreSameFrom first others1 others → AreSameFrom first excluded1 excluded
    → ((n : ℕ) → first ≤ n → is_chosen others excluded n ≡ false) → None ≡ first_of (chosen_of lead others1 excluded1)
unfolding chosen_of
none_first first lead others excluded others1 excluded1 xs e a b none =
    sym (ap first_of (ap (filter (is_chosen others1 excluded1)) e ∙ filter_none (is_chosen others1 excluded1) first xs (λ n le. chosen_same first n others1 others excluded1 excluded a b le ∙ none n le)))

pub empty_first : (lead : Planned) (others excluded : List Planned) → first_of lead.left ≡ None → None ≡ first_of (chosen_of lead others excluded)
unfolding chosen_of
empty_first lead others excluded e = sym (ap first_of (ap (filter (is_chosen others excluded)) (first_none lead.left e)))

pub rising_chosen : (lead : Planned) (others excluded : List Planned) → IsRising lead.left → IsRising (chosen_of lead others excluded)
unfolding chosen_of
rising_chosen lead others excluded h = rising_filter (is_chosen others excluded) lead.left h

shorter : (first next : ℕ) (xs ys : List ℕ) → ys ≡ from_place next xs → first_of xs ≡ Some first → first < next → length ys < length xs
unfolding from_place
shorter first next [] ys e head lt = absurd cc
shorter first next (x ∷ xs) ys e head lt = let k : x ≡ first = cc in let m : ys ≡ from_place next xs = rw (lt-leb next x (omega arith)) at e in omega (arith, ap length m, from_past next xs)

-- the lead has fewer places left
pub ahead_shorter : (first next : ℕ) (lead lead1 : Planned) (f : ℕ) → lead1 ≡ moved_to next lead → first_of lead.left ≡ Some first → first < next → first_of lead1.left ≡ Some f → length lead1.left < length lead.left
ahead_shorter first next lead lead1 f e head lt head1 = shorter first next lead.left lead1.left (ap (λ (p : Planned). p.left) e) head lt

-- ---- the choice at one place

and_not : (b c : Bool) → c ≡ true → (b && not c) ≡ false
and_not true c e = rw e refl
and_not false c e = refl

excluded_is : (excluded excluded1 : List Planned) (first : ℕ) (r : Option ℕ) → AllByRecursion (λ p. IsRising p.left) excluded → r ≡ first_of (any_of excluded1) → excluded1 ≡ map (moved_to first) excluded
    → option_eq eqb r (Some first) ≡ is_in first (any_of excluded)
excluded_is excluded excluded1 first r h e m =
    ap (λ (o : Option ℕ). option_eq eqb o (Some first)) (e ∙ ap first_of (ap any_of m ∙ any_moved first excluded)) ∙ is_first first (any_of excluded) (rising_any excluded h)

pub chosen_excluded : (others excluded excluded1 : List Planned) (first : ℕ) (r : Option ℕ) → AllByRecursion (λ p. IsRising p.left) excluded → r ≡ first_of (any_of excluded1) → excluded1 ≡ map (moved_to first) excluded
    → true ≡ option_eq eqb r (Some first) → AreNoneBefore (is_chosen others excluded) first (first + 1)
chosen_excluded others excluded excluded1 first r h e m is =
    let there : is_in first (any_of excluded) ≡ true = sym (is ∙ excluded_is excluded excluded1 first r h e m) in
    record {
      from = omega arith;
      none = λ n le lt. let k : first ≡ n = omega arith in subst (λ (x : ℕ). is_chosen others excluded x ≡ false) k (and_not (all_have first others) (is_in first (any_of excluded)) there);
      found = λ e2. absurd (omega arith);
    }

pub chosen_here : (others excluded excluded1 : List Planned) (first next : ℕ) (r : Option ℕ) → AreNoneBefore (λ n. all_have n others) first next → next ≤ first → AllByRecursion (λ p. IsRising p.left) excluded → r ≡ first_of (any_of excluded1)
    → excluded1 ≡ map (moved_to first) excluded → false ≡ option_eq eqb r (Some first) → AreNoneBefore (is_chosen others excluded) first first
chosen_here others excluded excluded1 first next r met le h e m is =
    let here : next ≡ first = omega (arith, met.from) in
    let have : all_have first others ≡ true = met.found here in
    let lacks : is_in first (any_of excluded) ≡ false = sym (is ∙ excluded_is excluded excluded1 first r h e m) in
    record { from = omega arith; none = λ n le2 lt. absurd (omega arith); found = λ e2. rw (have, lacks) refl }

-- ---- the others, one after the other

-- a list that is written back in the room that it was lent from
pub written_back : {A : Type 0} (n : ℕ) (xs ys : List A) → length xs ≡ n → length ys ≤ length xs → take n (xs ++ drop (length xs) ys) ≡ xs
written_back n xs ys size le = ap (λ zs. take n (xs ++ zs)) (drop_all (length xs) ys le) ∙ ap (take n) (append-nil xs) ∙ take_all n xs (omega (arith, size))

-- Those before i have the place.
pub record AreMet (first i : ℕ) (now old : List Planned) : Type 0 where
  pub within : i ≤ length old
  pub same : AreSameFrom first now old
  pub have : all_have first (take i old) ≡ true

pub met_starts : (first : ℕ) (old : List Planned) → AreMet first 0 old old
met_starts first old = record { within = omega arith; same = same_itself first old; have = refl }

both_more : (a b c : Bool) → (a && b) ≡ true → (b ≡ true → c ≡ true) → (a && c) ≡ true
both_more true b c h k = k h
both_more false b c h k = absurd cc

all_more : (n : ℕ) (ps : List Planned) (q : Planned) → all_have n ps ≡ true → is_in n q.left ≡ true → all_have n (ps ++ q ∷ []) ≡ true
all_more n [] q h k = rw k refl
all_more n (p ∷ ps) q h k = both_more (is_in n p.left) (all_have n ps) (all_have n (ps ++ q ∷ [])) h (λ e. all_more n ps q e k)

and_false : (a b : Bool) → b ≡ false → (a && b) ≡ false
and_false true b e = e
and_false false b e = refl

lacks_one : (n i : ℕ) (ps : List Planned) (d : Planned) → i < length ps → is_in n (get_or ps i d).left ≡ false → all_have n ps ≡ false
lacks_one n i [] d lt e = absurd (omega arith)
lacks_one n zero (p ∷ ps) d lt e = rw e refl
lacks_one n (suc i) (p ∷ ps) d lt e = and_false (is_in n p.left) (all_have n ps) (lacks_one n i ps d (omega arith) e)

-- what a child, which was moved to the first, tells of the one that it was
child_is : (first i : ℕ) (now old : List Planned) (child d : Planned) → AreMet first i now old → i < length now → child ≡ moved_to first (get_or now i d) → child.left ≡ from_place first (get_or old i d).left
child_is first i now old child d h lt e = ap (λ (p : Planned). p.left) e ∙ (same_at first i now old d h.same (omega (arith, same_length first now old h.same))).left

pub met_same : (first i : ℕ) (now old : List Planned) (child d : Planned) → AreMet first i now old → i < length now → child ≡ moved_to first (get_or now i d) → AreSameFrom first (set now i child) old
met_same first i now old child d h lt e =
    let k : i < length old = omega (arith, same_length first now old h.same) in
    let s = same_at first i now old d h.same k in
    let l : from_place first child.left ≡ from_place first (get_or old i d).left = ap (from_place first) (child_is first i now old child d h lt e) ∙ from_twice first first (get_or old i d).left (omega arith) in
    same_set first i now old child d h.same k (record { left = l; nodes = ap (λ (p : Planned). p.nodes) e ∙ s.nodes })

-- the same where they are written back
pub met_back : (first i : ℕ) (now old : List Planned) (child d : Planned) (n : ℕ) → AreMet first i now old → i < length now → child ≡ moved_to first (get_or now i d) → n ≡ length old → AreSameFrom first (take n (set now i child ++ drop (length (set now i child)) old)) old
met_back first i now old child d n h lt e size =
    let same = met_same first i now old child d h lt e in
    let long : length (set now i child) ≡ length old = same_length first (set now i child) old same in
    subst (λ (ps : List Planned). AreSameFrom first ps old) (sym (written_back n (set now i child) old (omega (arith, long, size)) (omega (arith, long)))) same

pub met_more : (first i : ℕ) (now old : List Planned) (child d : Planned) (next : ℕ) → AreMet first i now old → i < length now → child ≡ moved_to first (get_or now i d) → Some next ≡ first_of child.left → next ≡ first
    → AreMet first (i + 1) (set now i child) old
met_more first i now old child d next h lt e head here =
    let k : i < length old = omega (arith, same_length first now old h.same) in
    let is = child_is first i now old child d h lt e in
    let has : is_in first (get_or old i d).left ≡ true = sym (is_in_from first first (get_or old i d).left (omega arith)) ∙ ap (is_in first) (sym is) ∙ subst (λ (n : ℕ). is_in n child.left ≡ true) here (first_some child.left next (sym head)) in
    record {
      within = omega arith;
      same = met_same first i now old child d h lt e;
      have = ap (all_have first) (take_more old i d k) ∙ all_more first (take i old) (get_or old i d) h.have has;
    }

pub met_none : (first i : ℕ) (now old : List Planned) (child d : Planned) → AreMet first i now old → i < length now → child ≡ moved_to first (get_or now i d) → None ≡ first_of child.left → (n : ℕ) → first ≤ n → all_have n old ≡ false
met_none first i now old child d h lt e head n le =
    let k : i < length old = omega (arith, same_length first now old h.same) in
    let none : from_place first (get_or old i d).left ≡ [] = sym (child_is first i now old child d h lt e) ∙ first_none child.left (sym head) in
    lacks_one n i old d k (sym (is_in_from n first (get_or old i d).left le) ∙ ap (is_in n) none)

pub met_later : (first i : ℕ) (now old : List Planned) (child d : Planned) (next : ℕ) → AreMet first i now old → i < length now → child ≡ moved_to first (get_or now i d) → IsRising (get_or now i d).left → Some next ≡ first_of child.left
    → (next ≡ first → ⊥) → AreNoneBefore (λ n. all_have n old) first next
met_later first i now old child d next h lt e rises head other =
    let k : i < length old = omega (arith, same_length first now old h.same) in
    let is = child_is first i now old child d h lt e in
    let child_rises : IsRising child.left = subst (λ (p : Planned). IsRising p.left) (sym e) (rising_from first (get_or now i d).left rises) in
    let from : first ≤ next = first_from first (from_place first (get_or old i d).left) next (all_from first (get_or old i d).left) (ap first_of (sym is) ∙ sym head) in
    record {
      from = from;
      none = λ n le lt2. lacks_one n i old d k (sym (is_in_from n first (get_or old i d).left le) ∙ ap (is_in n) (sym is) ∙ before_first child.left next n child_rises (sym head) lt2);
      found = λ here. absurd (other here);
    }

pub met_all : (first i : ℕ) (now old : List Planned) → AreMet first i now old → length now ≤ i → AreNoneBefore (λ n. all_have n old) first first
met_all first i now old h le =
    let all : length old ≤ i = omega (arith, same_length first now old h.same) in
    let have : all_have first old ≡ true = ap (all_have first) (sym (take_all i old all)) ∙ h.have in
    record { from = omega arith; none = λ n le2 lt. absurd (omega arith); found = λ e. have }

pub met_nodes : (first i : ℕ) (now old : List Planned) (d : Planned) → AreMet first i now old → i < length now → (get_or now i d).nodes ≤ all_nodes old
met_nodes first i now old d h lt = omega (arith, nodes_below now i d lt, same_nodes first now old h.same)
