-- The orders of a session, as they are written, come after one another.
use Rattle.std.proofs.Common.{◌≡◌, ◌⊎◌, inl, inr, ⊎_elim, ℕ, zero, suc, ◌+◌, ◌≤◌, ◌<◌, Bool, true, false, cond, List, [], ◌∷◌, ◌++◌, map, refl, sym, ap, ◌∙◌, subst, arith}
use Rattle.std.specs.Prelude.{◌==◌, nat_lt, AllPairs, All, IsTrue, filter, flat_map}
use Rattle.std.specs.List.{enumerate_from, range_with_len, list_all}
use Rattle.std.proofs.lemmas.Bool.{eqb-true, eq-eqb, lt-ltb, or_left, or_right, and_from, and_parts, ltb-true}
use Rattle.std.proofs.lemmas.List.Elements.{All-head, All-tail}
use Rattle.std.proofs.lemmas.List.Kept.{AllPairs-cons}
use Rattle.facet_words.specs.Commands.{Order}
use Rattle.facet_output.specs.Answered.{comes_after, by_session, in_writing_order}
use Rattle.facet_output.specs.Steps.{Step}
use Rattle.facet_output.specs.Sessions.{own_steps, is_by}
use Rattle.facet_words.specs.ScriptOrder.{lines_rise}
use Rattle.facet_output.specs.OneSession.{HasOneSession}
use Rattle.facet_output.proofs.Among.{In, of_all, of_filter, of_append, in_map, of_map}

-- ---- a relation of each with each later one, by recursion

module _ {A : Type 0} (R : A → A → Type 0) where
  abbrev pub Later : List A → Type 0
  Later [] = Unit {0}
  Later (x ∷ xs) = ((y : A) → In y xs → R x y) × Later xs

  later_append : (xs ys : List A) → Later xs → Later ys → ((x y : A) → In x xs → In y ys → R x y) → Later (xs ++ ys)
  later_append [] ys p q cross = q
  later_append (x ∷ xs) ys p q cross = ((λ y there. ⊎_elim (λ l. p.0 y l) (λ r. cross x y (inl refl) r) (of_append xs ys y there)), later_append xs ys p.1 q (λ x y there. cross x y (inr there)))

  later_filter : (p : A → Bool) (xs : List A) → Later xs → Later (filter p xs)
  later_filter p [] l = tt
  later_filter p (x ∷ xs) l = by (p x) (later_filter p xs l.1)
    where
      by : (b : Bool) → Later (filter p xs) → Later (cond b (x ∷ filter p xs) (filter p xs))
      by true rest = ((λ y there. l.0 y (of_filter p xs y there).0), rest)
      by false rest = rest

  pairs_later : (xs : List A) → Later xs → AllPairs R xs
  pairs_later [] l = λ i j d lt below. absurd (omega arith)
  pairs_later (x ∷ xs) l = AllPairs-cons R x xs (each xs l.0) (pairs_later xs l.1)
    where
      each : (ys : List A) → ((y : A) → In y ys → R x y) → All (R x) ys
      each [] h k d lt = absurd (omega arith)
      each (y ∷ ys) h zero d lt = h y (inl refl)
      each (y ∷ ys) h (suc k) d lt = each ys (λ z there. h z (inr there)) k d (omega arith)

pub later_weaker : {A : Type 0} (R S : A → A → Type 0) (xs : List A) → ((x y : A) → In x xs → In y xs → R x y → S x y) → Later R xs → Later S xs
later_weaker R S [] so l = tt
later_weaker R S (x ∷ xs) so l = ((λ y there. so x y (inl refl) (inr there) (l.0 y there)), later_weaker R S xs (λ a b there there'. so a b (inr there) (inr there')) l.1)

later_map : {A B : Type 0} (f : A → B) (R : B → B → Type 0) (xs : List A) → Later (λ x y. R (f x) (f y)) xs → Later R (map f xs)
later_map f R [] l = tt
later_map f R (x ∷ xs) l = ((λ y there. let r = of_map f xs y there in subst (R (f x)) (sym r.2) (l.0 r.0 r.1)), later_map f R xs l.1)

pub of_later_map : {A B : Type 0} (f : A → B) (R : B → B → Type 0) (xs : List A) → Later R (map f xs) → Later (λ x y. R (f x) (f y)) xs
of_later_map f R [] l = tt
of_later_map f R (x ∷ xs) l = ((λ y there. l.0 (f y) (in_map f xs y there)), of_later_map f R xs l.1)

-- ---- one phase

abbrev IsBelow : Order → Order → Type 0
IsBelow o p = o.line < p.line

lines_below : (orders : List Order) → lines_rise orders ≡ true → Later IsBelow orders
lines_below [] rise = tt
lines_below (o ∷ []) rise = ((λ p there. absurd there), tt)
lines_below (o ∷ p ∷ orders) rise =
    let both = and_parts (nat_lt o.line p.line) (lines_rise (p ∷ orders)) rise in
    let lt : o.line < p.line = ltb-true o.line p.line both.0 in
    let rest = lines_below (p ∷ orders) both.1 in
    ((λ q there. ⊎_elim (λ is. let e = ap (λ (r : Order). r.line) is in omega arith) (λ later. let l = rest.0 q later in omega arith) there), rest)

-- of one session, the later line stands behind
abbrev IsBehind : Order → Order → Type 0
IsBehind o p = o.session ≡ p.session → o.line < p.line

abbrev of_sessions : ℕ → ℕ → List Order → List Order
of_sessions first more orders = flat_map (λ session. filter (λ o. o.session == session) orders) (range_with_len first more)

session_from : (first more : ℕ) (orders : List Order) (o : Order) → In o (of_sessions first more orders) → first ≤ o.session
session_from first zero orders o there = absurd there
session_from first (suc more) orders o there = ⊎_elim
    (λ here. let e = eqb-true o.session first (of_filter (λ o. o.session == first) orders o here).1 in omega arith)
    (λ behind. let l = session_from (first + 1) more orders o behind in omega arith)
    (of_append (filter (λ o. o.session == first) orders) (of_sessions (first + 1) more orders) o there)

by_rising : (first more : ℕ) (orders : List Order) → Later IsBelow orders → Later IsBehind (of_sessions first more orders)
by_rising first zero orders rise = tt
by_rising first (suc more) orders rise = later_append IsBehind (filter (λ o. o.session == first) orders) (of_sessions (first + 1) more orders)
    (later_weaker IsBelow IsBehind (filter (λ o. o.session == first) orders) (λ o p there there' lt same. lt)
    (later_filter IsBelow (λ o. o.session == first) orders rise))
    (by_rising (first + 1) more orders rise)
    (λ o p here behind same. let e = eqb-true o.session first (of_filter (λ o. o.session == first) orders o here).1 in let l = session_from (first + 1) more orders p behind in absurd (omega arith))

-- ---- all phases

abbrev pub IsAfter : ℕ × Order → ℕ × Order → Type 0
IsAfter x y = x.1.session ≡ y.1.session → (x.0 < y.0) ⊎ ((x.0 ≡ y.0) × (x.1.line < y.1.line))

abbrev pub from_phase : ℕ → List (List Order) → List (ℕ × Order)
from_phase n phases = flat_map (λ e. map {B = ℕ × Order} (λ o. (e.0, o)) (by_session e.1)) (enumerate_from n phases)

phase_from : (n : ℕ) (phases : List (List Order)) (x : ℕ × Order) → In x (from_phase n phases) → n ≤ x.0
phase_from n [] x there = absurd there
phase_from n (orders ∷ phases) x there = ⊎_elim
    (λ here. let r = of_map {B = ℕ × Order} (λ (o : Order). (n, o)) (by_session orders) x here in let e = ap (λ (y : ℕ × Order). y.0) r.2 in omega arith)
    (λ behind. let l = phase_from (n + 1) phases x behind in omega arith)
    (of_append (map {B = ℕ × Order} (λ o. (n, o)) (by_session orders)) (from_phase (n + 1) phases) x there)

pub phases_rising : (n : ℕ) (phases : List (List Order)) → list_all lines_rise phases ≡ true → Later IsAfter (from_phase n phases)
phases_rising n [] rise = tt
phases_rising n (orders ∷ phases) rise = later_append IsAfter (map {B = ℕ × Order} (λ o. (n, o)) (by_session orders)) (from_phase (n + 1) phases)
    (later_map {B = ℕ × Order} (λ (o : Order). (n, o)) IsAfter (by_session orders)
    (later_weaker IsBehind (λ o p. IsAfter (n, o) (n, p)) (by_session orders) (λ o p there there' behind same. inr (refl, behind same)) (by_rising 1 64 orders (lines_below orders (and_parts (lines_rise orders) (list_all lines_rise phases) rise).0))))
    (phases_rising (n + 1) phases (and_parts (lines_rise orders) (list_all lines_rise phases) rise).1)
    (λ x y here behind same. let r = of_map {B = ℕ × Order} (λ (o : Order). (n, o)) (by_session orders) x here in let e = ap (λ (y : ℕ × Order). y.0) r.2 in let l = phase_from (n + 1) phases y behind in inl (omega arith))

-- ---- each phase behind those before it

abbrev pub IsBeyond : ℕ × Order → ℕ × Order → Type 0
IsBeyond x y = (x.0 < y.0) ⊎ ((x.0 ≡ y.0) × (x.1.session ≡ y.1.session → x.1.line < y.1.line))

pub phases_beyond : (n : ℕ) (phases : List (List Order)) → list_all lines_rise phases ≡ true → Later IsBeyond (from_phase n phases)
phases_beyond n [] rise = tt
phases_beyond n (orders ∷ phases) rise = later_append IsBeyond (map {B = ℕ × Order} (λ o. (n, o)) (by_session orders)) (from_phase (n + 1) phases)
    (later_map {B = ℕ × Order} (λ (o : Order). (n, o)) IsBeyond (by_session orders)
    (later_weaker IsBehind (λ o p. IsBeyond (n, o) (n, p)) (by_session orders) (λ o p there there' behind. inr (refl, behind)) (by_rising 1 64 orders (lines_below orders (and_parts (lines_rise orders) (list_all lines_rise phases) rise).0))))
    (phases_beyond (n + 1) phases (and_parts (lines_rise orders) (list_all lines_rise phases) rise).1)
    (λ x y here behind. let r = of_map {B = ℕ × Order} (λ (o : Order). (n, o)) (by_session orders) x here in let e = ap (λ (y : ℕ × Order). y.0) r.2 in let l = phase_from (n + 1) phases y behind in inl (omega arith))

-- ---- at most one session a phase

of_one_session : (session first more : ℕ) (orders : List Order) → list_all (λ o. o.session == session) orders ≡ true → (o : Order) → In o (of_sessions first more orders) → o.session ≡ session
of_one_session session first zero orders one o there = absurd there
of_one_session session first (suc more) orders one o there = ⊎_elim
    (λ here. eqb-true o.session session (of_all (λ o. o.session == session) orders o one (of_filter (λ o. o.session == first) orders o here).0))
    (λ behind. of_one_session session (first + 1) more orders one o behind)
    (of_append (filter (λ o. o.session == first) orders) (of_sessions (first + 1) more orders) o there)

-- of two orders of one phase, the sessions are the same
pub alone_in_phase : (n : ℕ) (phases : List (List Order)) → All HasOneSession phases → (x y : ℕ × Order) → In x (from_phase n phases) → In y (from_phase n phases) → x.0 ≡ y.0 → x.1.session ≡ y.1.session
alone_in_phase n [] one x y there there' same = absurd there
alone_in_phase n (orders ∷ phases) one x y there there' same =
    let head : HasOneSession orders = All-head HasOneSession orders phases one in
    let phase_of : (z : ℕ × Order) → In z (map {B = ℕ × Order} (λ (o : Order). (n, o)) (by_session orders)) → (z.0 ≡ n) × (z.1.session ≡ head.0) =
    λ z here. (let r = of_map {B = ℕ × Order} (λ (o : Order). (n, o)) (by_session orders) z here in
    (ap (λ (y : ℕ × Order). y.0) r.2, ap (λ (y : ℕ × Order). y.1.session) r.2 ∙ of_one_session head.0 1 64 orders head.1 r.0 r.1)) in
    ⊎_elim
    (λ here. ⊎_elim
    (λ here'. (phase_of x here).1 ∙ sym (phase_of y here').1)
    (λ behind'. let e = (phase_of x here).0 in let l = phase_from (n + 1) phases y behind' in absurd (omega arith))
    (of_append (map {B = ℕ × Order} (λ (o : Order). (n, o)) (by_session orders)) (from_phase (n + 1) phases) y there'))
    (λ behind. ⊎_elim
    (λ here'. let e = (phase_of y here').0 in let l = phase_from (n + 1) phases x behind in absurd (omega arith))
    (λ behind'. alone_in_phase (n + 1) phases (All-tail HasOneSession orders phases one) x y behind behind' same)
    (of_append (map {B = ℕ × Order} (λ (o : Order). (n, o)) (by_session orders)) (from_phase (n + 1) phases) y there'))
    (of_append (map {B = ℕ × Order} (λ (o : Order). (n, o)) (by_session orders)) (from_phase (n + 1) phases) x there)

-- ---- steps

abbrev key : Step → ℕ × Order
key x = (x.answered.phase, x.answered.order)

after_key : (x y : Step) → IsAfter (key x) (key y) → x.answered.order.session ≡ y.answered.order.session → comes_after y.answered x.answered ≡ true
after_key x y after same = ⊎_elim
    (λ lt. or_left (nat_lt x.answered.phase y.answered.phase) _ (lt-ltb x.answered.phase y.answered.phase lt))
    (λ p. or_right (nat_lt x.answered.phase y.answered.phase) _ (and_from _ _ (and_from _ _ (eq-eqb x.answered.phase y.answered.phase p.0) (eq-eqb x.answered.order.session y.answered.order.session same)) (lt-ltb x.answered.order.line y.answered.order.line p.1)))
    (after same)

pub steps_in_order : (session : ℕ) (phases : List (List Order)) (steps : List Step) → map (λ (x : Step). (x.answered.phase, x.answered.order)) steps ≡ in_writing_order phases → list_all lines_rise phases ≡ true
    → AllPairs (λ (x y : Step). IsTrue (comes_after y.answered x.answered)) (own_steps session steps)
steps_in_order session phases steps asked rise =
    let whole : Later IsAfter (map key steps) = subst (Later IsAfter) (sym asked) (phases_rising 0 phases rise) in
    let own = later_filter (λ (x y : Step). IsAfter (key x) (key y)) (is_by session) steps (of_later_map key IsAfter steps whole) in
    pairs_later (λ (x y : Step). IsTrue (comes_after y.answered x.answered)) (own_steps session steps)
    (later_weaker (λ (x y : Step). IsAfter (key x) (key y)) (λ (x y : Step). IsTrue (comes_after y.answered x.answered)) (own_steps session steps)
    (λ x y there there' after. after_key x y after (eqb-true x.answered.order.session session (of_filter (is_by session) steps x there).1 ∙ sym (eqb-true y.answered.order.session session (of_filter (is_by session) steps y there').1))) own)
