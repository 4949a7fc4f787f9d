-- The part of a phase that was carried out, where sessions stopped: of each session the first of its orders.
use Rattle.std.proofs.Common.{◌≡◌, ◌≢◌, ◌∙◌, ◌⊎◌, inl, inr, ⊎_elim, ℕ, zero, suc, ◌+◌, ◌-◌, ◌<◌, ◌≤◌, true, List, [], ◌∷◌, length, take, refl, sym, ap, subst, arith, eq-eqb, ne_eqb}
use Rattle.std.specs.Prelude.{◌==◌, nat_lt, All, if◌then◌else◌}
use Rattle.std.proofs.lemmas.Bool.{and_from, and_parts, lt-ltb, ltb-true}
use Rattle.std.proofs.lemmas.List.Elements.{All-nil, All-cons, All-head, All-tail, All-weaker}
use native.Mathlib.Decide.{ℕ_discrete}
use mathlib.Core.Logic.{dite}
use Rattle.chronicle.specs.Frame.{Frame}
use Rattle.facet_words.specs.Commands.{Settings, Order}
use Rattle.facet_words.specs.ScriptOrder.{lines_rise}
use Rattle.facet_output.specs.Held.{Held}
use Rattle.facet_output.specs.Seen.{Seen, IsTold}
use Rattle.facet_output.specs.Answered.{by_session}
use Rattle.facet_output.specs.Sessions.{SessionRan, held_by, own_steps, steps_of}
use Rattle.facet_output.specs.Steps.{Step}
use Rattle.facet_phases.specs.Phases.{AreSpentWithin, PhaseRan, asked, in_phase, orders_by}
use Rattle.facet_phases.specs.Runs.{HasFirstOf}
use Rattle.facet_phases.proofs.Spent.{spent_none, spent_append, spent_own}
use Rattle.facet_phases.proofs.Parts.{AreParts, AreWhole, none_by, phase_asked, sessions_ran}

-- ---- the orders

-- one fewer for this session
abbrev less : ℕ → (ℕ → ℕ) → ℕ → ℕ
less session rooms s = if s == session then rooms s - 1 else rooms s

abbrev one_cut : ℕ → Order → List Order → List Order → List Order
one_cut zero o kept left = left
one_cut (suc room) o kept left = o ∷ kept

-- of each session as many as it has room for
abbrev pub cut_to : (ℕ → ℕ) → List Order → List Order
cut_to rooms [] = []
cut_to rooms (o ∷ orders) = one_cut (rooms o.session) o (cut_to (less o.session rooms) orders) (cut_to rooms orders)

less_own : (rooms : ℕ → ℕ) (session : ℕ) → less session rooms session ≡ rooms session - 1
less_own rooms session = rw (eq-eqb session session refl) refl

less_other : (rooms : ℕ → ℕ) (session s : ℕ) → s ≢ session → less session rooms s ≡ rooms s
less_other rooms session s apart = rw (ne_eqb s session apart) refl

own_first : (s : ℕ) (o : Order) (room : ℕ) (kept left orders : List Order) → o.session ≡ s → orders_by s kept ≡ take (room - 1) (orders_by s orders) → orders_by s left ≡ take room (orders_by s orders)
    → orders_by s (one_cut room o kept left) ≡ take room (orders_by s (o ∷ orders))
own_first s o zero kept left orders is some none = none
own_first s o (suc room) kept left orders is some none =
    let less : suc room - 1 ≡ room = omega arith in
    rw (eq-eqb o.session s is) (ap (λ (l : List Order). o ∷ l) (some ∙ ap (λ (n : ℕ). take n (orders_by s orders)) less))

other_first : (s : ℕ) (o : Order) (room n : ℕ) (kept left orders : List Order) → o.session ≢ s → orders_by s kept ≡ take n (orders_by s orders) → orders_by s left ≡ take n (orders_by s orders)
    → orders_by s (one_cut room o kept left) ≡ take n (orders_by s (o ∷ orders))
other_first s o zero n kept left orders apart some none = rw (ne_eqb o.session s apart) none
other_first s o (suc room) n kept left orders apart some none = rw (ne_eqb o.session s apart) some

pub cut_first : (rooms : ℕ → ℕ) (orders : List Order) (s : ℕ) → orders_by s (cut_to rooms orders) ≡ take (rooms s) (orders_by s orders)
cut_first rooms [] s = none (rooms s)
  where
    none : (n : ℕ) → ◌≡◌ {A = List Order} [] (take n [])
    none zero = refl
    none (suc n) = refl
cut_first rooms (o ∷ orders) s = dite (ℕ_discrete o.session s)
    (λ is. subst (λ (n : ℕ). orders_by n (cut_to rooms (o ∷ orders)) ≡ take (rooms n) (orders_by n (o ∷ orders))) is
    (own_first o.session o (rooms o.session) (cut_to (less o.session rooms) orders) (cut_to rooms orders) orders refl
    (cut_first (less o.session rooms) orders o.session ∙ ap (λ (n : ℕ). take n (orders_by o.session orders)) (less_own rooms o.session)) (cut_first rooms orders o.session)))
    (λ apart. other_first s o (rooms o.session) (rooms s) (cut_to (less o.session rooms) orders) (cut_to rooms orders) orders apart
    (cut_first (less o.session rooms) orders s ∙ ap (λ (n : ℕ). take n (orders_by s orders)) (less_other rooms o.session s (λ e. apart (sym e)))) (cut_first rooms orders s))

-- ---- what is so of all orders is so of those

one_all : (P : Order → Type 0) (room : ℕ) (o : Order) (kept left : List Order) → P o → All P kept → All P left → All P (one_cut room o kept left)
one_all P zero o kept left here some none = none
one_all P (suc room) o kept left here some none = All-cons P o kept here some

pub cut_all : (P : Order → Type 0) (rooms : ℕ → ℕ) (orders : List Order) → All P orders → All P (cut_to rooms orders)
cut_all P rooms [] all = All-nil P
cut_all P rooms (o ∷ orders) all = one_all P (rooms o.session) o (cut_to (less o.session rooms) orders) (cut_to rooms orders) (All-head P o orders all)
    (cut_all P (less o.session rooms) orders (All-tail P o orders all)) (cut_all P rooms orders (All-tail P o orders all))

all_later : (o : Order) (orders : List Order) → lines_rise (o ∷ orders) ≡ true → All (λ (p : Order). o.line < p.line) orders
all_later o [] rise = All-nil (λ (p : Order). o.line < p.line)
all_later o (p ∷ orders) rise =
    let both = and_parts (nat_lt o.line p.line) (lines_rise (p ∷ orders)) rise in
    let here : o.line < p.line = ltb-true o.line p.line both.0 in
    All-cons (λ (q : Order). o.line < q.line) p orders here (All-weaker (λ (q : Order). p.line < q.line) (λ (q : Order). o.line < q.line) (λ q lt. omega arith) orders (all_later p orders both.1))

rise_tail : (o : Order) (orders : List Order) → lines_rise (o ∷ orders) ≡ true → lines_rise orders ≡ true
rise_tail o [] rise = refl
rise_tail o (p ∷ orders) rise = (and_parts (nat_lt o.line p.line) (lines_rise (p ∷ orders)) rise).1

rise_cons : (o : Order) (orders : List Order) → All (λ (p : Order). o.line < p.line) orders → lines_rise orders ≡ true → lines_rise (o ∷ orders) ≡ true
rise_cons o [] later rise = refl
rise_cons o (p ∷ orders) later rise = and_from _ _ (lt-ltb o.line p.line (All-head (λ (q : Order). o.line < q.line) p orders later)) rise

one_rises : (room : ℕ) (o : Order) (kept left : List Order) → All (λ (p : Order). o.line < p.line) kept → lines_rise kept ≡ true → lines_rise left ≡ true → lines_rise (one_cut room o kept left) ≡ true
one_rises zero o kept left later some none = none
one_rises (suc room) o kept left later some none = rise_cons o kept later some

pub cut_rises : (rooms : ℕ → ℕ) (orders : List Order) → lines_rise orders ≡ true → lines_rise (cut_to rooms orders) ≡ true
cut_rises rooms [] rise = refl
cut_rises rooms (o ∷ orders) rise = one_rises (rooms o.session) o (cut_to (less o.session rooms) orders) (cut_to rooms orders)
    (cut_all (λ (p : Order). o.line < p.line) (less o.session rooms) orders (all_later o orders rise)) (cut_rises (less o.session rooms) orders (rise_tail o orders rise)) (cut_rises rooms orders (rise_tail o orders rise))

-- ---- the steps, as they are written

no_steps : (phase : ℕ) (steps : List Step) (orders : List Order) → asked steps ≡ in_phase phase orders → orders ≡ [] → steps ≡ []
no_steps phase [] orders is none = refl
no_steps phase (x ∷ steps) orders is none = absurd (let e = is ∙ ap (in_phase phase) none in cc)

module _ (settings : Settings) (frame : Frame) (ran : List (List Step)) (phase : ℕ) (known next : Seen) (orders : List Order) (steps : List Step) (short : PhaseRan settings frame ran phase known next orders steps) where
  abbrev pub cut : List Order
  cut = cut_to (λ session. (short.asked session).0) orders

  abbrev held : ℕ → Held
  held session = held_by [] (own_steps session (steps_of ran))

  -- those of so many sessions from a number on
  abbrev pub parts_from : ℕ → ℕ → List (List Step)
  parts_from from zero = []
  parts_from from (suc count) = own_steps from steps ∷ parts_from (from + 1) count

  parts_many : (from count : ℕ) → length (parts_from from count) ≡ count
  parts_many from zero = refl
  parts_many from (suc count) = ap suc (parts_many (from + 1) count)

  are_parts : (from count : ℕ) → AreParts settings phase orders held known next from (parts_from from count)
  are_parts from zero = tt
  are_parts from (suc count) = (record { many = (short.asked from).0; asked = (short.asked from).1; ran = short.sessions from }, are_parts (from + 1) count)

  pub has_first : HasFirstOf orders cut
  has_first session = ((short.asked session).0, cut_first (λ s. (short.asked s).0) orders session)

  are_whole : (from count : ℕ) → AreWhole phase from cut (parts_from from count)
  are_whole from zero = tt
  are_whole from (suc count) = ((short.asked from).1 ∙ ap (in_phase phase) (sym (cut_first (λ s. (short.asked s).0) orders from)), are_whole (from + 1) count)

  -- under another number nobody entered anything
  others : (count : ℕ) → All (λ (o : Order). (1 ≤ o.session) × (o.session ≤ count)) orders → (session : ℕ) → (session ≡ 0) ⊎ (count < session) → IsTold session known next
  others count within session which =
      let none : orders_by session orders ≡ [] = ⊎_elim
      (λ is. none_by session orders (All-weaker (λ (o : Order). (1 ≤ o.session) × (o.session ≤ count)) (λ (o : Order). o.session ≢ session) (λ o w e. absurd (let a = w.0 in omega arith)) orders within))
      (λ above. none_by session orders (All-weaker (λ (o : Order). (1 ≤ o.session) × (o.session ≤ count)) (λ (o : Order). o.session ≢ session) (λ o w e. absurd (let a = w.1 in omega arith)) orders within)) which in
      let empty : own_steps session steps ≡ [] = no_steps phase (own_steps session steps) (take (short.asked session).0 (orders_by session orders)) (short.asked session).1
      (ap (take (short.asked session).0) none ∙ no_take (short.asked session).0) in
      subst (λ (l : List Step). SessionRan settings session (held session) known l next) empty (short.sessions session)
    where
      no_take : (n : ℕ) → ◌≡◌ {A = List Order} (take n []) []
      no_take zero = refl
      no_take (suc n) = refl

  parts_spent : (from count : ℕ) → AreSpentWithin frame (steps_of (parts_from from count))
  parts_spent from zero = spent_none frame
  parts_spent from (suc count) = spent_append frame (own_steps from steps) (steps_of (parts_from (from + 1) count)) (spent_own frame from steps short.spent) (parts_spent (from + 1) count)

  abbrev pub cut_steps : ℕ → List Step
  cut_steps count = steps_of (parts_from 1 count)

  pub cut_spent : (count : ℕ) → AreSpentWithin frame (cut_steps count)
  cut_spent count = parts_spent 1 count

  module _ (count : ℕ) (few : count ≤ 64) (within : All (λ (o : Order). (1 ≤ o.session) × (o.session ≤ count)) orders) where
    pub cut_asked : asked (cut_steps count) ≡ in_phase phase (by_session cut)
    cut_asked =
        let many = parts_many 1 count in
        let inside : All (λ (o : Order). o.session ≤ length (parts_from 1 count)) cut = cut_all (λ (o : Order). o.session ≤ length (parts_from 1 count)) (λ s. (short.asked s).0) orders
        (All-weaker (λ (o : Order). (1 ≤ o.session) × (o.session ≤ count)) (λ (o : Order). o.session ≤ length (parts_from 1 count)) (λ o w. let a = w.1 in omega arith) orders within) in
        phase_asked phase cut (parts_from 1 count) (omega arith) inside (are_whole 1 count)

    pub cut_sessions : (session : ℕ) → SessionRan settings session (held_by [] (own_steps session (steps_of ran))) known (own_steps session (cut_steps count)) next
    cut_sessions = sessions_ran settings phase orders held known next (parts_from 1 count) (are_parts 1 count)
        (λ session which. others count within session (⊎_elim (λ is. inl is) (λ above. inr (let many = parts_many 1 count in omega arith)) which))
