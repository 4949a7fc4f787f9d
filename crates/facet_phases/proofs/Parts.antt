-- A phase, session by session: the steps of the sessions one after the other.
use Rattle.std.proofs.Common.{◌≡◌, ◌∙◌, ◌⊎◌, inl, inr, ℕ, zero, suc, ◌+◌, ◌-◌, ◌<◌, ◌≤◌, eqb, true, List, [], ◌∷◌, ◌++◌, length, take, get_or, refl, sym, ap, subst, arith, append-nil, append_assoc, ne_eqb, eqb-true}
use Rattle.std.specs.Prelude.{All, flat_map, ◌≢◌}
use Rattle.std.specs.List.{range_with_len}
use Rattle.std.proofs.lemmas.List.Elements.{All-head, All-tail, All-take, All-weaker, filter-append, filter_passes}
use native.Mathlib.Decide.{dec_lt}
use mathlib.Core.Logic.{dite}
use Rattle.facet_words.specs.Commands.{Settings, Order}
use Rattle.facet_output.specs.Answered.{by_session}
use Rattle.facet_output.specs.Held.{Held}
use Rattle.facet_output.specs.Seen.{Seen, IsTold}
use Rattle.facet_output.specs.Sessions.{SessionRan, own_steps, is_by, steps_of}
use Rattle.facet_output.specs.Steps.{Step}
use Rattle.facet_phases.specs.Phases.{asked, in_phase, orders_by}
use Rattle.facet_phases.proofs.Stepping.{AreBy, are_by, own_all, own_none, asked_append, in_phase_append}

-- the orders of a session are its orders
pub orders_are_by : (session : ℕ) (orders : List Order) → All (λ (o : Order). o.session ≡ session) (orders_by session orders)
orders_are_by session orders = All-weaker (λ (o : Order). eqb o.session session ≡ true) (λ (o : Order). o.session ≡ session) (λ o e. eqb-true o.session session e) (orders_by session orders)
    (filter_passes (λ (o : Order). eqb o.session session) orders)

module _ (settings : Settings) (phase : ℕ) (dealt : List Order) (held : ℕ → Held) (known next : Seen) where
  -- the steps of one session: of its orders the first
  pub record IsPart (session : ℕ) (steps : List Step) : Type 0 where
    pub many : ℕ
    pub asked : asked steps ≡ in_phase phase (take many (orders_by session dealt))
    pub ran : SessionRan settings session (held session) known steps next

  -- the steps of sessions from a number on
  abbrev pub AreParts : ℕ → List (List Step) → Type 0
  AreParts from [] = Unit {0}
  AreParts from (steps ∷ parts) = IsPart from steps × AreParts (from + 1) parts

  part_by : (session : ℕ) (steps : List Step) → IsPart session steps → AreBy session steps
  part_by session steps part = are_by session phase steps (take part.many (orders_by session dealt)) part.asked
      (All-take (λ (o : Order). o.session ≡ session) part.many (orders_by session dealt) (orders_are_by session dealt))

  -- a session whose number is not among theirs has no step
  pub none_own : (session from : ℕ) (parts : List (List Step)) → AreParts from parts → ((i : ℕ) → i < length parts → session ≢ from + i) → own_steps session (steps_of parts) ≡ []
  none_own session from [] are apart = refl
  none_own session from (steps ∷ parts) are apart =
      let here : session ≢ from = λ e. apart 0 (omega arith) (omega arith) in
      filter-append (is_by session) steps (steps_of parts)
      ∙ (λ i. own_none session from steps here (part_by from steps are.0) i ++ none_own session (from + 1) parts are.1 (λ k lt e. apart (suc k) (omega arith) (omega arith)) i)

  -- the steps of one are its part
  pub own_part : (from : ℕ) (parts : List (List Step)) → AreParts from parts → (i : ℕ) (d : List Step) → i < length parts → IsPart (from + i) (get_or parts i d) × (own_steps (from + i) (steps_of parts) ≡ get_or parts i d)
  own_part from [] are i d lt = absurd (omega arith)
  own_part from (steps ∷ parts) are zero d lt =
      let same : from ≡ from + 0 = omega arith in
      subst (λ (n : ℕ). IsPart n steps × (own_steps n (steps_of (steps ∷ parts)) ≡ steps)) same
      (are.0, filter-append (is_by from) steps (steps_of parts) ∙ (λ i. own_all from steps (part_by from steps are.0) i ++ none_own from (from + 1) parts are.1 (λ k lt e. absurd (omega arith)) i) ∙ append-nil steps)
  own_part from (steps ∷ parts) are (suc i) d lt =
      let same : from + 1 + i ≡ from + suc i = omega arith in
      let rest = own_part (from + 1) parts are.1 i d (omega arith) in
      let apart : from + 1 + i ≢ from = λ e. absurd (omega arith) in
      subst (λ (n : ℕ). IsPart n (get_or parts i d) × (own_steps n (steps_of (steps ∷ parts)) ≡ get_or parts i d)) same
      (rest.0, filter-append (is_by (from + 1 + i)) steps (steps_of parts) ∙ (λ j. own_none (from + 1 + i) from steps apart (part_by from steps are.0) j ++ rest.1 j))

  -- what is so of the steps of each session, and of none where none is its own, is so of its steps of the phase
  own_so : (P : ℕ → List Step → Type 0) (parts : List (List Step)) → AreParts 1 parts → ((session : ℕ) (steps : List Step) → IsPart session steps → P session steps)
      → ((session : ℕ) → (session ≡ 0) ⊎ (length parts < session) → P session []) → (session : ℕ) → P session (own_steps session (steps_of parts))
  own_so P parts are each none session =
      dite (dec_lt 0 session)
      (λ above. dite (dec_lt (length parts) session)
      (λ beyond. subst (P session) (sym (none_own session 1 parts are (λ i lt e. absurd (omega arith)))) (none session (inr beyond)))
      (λ within.
      let at : 1 + (session - 1) ≡ session = omega arith in
      let own = own_part 1 parts are (session - 1) [] (omega arith) in
      subst (λ (n : ℕ). P n (own_steps n (steps_of parts))) at (subst (P (1 + (session - 1))) (sym own.1) (each (1 + (session - 1)) (get_or parts (session - 1) []) own.0))))
      (λ zero. subst (P session) (sym (none_own session 1 parts are (λ i lt e. absurd (omega arith)))) (none session (inl (omega arith))))

  -- the sessions ran
  pub sessions_ran : (parts : List (List Step)) → AreParts 1 parts → ((session : ℕ) → (session ≡ 0) ⊎ (length parts < session) → IsTold session known next)
      → (session : ℕ) → SessionRan settings session (held session) known (own_steps session (steps_of parts)) next
  sessions_ran parts are others = own_so (λ n steps. SessionRan settings n (held n) known steps next) parts are (λ n steps part. part.ran) others

  -- each of them the first of its orders
  pub sessions_asked : (parts : List (List Step)) → AreParts 1 parts → (session : ℕ) → (many : ℕ) × (asked (own_steps session (steps_of parts)) ≡ in_phase phase (take many (orders_by session dealt)))
  sessions_asked parts are = own_so (λ n steps. (many : ℕ) × (asked steps ≡ in_phase phase (take many (orders_by n dealt)))) parts are (λ n steps part. (part.many, part.asked)) (λ n other. (0, refl))

-- ---- all orders

-- the orders of so many sessions from a number on, the sessions rising
abbrev pub orders_from : ℕ → ℕ → List Order → List Order
orders_from from count orders = flat_map (λ session. orders_by session orders) (range_with_len from count)

-- the steps are for all orders of each session
abbrev pub AreWhole : ℕ → ℕ → List Order → List (List Step) → Type 0
AreWhole phase from dealt [] = Unit {0}
AreWhole phase from dealt (steps ∷ parts) = (asked steps ≡ in_phase phase (orders_by from dealt)) × AreWhole phase (from + 1) dealt parts

pub asked_whole : (phase from : ℕ) (dealt : List Order) (parts : List (List Step)) → AreWhole phase from dealt parts → asked (steps_of parts) ≡ in_phase phase (orders_from from (length parts) dealt)
asked_whole phase from dealt [] whole = refl
asked_whole phase from dealt (steps ∷ parts) whole =
    asked_append steps (steps_of parts) ∙ (λ i. whole.0 i ++ asked_whole phase (from + 1) dealt parts whole.1 i) ∙ sym (in_phase_append phase (orders_by from dealt) (orders_from (from + 1) (length parts) dealt))

-- a session of which no order is has none
pub none_by : (session : ℕ) (orders : List Order) → All (λ (o : Order). o.session ≢ session) orders → orders_by session orders ≡ []
none_by session [] all = refl
none_by session (o ∷ orders) all =
    rw (ne_eqb o.session session (All-head (λ (o : Order). o.session ≢ session) o orders all)) (none_by session orders (All-tail (λ (o : Order). o.session ≢ session) o orders all))

-- behind the last session that has orders there are none
none_from : (from count : ℕ) (orders : List Order) → All (λ (o : Order). o.session < from) orders → orders_from from count orders ≡ []
none_from from zero orders all = refl
none_from from (suc count) orders all = λ i. none_by from orders (All-weaker (λ (o : Order). o.session < from) (λ (o : Order). o.session ≢ from) (λ o lt e. absurd (omega arith)) orders all) i ++ none_from (from + 1) count orders (All-weaker (λ (o : Order). o.session < from) (λ (o : Order). o.session < from + 1) (λ o lt. omega arith) orders all) i

split_from : (from count more : ℕ) (orders : List Order) → orders_from from (count + more) orders ≡ orders_from from count orders ++ orders_from (from + count) more orders
split_from from zero more orders =
    let none : zero + more ≡ more = omega arith in
    let same : from ≡ from + 0 = omega arith in
    ap (λ (n : ℕ). orders_from from n orders) none ∙ ap (λ (n : ℕ). orders_from n more orders) same
split_from from (suc count) more orders =
    let on : suc count + more ≡ suc (count + more) = omega arith in
    let same : from + 1 + count ≡ from + suc count = omega arith in
    ap (λ (n : ℕ). orders_from from n orders) on
    ∙ ap (λ (l : List Order). orders_by from orders ++ l) (split_from (from + 1) count more orders ∙ ap (λ (n : ℕ). orders_from (from + 1) count orders ++ orders_from n more orders) same)
    ∙ sym (append_assoc (orders_by from orders) (orders_from (from + 1) count orders) (orders_from (from + suc count) more orders))

-- the orders of at most 64 sessions, as they are written
pub all_by_session : (count : ℕ) (orders : List Order) → count ≤ 64 → All (λ (o : Order). o.session ≤ count) orders → by_session orders ≡ orders_from 1 count orders
all_by_session count orders few all =
    let on : 64 ≡ count + (64 - count) = omega arith in
    ap (λ (n : ℕ). orders_from 1 n orders) on ∙ split_from 1 count (64 - count) orders
    ∙ ap (λ (l : List Order). orders_from 1 count orders ++ l) (none_from (1 + count) (64 - count) orders (All-weaker (λ (o : Order). o.session ≤ count) (λ (o : Order). o.session < 1 + count) (λ o le. omega arith) orders all))
    ∙ append-nil (orders_from 1 count orders)

pub phase_asked : (phase : ℕ) (dealt : List Order) (parts : List (List Step)) → length parts ≤ 64 → All (λ (o : Order). o.session ≤ length parts) dealt → AreWhole phase 1 dealt parts → asked (steps_of parts) ≡ in_phase phase (by_session dealt)
phase_asked phase dealt parts few all whole = asked_whole phase 1 dealt parts whole ∙ ap (in_phase phase) (sym (all_by_session (length parts) dealt few all))
