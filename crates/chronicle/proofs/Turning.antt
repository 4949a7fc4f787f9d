-- The steps of a turn keep the rule: a ticket is drawn, the ticket that is served is read, the slot goes out and comes home, an entry is added, and the turn passes on.
use Rattle.std.proofs.Math.Nat.{add-mod, mod-mod, mod-eq_of_lt}
use Rattle.std.proofs.lemmas.List.Elements.{All-push}
use Rattle.std.proofs.Common.{◌≡◌, ℕ, ◌+◌, ◌%◌, ◌^◌, ◌<◌, ◌≤◌, eqb, ◌≢◌, inl, inr, true, false, List, [], ◌∷◌, ◌++◌, get_or, set, sym, refl, ap, ◌∙◌, subst, ⊎_elim, arith, Option, Some, None, length-append}
use mathlib.Core.Logic.{dite}
use mathlib.Core.Option.{none, some, some-injective}
use mathlib.Core.List.{IsPrefix}
use native.Mathlib.Decide.{ℕ_discrete}
use lib.ListN.{get_elem?}
use lib.Seq.{set-get_or}
use prog.Atomic.{either}
use Rattle.std.specs.declared.snapshot.Snapshot.{Snapshot}
use Rattle.atomic_table.specs.Table.{Me, rest, keeps, takes, gives, step, stepped, Allows}
use Rattle.atomic_table.proofs.Lists.{exchanged}
use Rattle.chronicle.specs.Frame.{Frame}
use Rattle.chronicle.specs.History.{entries, own_of}
use Rattle.chronicle.specs.Knowledge.{waiting_ticket, is_in_turn, slot_out, slot_home, number_unless, ticket_of, number_of, with_stage, having_seen}
use Rattle.chronicle.specs.Rule.{nobody, inside, reaching, taken, one_if, IsAt, Fits, SlotAt}
use Rattle.chronicle.specs.Steps.{Draws, Calls, Looks, TakesSlot, ReturnsSlot, Passes, Enters}
use Rattle.chronicle.specs.declared.knowledge.Knowledge.{Knowledge}
use Rattle.chronicle.specs.declared.knowledge.Stage.{Stage}
use Rattle.chronicle.specs.declared.knowledge.Stage.TheVariants.{Spent, Idle, Waiting, InTurn, WithSlot}
use Rattle.chronicle.proofs.Prefixes.{prefix_self, prefix_append, prefix_trans}
use Rattle.chronicle.proofs.Entries.{own_of-other}
use Rattle.chronicle.proofs.Seats.{waits_with, nobody_from_taken, each_set, apart_fresh, apart_none, apart_same, waiting-set, given_same, still_fits, fits_at}
use Rattle.chronicle.proofs.Keeping.{Board, Rule, ordered, counts, unmoved, called, held_step}

mod-add-one : (n : ℕ) → (n % 2 ^ 64 + 1) % 2 ^ 64 ≡ (n + 1) % 2 ^ 64
mod-add-one n = add-mod (n % 2 ^ 64) 1 (2 ^ 64) ∙ (ap (λ m. (m + 1 % 2 ^ 64) % 2 ^ 64) (mod-mod n (2 ^ 64)) ∙ sym (add-mod n 1 (2 ^ 64)))

-- of a seat with one slot: as a first slot and the rest, and after the slot's value was exchanged
module _ {S : Type 0} where
  pub one_slot : (held : List (ℕ × S)) (x : ℕ × S) → held ≡ x ∷ [] → held ≡ x ∷ rest held
  one_slot held x e = subst (λ l. l ≡ x ∷ rest l) (sym e) refl

  pub one_slot_exchanged : (held after : List (ℕ × S)) (x y : ℕ × S) → held ≡ x ∷ [] → after ≡ y ∷ rest held → after ≡ y ∷ []
  one_slot_exchanged held after x y e exchanged = subst (λ l. after ≡ y ∷ rest l) e exchanged

module _ {V E : Type 0} where
  -- a seat with one slot out, as a first slot and the rest
  pub one_out : (before : Me (Option V) (Knowledge E)) (k : Knowledge E) (x : ℕ × Option V) → before ≡ (k, x ∷ []) → before.1 ≡ x ∷ rest before.1
  one_out before k x is = one_slot before.1 x (ap (λ m. m.1) is)

  -- a seat with one slot out, whose value was taken
  pub emptied : (before after : Me (Option V) (Knowledge E)) (k : Knowledge E) (x y : ℕ × Option V) → before ≡ (k, x ∷ []) → after ≡ (before.0, y ∷ rest before.1) → (after.0.stage ≡ k.stage) × (after.1 ≡ y ∷ [])
  emptied before after k x y is now = (ap (λ m. m.0.stage) now ∙ ap (λ m. m.0.stage) is, one_slot_exchanged before.1 after.1 x y (ap (λ m. m.1) is) (ap (λ m. m.1) now))

ticket_in : (g : Stage) → is_in_turn g ≡ true → (ticket : ℕ) × (g ≡ InTurn ticket)
ticket_in Spent e = absurd cc
ticket_in Idle e = absurd cc
ticket_in (Waiting t) e = absurd cc
ticket_in (InTurn t) e = (t, refl)
ticket_in (WithSlot t) e = absurd cc

module _ {V E : Type 0} (stands : V → List E → Type 0) (frame : V → Frame) (begun : V → List E) (about : Snapshot V) where
  abbrev S : Board stands frame begun about → Type 0
  S = Rule stands frame begun about

  -- a ticket is drawn
  drawn : (s : Board stands frame begun about) (r : S s) (id old : ℕ) (k : Knowledge E) → k.stage ≡ Idle → get_elem? s.views id ≡ some k → r.next ≡ old → old + 1 < 2 ^ 64
      → S (stepped s 0 (old + 1) id [] (with_stage (Waiting old) k) keeps)
  drawn s r id old k idle at is small = let w : Knowledge E = with_stage (Waiting old) k in let within = ordered stands frame begun about s r in let h = r.each id k at in record {
    log = r.log;
    turn = r.turn;
    given = r.given;
    next = old + 1;
    serving = r.serving;
    entered = r.entered;
    sleeping = r.sleeping;
    words = ap (λ ws. set ws 0 (old + 1)) r.words;
    counted = r.counted;
    tickets_out = let w' = waiting-set s.views id k w at in let a = ap one_if (ap waiting_ticket idle) in let o = r.tickets_out in omega arith;
    bounded = small;
    slot = r.slot;
    each = each_set s.views id w (Fits (frame about.value) r.given (old + 1) r.serving r.log r.turn)
        record { at = (omega arith, omega arith); framed = λ _. h.framed (λ e. absurd (cc (e, idle))); begins = h.begins; own = h.own; told = h.told; below = h.below }
        (λ j l other ej. still_fits (frame about.value) r.given r.next r.serving (old + 1) r.serving r.log r.log r.turn r.turn j l (λ t _ a b. (a, omega arith)) (λ _. (refl, refl, refl)) (prefix_self r.log) refl (r.each j l ej));
    tickets = apart_fresh ticket_of s.views id w r.tickets (λ x j l kw ej kl.
        let f = fits_at (frame about.value) r.given r.next r.serving r.log r.turn j l (Waiting x) (waits_with l.stage x kl) (r.each j l ej) in let e : old ≡ x = some-injective old x kw in absurd (let b = f.1 in omega arith));
    numbers = apart_same number_of s.views id k w r.numbers at refl;
    within = r.within;
    knows_given = given_same s.views id k w r.given r.knows_given at refl;
  }

  draws : (slots id old : ℕ) (k : Knowledge E) → k.stage ≡ Idle → old + 1 < 2 ^ 64 → Allows S slots id (k, []) 0 (λ n. either (eqb n old) (old + 1) n) (Draws (step slots 0 old (old + 1) none) (k, []))
  draws slots id old k idle small s r len at bound =
      let n : ℕ = get_or s.words 0 0 in
      let is : n ≡ r.next = ap (λ ws. get_or ws 0 0) r.words in
      dite (ℕ_discrete n old)
      (λ hit. (with_stage (Waiting old) k, keeps, tt, exchanged n old (old + 1) (λ m. S (stepped s 0 m id [] (with_stage (Waiting old) k) keeps)) (λ _. drawn s r id old k idle at (sym is ∙ hit) small) (λ miss. absurd (miss hit)), ((λ _. refl), λ miss. absurd (miss hit))))
      (λ miss. (k, keeps, tt, exchanged n old (old + 1) (λ m. S (stepped s 0 m id [] k keeps)) (λ hit. absurd (miss hit)) (λ _. unmoved stands frame begun about s r 0 id [] k at), ((λ hit. absurd (miss hit)), λ _. refl)))

  -- the turn comes: the slot goes out with the value
  served : (s : Board stands frame begun about) (r : S s) (id t : ℕ) (k : Knowledge E) → k.stage ≡ Waiting t → get_elem? s.views id ≡ some k → get_or s.words 1 0 ≡ t → r.turn ≡ nobody → (v : V) → s.homes ≡ some (Some v) ∷ []
      → S (stepped s 1 (get_or s.words 1 0) id [] (having_seen (WithSlot (get_or s.words 1 0)) r.log k) (takes 0 (Some v)))
  served s r id t k waits at hit free v home =
      let w : Knowledge E = having_seen (WithSlot (get_or s.words 1 0)) r.log k in
      let h = r.each id k at in
      let serving : get_or s.words 1 0 ≡ r.serving = ap (λ ws. get_or ws 1 0) r.words in
      let none_in : taken r.turn ≡ 0 = ap taken free in record {
        log = r.log;
        turn = reaching id;
        given = r.given;
        next = r.next;
        serving = r.serving;
        entered = r.entered;
        sleeping = r.sleeping;
        words = set-get_or s.words 1 0 ∙ r.words;
        counted = r.counted;
        tickets_out = let w' = waiting-set s.views id k w at in let a = ap one_if (ap waiting_ticket waits) in let o = r.tickets_out in omega arith;
        bounded = r.bounded;
        slot = ap (λ hs. set hs 0 none) home;
        each = each_set s.views id w (Fits (frame about.value) r.given r.next r.serving r.log (reaching id))
            record { at = (refl, serving, refl); framed = λ _. h.framed (λ e. absurd (cc (e, waits))); begins = prefix_self r.log; own = refl; told = h.told; below = h.below }
            (λ j l other ej. still_fits (frame about.value) r.given r.next r.serving r.next r.serving r.log r.log r.turn (reaching id) j l
            (λ u lw a b. (let differs : u ≢ t = λ e. other (r.tickets j id t l k ej at (ap waiting_ticket lw ∙ ap some e) (ap waiting_ticket waits)) in let a' = a in omega arith, b))
            (λ his. absurd (⊎_elim (λ (e : r.turn ≡ inside j). absurd (cc (e, free))) (λ (e : r.turn ≡ reaching j). absurd (cc (e, free))) his)) (prefix_self r.log) refl (r.each j l ej));
        tickets = apart_none ticket_of s.views id w r.tickets refl;
        numbers = apart_same number_of s.views id k w r.numbers at refl;
        within = r.within;
        knows_given = given_same s.views id k w r.given r.knows_given at refl;
      }

  looks : (slots id t : ℕ) (k : Knowledge E) → k.stage ≡ Waiting t → Allows S slots id (k, []) 1 (λ n. n) (Looks stands frame (step slots 1 0 0 none) (k, []))
  looks slots id t k waits s r len at bound =
      let n : ℕ = get_or s.words 1 0 in
      let is : n ≡ r.serving = ap (λ ws. get_or ws 1 0) r.words in
      let h = r.each id k at in
      let mine = fits_at (frame about.value) r.given r.next r.serving r.log r.turn id k (Waiting t) waits h in
      dite (ℕ_discrete n t)
      (λ hit.
      let free : r.turn ≡ nobody = nobody_from_taken r.turn (let a = mine.0 in omega arith) in
      let home : SlotAt stands frame (frame about.value) r.log s.homes nobody = subst (λ p. SlotAt stands frame (frame about.value) r.log s.homes p) free r.slot in
      let v : V = home.0 in (
        having_seen (WithSlot n) r.log k,
        takes 0 (Some v),
        ap (λ hs. get_elem? hs 0) home.1,
        served s r id t k waits at hit free v home.1,
        ((λ _. (v, r.log, refl, home.2, home.3 ∙ sym (h.framed (λ e. absurd (cc (e, waits)))), (h.begins, h.own, counts stands frame begun about s r id k at))), λ other. absurd (other (waits ∙ ap Waiting (sym hit)))),
      ))
      (λ miss. (k, keeps, tt, unmoved stands frame begun about s r 1 id [] k at, ((λ hit. absurd (miss (cc (hit, waits)))), λ _. refl)))

  -- the slot comes home, empty
  returns_slot : (slots id t : ℕ) (k : Knowledge E) → k.stage ≡ WithSlot t → Allows S slots id (k, (0, None) ∷ []) 1 (λ n. n) (ReturnsSlot (step slots 1 0 0 none) (k, (0, None) ∷ []))
  returns_slot slots id t k is s r len at bound =
      let h = r.each id k at in
      let mine = fits_at (frame about.value) r.given r.next r.serving r.log r.turn id k (WithSlot t) is h in
      let home : s.homes ≡ none ∷ [] = subst (λ p. SlotAt stands frame (frame about.value) r.log s.homes p) mine.0 r.slot in
      let g : Stage = slot_home k.stage in
      let there : g ≡ InTurn t = ap slot_home is in
      let w : Knowledge E = with_stage g k in (
        w,
        gives,
        tt,
        held_step stands frame begun about s r id k w (set s.words 1 (get_or s.words 1 0)) (set s.homes 0 (some None)) r.log (inside id) r.serving r.entered at (inr mine.0) (ap waiting_ticket is)
            (set-get_or s.words 1 0 ∙ r.words) r.counted (ap (λ p. r.serving + taken p) (sym mine.0)) (ap (λ hs. set hs 0 (some None)) home)
            record {
              at = subst (λ z. IsAt r.next r.serving r.log (inside id) id w z) (sym there) (refl, mine.1, mine.2);
              framed = λ _. h.framed (λ e. absurd (cc (e, is)));
              begins = h.begins;
              own = h.own;
              told = h.told;
              below = h.below;
            }
            (ap waiting_ticket there) refl refl (prefix_self r.log) (λ j l _ _. refl) r.within,
        refl,
      )

  -- the empty slot goes out, to be filled
  takes_slot : (slots id t : ℕ) (k : Knowledge E) → k.stage ≡ InTurn t → Allows S slots id (k, []) 1 (λ n. n) (TakesSlot (step slots 1 0 0 none) (k, []))
  takes_slot slots id t k is s r len at bound =
      let h = r.each id k at in
      let mine = fits_at (frame about.value) r.given r.next r.serving r.log r.turn id k (InTurn t) is h in
      let home : s.homes ≡ some None ∷ [] = subst (λ p. SlotAt stands frame (frame about.value) r.log s.homes p) mine.0 r.slot in
      let g : Stage = slot_out k.stage in
      let there : g ≡ WithSlot t = ap slot_out is in
      let w : Knowledge E = with_stage g k in (
        w,
        takes 0 None,
        ap (λ hs. get_elem? hs 0) home,
        held_step stands frame begun about s r id k w (set s.words 1 (get_or s.words 1 0)) (set s.homes 0 none) r.log (reaching id) r.serving r.entered at (inl mine.0) (ap waiting_ticket is)
            (set-get_or s.words 1 0 ∙ r.words) r.counted (ap (λ p. r.serving + taken p) (sym mine.0)) (ap (λ hs. set hs 0 none) home)
            record {
              at = subst (λ z. IsAt r.next r.serving r.log (reaching id) id w z) (sym there) (refl, mine.1, mine.2);
              framed = λ _. h.framed (λ e. absurd (cc (e, is)));
              begins = h.begins;
              own = h.own;
              told = h.told;
              below = h.below;
            }
            (ap waiting_ticket there) refl refl (prefix_self r.log) (λ j l _ _. refl) r.within,
        refl,
      )

  -- the filled slot comes home, and the turn passes on
  passes : (slots id t : ℕ) (k : Knowledge E) (v : V) → k.stage ≡ WithSlot t → stands v (entries k.seen) → frame v ≡ k.frame
      → Allows S slots id (k, (0, Some v) ∷ []) 1 (λ n. (n + 1) % 2 ^ 64) (Passes (step slots 1 1 0 none) (k, (0, Some v) ∷ []))
  passes slots id t k v is right framed s r len at bound =
      let h = r.each id k at in
      let mine = fits_at (frame about.value) r.given r.next r.serving r.log r.turn id k (WithSlot t) is h in
      let home : s.homes ≡ none ∷ [] = subst (λ p. SlotAt stands frame (frame about.value) r.log s.homes p) mine.0 r.slot in
      let one : taken r.turn ≡ 1 = ap taken mine.0 in
      let found : get_or s.words 1 0 ≡ r.serving = ap (λ ws. get_or ws 1 0) r.words in
      let within = ordered stands frame begun about s r in
      let bounded = r.bounded in
      let up : (get_or s.words 1 0 + 1) % 2 ^ 64 ≡ r.serving + 1 = mod-eq_of_lt (let u : get_or s.words 1 0 + 1 < 2 ^ 64 = omega arith in u) ∙ ap (λ n. n + 1) found in
      let w : Knowledge E = with_stage Idle k in (
        w,
        gives,
        tt,
        held_step stands frame begun about s r id k w (set s.words 1 ((get_or s.words 1 0 + 1) % 2 ^ 64)) (set s.homes 0 (some (Some v))) r.log nobody (r.serving + 1) r.entered at (inr mine.0) (ap waiting_ticket is)
            (ap (λ (x : List ℕ × ℕ). set x.0 1 x.1) (λ q. (r.words q, up q))) r.counted (omega arith)
            (v, ap (λ hs. set hs 0 (some (Some v))) home, subst (λ l. stands v (entries l)) mine.2 right, framed ∙ h.framed (λ e. absurd (cc (e, is))))
            record { at = tt; framed = λ _. h.framed (λ e. absurd (cc (e, is))); begins = h.begins; own = h.own; told = h.told; below = h.below } refl refl refl (prefix_self r.log) (λ j l _ _. refl) r.within,
        refl,
      )

  -- an entry is added
  enters : (slots id t : ℕ) (k : Knowledge E) (e : E) → k.stage ≡ InTurn t → k.is_note ≡ false
      → Allows S slots id (k, []) 2 (λ n. (n + 1) % 2 ^ 64) (Enters (Some e) (step slots 2 1 0 none) (k, []))
  enters slots id t k e is real s r len at bound =
      let h = r.each id k at in
      let mine = fits_at (frame about.value) r.given r.next r.serving r.log r.turn id k (InTurn t) is h in
      let home : s.homes ≡ some None ∷ [] = subst (λ p. SlotAt stands frame (frame about.value) r.log s.homes p) mine.0 r.slot in
      let found : get_or s.words 2 0 ≡ r.entered % 2 ^ 64 = ap (λ ws. get_or ws 2 0) r.words in
      let x : ℕ × E = (k.number, e) in
      let log : List (ℕ × E) = r.log ++ x ∷ [] in
      let seen : k.seen ++ x ∷ [] ≡ log = ap (λ l. l ++ x ∷ []) mine.2 in
      let up : (get_or s.words 2 0 + 1) % 2 ^ 64 ≡ (r.entered + 1) % 2 ^ 64 = ap (λ n. (n + 1) % 2 ^ 64) found ∙ mod-add-one r.entered in
      let number : number_of k ≡ some k.number = ap (λ b. number_unless b k.number) real in
      let w : Knowledge E = having_seen k.stage (k.seen ++ x ∷ []) k in (
        w,
        keeps,
        tt,
        held_step stands frame begun about s r id k w (set s.words 2 ((get_or s.words 2 0 + 1) % 2 ^ 64)) s.homes log (inside id) r.serving (r.entered + 1) at (inl mine.0) (ap waiting_ticket is)
            (ap (λ (y : List ℕ × ℕ). set y.0 2 y.1) (λ q. (r.words q, up q))) (length-append r.log (x ∷ []) ∙ (let c = r.counted in omega arith)) (ap (λ p. r.serving + taken p) (sym mine.0)) home
            record {
              at = subst (λ g. IsAt r.next r.serving log (inside id) id w g) (sym is) (refl, mine.1, seen);
              framed = λ _. h.framed (λ e. absurd (cc (e, is)));
              begins = subst (λ l. IsPrefix l log) (sym seen) (prefix_self log);
              own = ap (own_of k.is_note k.number) (sym seen);
              told = prefix_trans k.told r.log log h.told (prefix_append r.log (x ∷ []));
              below = h.below;
            }
            (ap waiting_ticket is) refl refl (prefix_append r.log (x ∷ []))
            (λ j l other ej. own_of-other l.is_note l.number r.log x (λ note same. other (r.numbers j id k.number l k ej at (ap (λ b. number_unless b l.number) note ∙ ap some (sym same)) number)))
            (All-push (λ (y : ℕ × E). y.0 ≤ r.given) r.log x r.within (h.below k.number number)),
        (e, refl, refl),
      )

  -- the same, of a seat as code has it
  module _ (slots id : ℕ) (m : Me (Option V) (Knowledge E)) where
    pub draws_at : (old : ℕ) → m.0.stage ≡ Idle → m.1 ≡ [] → old + 1 < 2 ^ 64 → Allows S slots id m 0 (λ n. either (eqb n old) (old + 1) n) (Draws (step slots 0 old (old + 1) none) m)
    draws_at old idle bare small = subst (λ z. Allows S slots id (m.0, z) 0 (λ n. either (eqb n old) (old + 1) n) (Draws (step slots 0 old (old + 1) none) (m.0, z))) (sym bare) (draws slots id old m.0 idle small)

    pub calls_at : (n : ℕ) → Allows S slots id m 3 (λ _. n) (λ _. Calls (step slots 3 n 0 none) m n)
    calls_at n s r len at bound = (m.0, keeps, tt, called stands frame begun about s r n id m.1 m.0 at, refl)

    pub looks_at : (t : ℕ) → m.0.stage ≡ Waiting t → m.1 ≡ [] → Allows S slots id m 1 (λ n. n) (Looks stands frame (step slots 1 0 0 none) m)
    looks_at t waits bare = subst (λ z. Allows S slots id (m.0, z) 1 (λ n. n) (Looks stands frame (step slots 1 0 0 none) (m.0, z))) (sym bare) (looks slots id t m.0 waits)

    pub returns_slot_at : (t : ℕ) → m.0.stage ≡ WithSlot t → m.1 ≡ (0, None) ∷ [] → Allows S slots id m 1 (λ n. n) (ReturnsSlot (step slots 1 0 0 none) m)
    returns_slot_at t is held = subst (λ z. Allows S slots id (m.0, z) 1 (λ n. n) (ReturnsSlot (step slots 1 0 0 none) (m.0, z))) (sym held) (returns_slot slots id t m.0 is)

    pub takes_slot_at : is_in_turn m.0.stage ≡ true → m.1 ≡ [] → Allows S slots id m 1 (λ n. n) (TakesSlot (step slots 1 0 0 none) m)
    takes_slot_at is bare = let t = ticket_in m.0.stage is in subst (λ z. Allows S slots id (m.0, z) 1 (λ n. n) (TakesSlot (step slots 1 0 0 none) (m.0, z))) (sym bare) (takes_slot slots id t.0 m.0 t.1)

    -- the slot went out before, in the turn
    pub passes_at : (v : V) (g : Stage) → is_in_turn g ≡ true → m.0.stage ≡ slot_out g → m.1 ≡ (0, Some v) ∷ [] → stands v (entries m.0.seen) → frame v ≡ m.0.frame
        → Allows S slots id m 1 (λ n. (n + 1) % 2 ^ 64) (Passes (step slots 1 1 0 none) m)
    passes_at v g was is held right framed = let t = ticket_in g was in
        subst (λ z. Allows S slots id (m.0, z) 1 (λ n. (n + 1) % 2 ^ 64) (Passes (step slots 1 1 0 none) (m.0, z))) (sym held) (passes slots id t.0 m.0 v (is ∙ ap slot_out t.1) right framed)

    pub enters_at : (added : Option E) (e : E) → added ≡ Some e → is_in_turn m.0.stage ≡ true → m.1 ≡ [] → m.0.is_note ≡ false → Allows S slots id m 2 (λ n. (n + 1) % 2 ^ 64) (Enters added (step slots 2 1 0 none) m)
    enters_at added e says is bare real = let t = ticket_in m.0.stage is in
        subst (λ (x : List (ℕ × Option V) × Option E). Allows S slots id (m.0, x.0) 2 (λ n. (n + 1) % 2 ^ 64) (Enters x.1 (step slots 2 1 0 none) (m.0, x.0))) (λ q. (sym bare q, sym says q)) (enters slots id t.0 m.0 e t.1 real)
