-- The rule, as a seat changes what it knows: a step of the one whose turn it is, and a step that changes no word.
use Rattle.std.proofs.Math.Nat.{le_trans, add-zero}
use Rattle.std.proofs.lemmas.List.Elements.{All-weaker}
use Rattle.std.proofs.Common.{◌≡◌, ℕ, ◌+◌, ◌%◌, ◌^◌, ◌≤◌, ◌≢◌, ◌⊎◌, ⊎_elim, List, [], ◌∷◌, ◌++◌, length, get_or, set, sym, refl, ap, ◌∙◌, subst, arith, Option, Some}
use mathlib.Core.Option.{some, some-injective, some-ne-none, none}
use mathlib.Core.Option as maybe
use mathlib.Core.List.{IsPrefix}
use lib.ListN.{get_elem?}
use lib.Seq.{set-get_or}
use Rattle.std.specs.declared.snapshot.Snapshot.{Snapshot}
use Rattle.atomic_table.specs.Table.{opening, State, keeps, stepped}
use Rattle.atomic_table.proofs.Lists.{set_again, at_snoc}
use Rattle.chronicle.specs.Frame.{Frame}
use Rattle.chronicle.specs.History.{own_of, NumbersUpTo, numbered}
use Rattle.chronicle.specs.Knowledge.{waiting_ticket, ticket_of, number_of, given_by, Counts}
use Rattle.chronicle.specs.Rule.{Turn, nobody, inside, reaching, taken, one_if, KnowsGiven, IsAt, Fits, SlotAt, IsChronicle, first_of}
use Rattle.chronicle.specs.declared.knowledge.Knowledge.{Knowledge}
use Rattle.chronicle.specs.declared.knowledge.Stage.TheVariants.{Idle}
use Rattle.chronicle.proofs.Prefixes.{prefix_self}
use Rattle.chronicle.proofs.Entries.{length-numbered, entries-numbered, NumbersUpTo-numbered}
use Rattle.chronicle.proofs.Seats.{one_view, each_set, apart_none, apart_same, apart_less, apart_push, waiting-set, waiting-push, given_same, still_fits}

module _ {V E : Type 0} (stands : V → List E → Type 0) (frame : V → Frame) (begun : V → List E) (about : Snapshot V) where
  abbrev pub Board : Type 0
  Board = State (Option V) (Knowledge E)

  abbrev pub Rule : Board → Type 0
  Rule = IsChronicle stands frame begun about

  -- the table at the start
  pub opens : (v : V) → about.value ≡ v → stands v (begun v) → Rule (opening (0 ∷ 0 ∷ 0 ∷ 0 ∷ []) (Some v ∷ []) (first_of frame begun about))
  opens v is right = let log : List (ℕ × E) = numbered 0 (begun about.value) in let k : Knowledge E = first_of frame begun about in record {
    log = log;
    turn = nobody;
    given = 0;
    next = 0;
    serving = 0;
    entered = 0;
    sleeping = 0;
    words = refl;
    counted = length-numbered 0 (begun about.value) ∙ sym (add-zero _);
    tickets_out = refl;
    bounded = omega arith;
    slot = (v, refl, subst (λ l. stands v l) (sym (entries-numbered 0 (begun about.value) ∙ ap begun is)) right, ap frame (sym is));
    each = λ j l e. let t = one_view k j l e in subst (λ (x : Knowledge E). Fits (frame about.value) 0 0 0 log nobody j x) t.1
        record { at = tt; framed = λ _. refl; begins = prefix_self log; own = refl; told = (log, refl); below = λ x e. let z : 0 ≡ x = some-injective 0 x e in omega arith };
    tickets = λ i j x l m ei ej kl km. (one_view k i l ei).0 ∙ sym (one_view k j m ej).0;
    numbers = λ i j x l m ei ej kl km. (one_view k i l ei).0 ∙ sym (one_view k j m ej).0;
    within = NumbersUpTo-numbered 0 (begun about.value);
    knows_given = λ j m l ej by. let a = (one_view k j l ej).1 in sym (some-injective 0 m (ap given_by a ∙ by));
  }

  pub ordered : (s : Board) (r : Rule s) → r.serving + taken r.turn ≤ r.next
  ordered s r = let o = r.tickets_out in omega arith

  -- no entry is under a number above what the first token shows
  pub counts : (s : Board) (r : Rule s) (id : ℕ) (k : Knowledge E) → get_elem? s.views id ≡ some k → Counts r.log k
  counts s r id k at m by = subst (λ n. NumbersUpTo n r.log) (sym (r.knows_given id m k at by)) r.within

  -- a step that changes nothing
  pub unmoved : (s : Board) → Rule s → (i id : ℕ) (cs : List (ℕ × Option V)) (k : Knowledge E) → get_elem? s.views id ≡ some k → Rule (stepped s i (get_or s.words i 0) id cs k keeps)
  unmoved s r i id cs k at = subst (λ (x : List ℕ × List (Knowledge E)). Rule record { words = x.0; homes = s.homes; views = x.1 }) (λ q. (sym (set-get_or s.words i 0) q, sym (set_again s.views id k at) q)) r

  -- the word of those who sleep is written
  pub called : (s : Board) → Rule s → (n id : ℕ) (cs : List (ℕ × Option V)) (k : Knowledge E) → get_elem? s.views id ≡ some k → Rule (stepped s 3 n id cs k keeps)
  called s r n id cs k at = subst (λ (vs : List (Knowledge E)). Rule record { words = set s.words 3 n; homes = s.homes; views = vs }) (sym (set_again s.views id k at)) record {
    log = r.log;
    turn = r.turn;
    given = r.given;
    next = r.next;
    serving = r.serving;
    entered = r.entered;
    sleeping = n;
    words = ap (λ ws. set ws 3 n) r.words;
    counted = r.counted;
    tickets_out = r.tickets_out;
    bounded = r.bounded;
    slot = r.slot;
    each = r.each;
    tickets = r.tickets;
    numbers = r.numbers;
    within = r.within;
    knows_given = r.knows_given;
  }

  -- a step of the seat that has the turn
  pub held_step : (s : Board) (r : Rule s) (id : ℕ) (k w : Knowledge E) (words : List ℕ) (homes : List (maybe.Option (Option V))) (log : List (ℕ × E)) (turn : Turn) (serving entered : ℕ)
      → get_elem? s.views id ≡ some k → (r.turn ≡ inside id) ⊎ (r.turn ≡ reaching id) → ticket_of k ≡ none
      → words ≡ r.next ∷ serving ∷ (entered % 2 ^ 64) ∷ r.sleeping ∷ [] → length log ≡ length (begun about.value) + entered → serving + taken turn ≡ r.serving + taken r.turn
      → SlotAt stands frame (frame about.value) log homes turn → Fits (frame about.value) r.given r.next serving log turn id w → ticket_of w ≡ none → number_of w ≡ number_of k → given_by w ≡ given_by k
      → IsPrefix r.log log → ((j : ℕ) (l : Knowledge E) → j ≢ id → get_elem? s.views j ≡ some l → own_of l.is_note l.number log ≡ own_of l.is_note l.number r.log)
      → NumbersUpTo r.given log
      → Rule record { words = words; homes = homes; views = set s.views id w }
  held_step s r id k w words homes log turn serving entered at held no_before words_are counted same slot fits no_ticket number given more others within = record {
    log = log;
    turn = turn;
    given = r.given;
    next = r.next;
    serving = serving;
    entered = entered;
    sleeping = r.sleeping;
    words = words_are;
    counted = counted;
    tickets_out = let w' = waiting-set s.views id k w at in let a = ap one_if no_before in let b = ap one_if no_ticket in let o = r.tickets_out in omega arith;
    bounded = r.bounded;
    slot = slot;
    each = each_set s.views id w (Fits (frame about.value) r.given r.next serving log turn) fits
        (λ j l other ej. still_fits (frame about.value) r.given r.next r.serving r.next serving r.log log r.turn turn j l
        (λ t _ a b. (omega arith, b))
        (λ his. absurd (other (⊎_elim
        (λ (e : r.turn ≡ inside j). ⊎_elim (λ (h : r.turn ≡ inside id). cc (e, h)) (λ (h : r.turn ≡ reaching id). absurd (cc (e, h))) held)
        (λ (e : r.turn ≡ reaching j). ⊎_elim (λ (h : r.turn ≡ inside id). absurd (cc (e, h))) (λ (h : r.turn ≡ reaching id). cc (e, h)) held)
        his)))
        more (others j l other ej) (r.each j l ej));
    tickets = apart_none ticket_of s.views id w r.tickets no_ticket;
    numbers = apart_same number_of s.views id k w r.numbers at number;
    within = within;
    knows_given = given_same s.views id k w r.given r.knows_given at given;
  }

  -- A seat knows something else, and no word changes. It is no lemma, so that what it leaves as it was is seen to be so
  abbrev pub renew : (s : Board) (r : Rule s) (given id : ℕ) (k w : Knowledge E) → r.given ≤ given → KnowsGiven given (set s.views id w) → get_elem? s.views id ≡ some k
      → Fits (frame about.value) given r.next r.serving r.log r.turn id w → ticket_of w ≡ ticket_of k → ((x : ℕ) → number_of w ≡ some x → number_of k ≡ some x)
      → Rule record { words = s.words; homes = s.homes; views = set s.views id w }
  renew s r given id k w more knows at fits ticket number = record {
    log = r.log;
    turn = r.turn;
    given = given;
    next = r.next;
    serving = r.serving;
    entered = r.entered;
    sleeping = r.sleeping;
    words = r.words;
    counted = r.counted;
    tickets_out = let w' = waiting-set s.views id k w at in let a = ap one_if ticket in let o = r.tickets_out in omega arith;
    bounded = r.bounded;
    slot = r.slot;
    each = each_set s.views id w (Fits (frame about.value) given r.next r.serving r.log r.turn) fits
        (λ j l _ ej. let h = r.each j l ej in record { at = h.at; framed = h.framed; begins = h.begins; told = h.told; own = h.own; below = λ x e. le_trans (h.below x e) more });
    tickets = apart_same ticket_of s.views id k w r.tickets at ticket;
    numbers = apart_less number_of s.views id k w r.numbers at number;
    within = All-weaker (λ (x : ℕ × E). x.0 ≤ r.given) (λ (x : ℕ × E). x.0 ≤ given) (λ x le. le_trans le more) r.log r.within;
    knows_given = knows;
  }

  -- a new seat comes
  pub arrive : (s : Board) (r : Rule s) (w : Knowledge E) → w.stage ≡ Idle → w.frame ≡ frame about.value → IsPrefix w.seen r.log → w.told ≡ []
      → own_of w.is_note w.number r.log ≡ own_of w.is_note w.number w.seen → given_by w ≡ none
      → ((x j : ℕ) (l : Knowledge E) → number_of w ≡ some x → get_elem? s.views j ≡ some l → ¬ (number_of l ≡ some x)) → ((x : ℕ) → number_of w ≡ some x → x ≤ r.given)
      → Rule record { words = s.words; homes = s.homes; views = s.views ++ w ∷ [] }
  arrive s r w idle framed begins untold own none_given fresh below = record {
    log = r.log;
    turn = r.turn;
    given = r.given;
    next = r.next;
    serving = r.serving;
    entered = r.entered;
    sleeping = r.sleeping;
    words = r.words;
    counted = r.counted;
    tickets_out = let w' = waiting-push s.views w in let a = ap one_if (ap waiting_ticket idle) in let o = r.tickets_out in omega arith;
    bounded = r.bounded;
    slot = r.slot;
    each = λ j l e. ⊎_elim (r.each j l) (λ (t : w ≡ l). subst (λ (x : Knowledge E). Fits (frame about.value) r.given r.next r.serving r.log r.turn j x) t record {
      at = subst (λ g. IsAt r.next r.serving r.log r.turn j w g) (sym idle) tt;
      framed = λ _. framed;
      begins = begins;
      told = subst (λ l. IsPrefix l r.log) (sym untold) (r.log, refl);
      below = below;
      own = own;
    }) (at_snoc s.views w l j e);
    tickets = apart_push ticket_of s.views w r.tickets (λ x j l kw. absurd (some-ne-none x (sym kw ∙ ap waiting_ticket idle)));
    numbers = apart_push number_of s.views w r.numbers fresh;
    within = r.within;
    knows_given = λ j m l e by. ⊎_elim (λ (f : get_elem? s.views j ≡ some l). r.knows_given j m l f by) (λ (t : w ≡ l). absurd (some-ne-none m (sym by ∙ (ap given_by (sym t) ∙ none_given)))) (at_snoc s.views w l j e);
  }
