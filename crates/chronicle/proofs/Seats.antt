-- The views of all seats, when one of them changes or a new one comes.
use Rattle.std.proofs.Math.Numerals.{add-one}
use Rattle.std.proofs.Common.{◌≡◌, ℕ, zero, suc, ◌+◌, ◌<◌, ◌≤◌, ◌≢◌, ◌⊎◌, inl, inr, ⊎_elim, Bool, true, false, List, [], ◌∷◌, ◌++◌, length, set, sym, refl, ap, ◌∙◌, subst, arith}
use mathlib.Core.Option.{none, some, some-injective, some-ne-none}
use mathlib.Core.Option as maybe
use mathlib.Core.List.{IsPrefix}
use lib.ListN.{get_elem?}
use Rattle.atomic_table.proofs.Lists.{at_set}
use Rattle.chronicle.specs.Frame.{Frame}
use Rattle.chronicle.specs.History.{own_of}
use Rattle.chronicle.specs.Knowledge.{waiting_ticket, ticket_of, number_of, number_unless, given_by, made_if_first}
use Rattle.chronicle.specs.Rule.{Turn, nobody, inside, reaching, taken, one_if, waiting, Apart, KnowsGiven, IsAt, Fits}
use Rattle.chronicle.specs.declared.knowledge.Knowledge.{Knowledge}
use Rattle.chronicle.specs.declared.knowledge.Stage.{Stage}
use Rattle.chronicle.specs.declared.knowledge.Stage.TheVariants.{Spent, Idle, Waiting, InTurn, WithSlot}
use Rattle.chronicle.proofs.Prefixes.{prefix_trans}

pub waits_with : (g : Stage) (ticket : ℕ) → waiting_ticket g ≡ some ticket → g ≡ Waiting ticket
waits_with Spent ticket e = absurd (some-ne-none ticket (sym e))
waits_with Idle ticket e = absurd (some-ne-none ticket (sym e))
waits_with (Waiting t) ticket e = ap Waiting (some-injective t ticket e)
waits_with (InTurn t) ticket e = absurd (some-ne-none ticket (sym e))
waits_with (WithSlot t) ticket e = absurd (some-ne-none ticket (sym e))

pub nobody_from_taken : (turn : Turn) → taken turn ≡ 0 → turn ≡ nobody
nobody_from_taken nobody e = refl
nobody_from_taken (inside j) e = absurd (omega arith)
nobody_from_taken (reaching j) e = absurd (omega arith)

pub made_if_first-next : (m : ℕ) → made_if_first false (m + 1) 0 ≡ none
made_if_first-next m = ap (λ n. made_if_first false n 0) (add-one m)

first_has_number : (b : Bool) (n m x : ℕ) → made_if_first b n m ≡ some x → number_unless b n ≡ some 0
first_has_number true n m x e = absurd (some-ne-none x (sym e))
first_has_number false zero m x e = refl
first_has_number false (suc n) m x e = absurd (some-ne-none x (sym e))

at_push : {A : Type 0} (l : List A) (a b : A) (j : ℕ) → get_elem? (l ++ a ∷ []) j ≡ some b → (get_elem? l j ≡ some b) ⊎ ((length l ≡ j) × (a ≡ b))
at_push [] a b zero e = inr (refl, some-injective a b e)
at_push [] a b (suc j) e = absurd (some-ne-none b (sym e))
at_push (x ∷ xs) a b zero e = inl e
at_push (x ∷ xs) a b (suc j) e = ⊎_elim (λ f. inl f) (λ t. inr (ap suc t.0, t.1)) (at_push xs a b j e)

module _ {E : Type 0} where
  pub number_of-first : (l : Knowledge E) (m : ℕ) → given_by l ≡ some m → number_of l ≡ some 0
  number_of-first l m e = first_has_number l.is_note l.number l.made m e

  pub given_by-first : (k : Knowledge E) → k.is_note ≡ false → k.number ≡ 0 → given_by k ≡ some k.made
  given_by-first k real first = ap (λ (x : Bool × ℕ). made_if_first x.0 x.1 k.made) (λ i. (real i, first i))

  pub one_view : (k : Knowledge E) (j : ℕ) (l : Knowledge E) → get_elem? (k ∷ []) j ≡ some l → (j ≡ 0) × (k ≡ l)
  one_view k zero l e = (refl, some-injective k l e)
  one_view k (suc j) l e = absurd (some-ne-none l (sym e))

  -- a fact of each seat, when one changes
  pub each_set : (views : List (Knowledge E)) (id : ℕ) (w : Knowledge E) (F : ℕ → Knowledge E → Type 0) → F id w → ((j : ℕ) (l : Knowledge E) → j ≢ id → get_elem? views j ≡ some l → F j l)
      → (j : ℕ) (l : Knowledge E) → get_elem? (set views id w) j ≡ some l → F j l
  each_set views id w F mine others j l e = ⊎_elim
      (λ (t : (j ≡ id) × (w ≡ l)). subst (λ (x : ℕ × Knowledge E). F x.0 x.1) (λ i. (sym t.0 i, t.1 i)) mine)
      (λ (t : (j ≢ id) × (get_elem? views j ≡ some l)). others j l t.0 t.1)
      (at_set views id j w l e)

  -- the keys stay apart, where the changed seat's key is no other's
  apart_set : (key : Knowledge E → maybe.Option ℕ) (views : List (Knowledge E)) (id : ℕ) (w : Knowledge E) → Apart key views
      → ((x j : ℕ) (l : Knowledge E) → key w ≡ some x → get_elem? views j ≡ some l → key l ≡ some x → id ≡ j)
      → Apart key (set views id w)
  apart_set key views id w apart mine i j x k l ei ej ki kj =
      ⊎_elim
      (λ (s : (i ≡ id) × (w ≡ k)). ⊎_elim
      (λ (t : (j ≡ id) × (w ≡ l)). s.0 ∙ sym t.0)
      (λ (t : (j ≢ id) × (get_elem? views j ≡ some l)). s.0 ∙ mine x j l (ap key s.1 ∙ ki) t.1 kj)
      (at_set views id j w l ej))
      (λ (s : (i ≢ id) × (get_elem? views i ≡ some k)). ⊎_elim
      (λ (t : (j ≡ id) × (w ≡ l)). sym (mine x i k (ap key t.1 ∙ kj) s.1 ki) ∙ sym t.0)
      (λ (t : (j ≢ id) × (get_elem? views j ≡ some l)). apart i j x k l s.1 t.1 ki kj)
      (at_set views id j w l ej))
      (at_set views id i w k ei)

  pub apart_fresh : (key : Knowledge E → maybe.Option ℕ) (views : List (Knowledge E)) (id : ℕ) (w : Knowledge E) → Apart key views
      → ((x j : ℕ) (l : Knowledge E) → key w ≡ some x → get_elem? views j ≡ some l → ¬ (key l ≡ some x))
      → Apart key (set views id w)
  apart_fresh key views id w apart fresh = apart_set key views id w apart (λ x j l kw ej kl. absurd (fresh x j l kw ej kl))

  -- it has no key but the one that it had
  pub apart_less : (key : Knowledge E → maybe.Option ℕ) (views : List (Knowledge E)) (id : ℕ) (k w : Knowledge E) → Apart key views → get_elem? views id ≡ some k
      → ((x : ℕ) → key w ≡ some x → key k ≡ some x) → Apart key (set views id w)
  apart_less key views id k w apart at less = apart_set key views id w apart (λ x j l kw ej kl. apart id j x k l at ej (less x kw) kl)

  pub apart_same : (key : Knowledge E → maybe.Option ℕ) (views : List (Knowledge E)) (id : ℕ) (k w : Knowledge E) → Apart key views → get_elem? views id ≡ some k → key w ≡ key k → Apart key (set views id w)
  apart_same key views id k w apart at same = apart_less key views id k w apart at (λ x kw. sym same ∙ kw)

  pub apart_none : (key : Knowledge E → maybe.Option ℕ) (views : List (Knowledge E)) (id : ℕ) (w : Knowledge E) → Apart key views → key w ≡ none → Apart key (set views id w)
  apart_none key views id w apart gone = apart_fresh key views id w apart (λ x j l kw. absurd (some-ne-none x (sym kw ∙ gone)))

  pub apart_push : (key : Knowledge E → maybe.Option ℕ) (views : List (Knowledge E)) (w : Knowledge E) → Apart key views
      → ((x j : ℕ) (l : Knowledge E) → key w ≡ some x → get_elem? views j ≡ some l → ¬ (key l ≡ some x)) → Apart key (views ++ w ∷ [])
  apart_push key views w apart fresh i j x k l ei ej ki kj =
      ⊎_elim
      (λ (f : get_elem? views i ≡ some k). ⊎_elim
      (λ (g : get_elem? views j ≡ some l). apart i j x k l f g ki kj)
      (λ (t : (length views ≡ j) × (w ≡ l)). absurd (fresh x i k (ap key t.1 ∙ kj) f ki))
      (at_push views w l j ej))
      (λ (t : (length views ≡ i) × (w ≡ k)). ⊎_elim
      (λ (g : get_elem? views j ≡ some l). absurd (fresh x j l (ap key t.1 ∙ ki) g kj))
      (λ (u : (length views ≡ j) × (w ≡ l)). sym t.0 ∙ u.0)
      (at_push views w l j ej))
      (at_push views w k i ei)

  pub waiting-set : (views : List (Knowledge E)) (id : ℕ) (k w : Knowledge E) → get_elem? views id ≡ some k → waiting (set views id w) + one_if (ticket_of k) ≡ waiting views + one_if (ticket_of w)
  waiting-set [] id k w e = absurd (some-ne-none k (sym e))
  waiting-set (x ∷ xs) zero k w e = let same : one_if (ticket_of x) ≡ one_if (ticket_of k) = ap (λ (y : Knowledge E). one_if (ticket_of y)) (some-injective x k e) in omega arith
  waiting-set (x ∷ xs) (suc id) k w e = let others = waiting-set xs id k w e in omega arith

  pub waiting-push : (views : List (Knowledge E)) (w : Knowledge E) → waiting (views ++ w ∷ []) ≡ waiting views + one_if (ticket_of w)
  waiting-push [] w = omega arith
  waiting-push (x ∷ xs) w = let others = waiting-push xs w in omega arith

  pub given_set : (views : List (Knowledge E)) (id : ℕ) (w : Knowledge E) (given : ℕ) → KnowsGiven given views → ((m : ℕ) → given_by w ≡ some m → m ≡ given) → KnowsGiven given (set views id w)
  given_set views id w given knows mine j m l ej by = ⊎_elim
      (λ (t : (j ≡ id) × (w ≡ l)). mine m (ap given_by t.1 ∙ by))
      (λ (t : (j ≢ id) × (get_elem? views j ≡ some l)). knows j m l t.1 by)
      (at_set views id j w l ej)

  pub given_same : (views : List (Knowledge E)) (id : ℕ) (k w : Knowledge E) (given : ℕ) → KnowsGiven given views → get_elem? views id ≡ some k → given_by w ≡ given_by k → KnowsGiven given (set views id w)
  given_same views id k w given knows at same = given_set views id w given knows (λ m by. knows id m k at (sym same ∙ by))

  -- what another seat knows stays so, where the turn is another's too, or nothing changes for its holder
  still_at : (next serving next' serving' : ℕ) (log log' : List (ℕ × E)) (turn turn' : Turn) (j : ℕ) (k : Knowledge E)
      → ((t : ℕ) → k.stage ≡ Waiting t → serving + taken turn ≤ t → t < next → (serving' + taken turn' ≤ t) × (t < next'))
      → ((turn ≡ inside j) ⊎ (turn ≡ reaching j) → (turn' ≡ turn) × (serving' ≡ serving) × (log' ≡ log))
      → (g : Stage) → k.stage ≡ g → IsAt next serving log turn j k g → IsAt next' serving' log' turn' j k g
  still_at next serving next' serving' log log' turn turn' j k waits holds Spent is h = h
  still_at next serving next' serving' log log' turn turn' j k waits holds Idle is h = tt
  still_at next serving next' serving' log log' turn turn' j k waits holds (Waiting t) is h = waits t is h.0 h.1
  still_at next serving next' serving' log log' turn turn' j k waits holds (InTurn t) is h = let s = holds (inl h.0) in (s.0 ∙ h.0, h.1 ∙ sym s.1, h.2 ∙ sym s.2)
  still_at next serving next' serving' log log' turn turn' j k waits holds (WithSlot t) is h = let s = holds (inr h.0) in (s.0 ∙ h.0, h.1 ∙ sym s.1, h.2 ∙ sym s.2)

  pub still_fits : (f : Frame) (given next serving next' serving' : ℕ) (log log' : List (ℕ × E)) (turn turn' : Turn) (j : ℕ) (k : Knowledge E)
      → ((t : ℕ) → k.stage ≡ Waiting t → serving + taken turn ≤ t → t < next → (serving' + taken turn' ≤ t) × (t < next'))
      → ((turn ≡ inside j) ⊎ (turn ≡ reaching j) → (turn' ≡ turn) × (serving' ≡ serving) × (log' ≡ log))
      → IsPrefix log log' → own_of k.is_note k.number log' ≡ own_of k.is_note k.number log
      → Fits f given next serving log turn j k → Fits f given next' serving' log' turn' j k
  still_fits f given next serving next' serving' log log' turn turn' j k waits holds more own h = record {
    at = still_at next serving next' serving' log log' turn turn' j k waits holds k.stage refl h.at;
    framed = h.framed;
    begins = prefix_trans k.seen log log' h.begins more;
    told = prefix_trans k.told log log' h.told more;
    below = h.below;
    own = own ∙ h.own;
  }

  pub fits_at : (f : Frame) (given next serving : ℕ) (log : List (ℕ × E)) (turn : Turn) (j : ℕ) (k : Knowledge E) (g : Stage) → k.stage ≡ g
      → Fits f given next serving log turn j k → IsAt next serving log turn j k g
  fits_at f given next serving log turn j k g is h = subst (λ z. IsAt next serving log turn j k z) is h.at
