-- Orders that are given to their sessions.
use Rattle.std.proofs.Common.{◌≡◌, ◌≢◌, ℕ, ◌+◌, ◌<◌, List, [], ◌∷◌, ◌++◌, length, get_or, refl, ap, sym, ◌∙◌, arith, eqb, eq-eqb, ne_eqb, append_assoc, append-nil}
use Rattle.std.specs.Prelude.{set, All}
use Rattle.std.proofs.lemmas.List.{get_or-set_same, get_or-set_other}
use Rattle.std.proofs.lemmas.List.Elements.{at_read, filter-append, All-head, All-tail}
use native.Mathlib.Decide.{ℕ_discrete}
use mathlib.Core.Logic.{dite}
use Rattle.facet_phases.specs.Lanes.{Each, IsDealt, AreNumbered}
use Rattle.facet_phases.specs.Orders.{orders_of}
use Rattle.facet_phases.specs.declared.lane.Lane.{Lane}
use Rattle.facet_words.specs.declared.command.Order.{Order}

-- an order is one of its session's, and of no other's
own_order : (session : ℕ) (o : Order) → o.session ≡ session → orders_of session (o ∷ []) ≡ o ∷ []
own_order session o is = rw (eq-eqb o.session session is) refl

other_order : (session : ℕ) (o : Order) → o.session ≢ session → orders_of session (o ∷ []) ≡ []
other_order session o is = rw (ne_eqb o.session session is) refl

-- orders of one session are all its own
own_orders : (session : ℕ) (os : List Order) → All (λ o. o.session ≡ session) os → orders_of session os ≡ os
own_orders session [] own = refl
own_orders session (o ∷ os) own = filter-append (λ (p : Order). eqb p.session session) (o ∷ []) os ∙ (λ i. own_order session o (All-head (λ o. o.session ≡ session) o os own) i ++ own_orders session os (All-tail (λ o. o.session ≡ session) o os own) i)

module _ {C : Type 0} where
  -- the session whose they are is given them all
  pub dealt_all : (lane given : Lane C) (orders : List Order) → All (λ o. o.session ≡ lane.session.number) orders → lane.orders.items ≡ [] → given.session ≡ lane.session → given.replies ≡ lane.replies
      → given.orders.items ≡ orders → IsDealt orders lane given
  dealt_all lane given orders own idle session replies is = record {
    session = session;
    replies = replies;
    orders = is ∙ sym (own_orders lane.session.number orders own) ∙ ap (λ os. os ++ orders_of lane.session.number orders) (sym idle);
  }

  pub session_kept : (lanes : List (Lane C)) (at : ℕ) (item pushed : Lane C) → at < length lanes → item ≡ get_or lanes at item → pushed.session ≡ item.session → Each (λ old new. new.session ≡ old.session) lanes (set lanes at pushed)
  session_kept lanes at item pushed in' is same i d lt =
      dite (ℕ_discrete i at)
      (λ here. rw (here, get_or-set_same lanes at pushed d in') (at_read lanes (λ (l : Lane C). pushed.session ≡ l.session) at item in' is same d))
      (λ there. rw (get_or-set_other lanes at i pushed d there) refl)

  pub dealt_one : (lanes : List (Lane C)) (at : ℕ) (item pushed : Lane C) (o : Order) → at < length lanes → item ≡ get_or lanes at item → AreNumbered 1 lanes → o.session ≡ at + 1
      → pushed.session ≡ item.session → pushed.replies ≡ item.replies → pushed.orders.items ≡ item.orders.items ++ o ∷ [] → Each (IsDealt (o ∷ [])) lanes (set lanes at pushed)
  dealt_one lanes at item pushed o in' is numbered own session replies orders i d lt =
      dite (ℕ_discrete i at)
      (λ here. rw (here, get_or-set_same lanes at pushed d in')
      (at_read lanes (λ l. IsDealt (o ∷ []) l pushed) at item in' is (record {
        session = session;
        replies = replies;
        orders = orders ∙ ap (λ os. item.orders.items ++ os) (sym (own_order item.session.number o (let n : item.session.number ≡ 1 + at = ap (λ l. l.session.number) is ∙ numbered at item in' in omega arith)));
      }) d))
      (λ there. rw (get_or-set_other lanes at i pushed d there) (record {
        session = refl;
        replies = refl;
        orders = sym (append-nil (get_or lanes i d).orders.items) ∙ ap (λ os. (get_or lanes i d).orders.items ++ os) (sym (other_order (get_or lanes i d).session.number o (λ same. let n = numbered i d lt in there (omega arith))));
      }))

  -- some orders, and then some more
  pub dealt_then : (os ps : List Order) (a b c : Lane C) → IsDealt os a b → IsDealt ps b c → IsDealt (os ++ ps) a c
  dealt_then os ps a b c first second = record {
    session = second.session ∙ first.session;
    replies = second.replies ∙ first.replies;
    orders = second.orders ∙ (λ i. first.orders i ++ orders_of (first.session i).number ps) ∙ append_assoc a.orders.items (orders_of a.session.number os) (orders_of a.session.number ps)
        ∙ ap (λ l. a.orders.items ++ l) (sym (filter-append (λ (o : Order). eqb o.session a.session.number) os ps));
  }
