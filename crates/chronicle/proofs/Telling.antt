-- Steps that make tokens and notes, and put what two have seen together, keep the rule.
use Rattle.std.proofs.Math.Nat.{le_refl}
use Rattle.std.proofs.Common.{◌≡◌, ℕ, ◌+◌, ◌≤◌, ◌≢◌, ⊎_elim, Bool, false, List, [], ◌∷◌, ◌++◌, set, sym, refl, ap, ◌∙◌, subst, arith, Option}
use mathlib.Core.Option.{none, some, some-injective, some-ne-none}
use lib.ListN.{get_elem?}
use lib.Seq.{set-get_or}
use Rattle.std.specs.declared.snapshot.Snapshot.{Snapshot}
use Rattle.atomic_table.specs.Table.{Me, keeps, step, Allows, Splits, Joins}
use Rattle.atomic_table.proofs.Lists.{set_else, at_set, set_again}
use Rattle.chronicle.specs.Frame.{Frame}
use Rattle.chronicle.specs.History.{own_of, longer}
use Rattle.chronicle.specs.Knowledge.{waiting_ticket, number_unless, number_of, given_by, after_making, made_from, note_of, told_of, spent, having_seen}
use Rattle.chronicle.specs.Rule.{IsAt}
use Rattle.chronicle.specs.Steps.{Compares}
use Rattle.chronicle.specs.declared.knowledge.Knowledge.{Knowledge}
use Rattle.chronicle.specs.declared.knowledge.Stage.TheVariants.{Spent, Idle}
use Rattle.chronicle.proofs.Entries.{own_of-above, own_of-between, NumbersUpTo-prefix, longer_begins}
use Rattle.chronicle.proofs.Seats.{made_if_first-next, number_of-first, given_by-first, given_set, given_same}
use Rattle.chronicle.proofs.Keeping.{Board, Rule, counts, renew, arrive}

module _ {V E : Type 0} (stands : V → List E → Type 0) (frame : V → Frame) (begun : V → List E) (about : Snapshot V) where
  abbrev S : Board stands frame begun about → Type 0
  S = Rule stands frame begun about

  -- a note of a token
  pub notes : (id : ℕ) (k : Knowledge E) → k.stage ≢ Spent → Splits S id k k (note_of k)
  notes id k there s r at = let h = r.each id k at in subst (λ (vs : List (Knowledge E)). S record { words = s.words; homes = s.homes; views = vs ++ note_of k ∷ [] }) (sym (set_again s.views id k at))
      (arrive stands frame begun about s r (note_of k) refl (h.framed there) h.begins refl refl refl (λ x j l e. absurd (some-ne-none x (sym e))) (λ x e. absurd (some-ne-none x (sym e))))

  -- a token of the next number
  pub makes : (id : ℕ) (k : Knowledge E) → k.stage ≢ Spent → k.is_note ≡ false → k.number ≡ 0 → Splits S id k (after_making k) (made_from k)
  makes id k there real first s r at =
      let h = r.each id k at in
      let gives : given_by k ≡ some k.made = given_by-first k real first in
      let gives' : given_by (after_making k) ≡ some (k.made + 1) = given_by-first (after_making k) real first in
      let zeroth : number_of k ≡ some 0 = ap (λ (y : Bool × ℕ). number_unless y.0 y.1) (λ q. (real q, first q)) in
      let is : k.made ≡ r.given = r.knows_given id k.made k at gives in
      let s' : Board stands frame begun about = record { words = s.words; homes = s.homes; views = set s.views id (after_making k) } in
      let r' = renew stands frame begun about s r (k.made + 1) id k (after_making k) (omega arith)
      (λ j m l ej by. ⊎_elim (λ (t : (j ≡ id) × (after_making k ≡ l)). sym (some-injective (k.made + 1) m (sym gives' ∙ (ap given_by t.1 ∙ by))))
      (λ (t : (j ≢ id) × (get_elem? s.views j ≡ some l)). absurd (t.0 (r.numbers j id 0 l k t.1 at (number_of-first l m by) zeroth))) (at_set s.views id j (after_making k) l ej))
      at
      record { at = h.at; framed = h.framed; begins = h.begins; told = h.told; own = h.own; below = λ x e. let b = h.below x e in omega arith }
      refl (λ x e. e) in
      let above = own_of-above false (k.made + 1) r.given in
      arrive stands frame begun about s' r' (made_from k) refl (h.framed there) h.begins refl
      (above r.log r.within (omega arith) ∙ sym (above k.seen (NumbersUpTo-prefix r.given k.seen r.log h.begins r.within) (omega arith)))
      (made_if_first-next k.made)
      (λ x j l e ej el. let q : k.made + 1 ≡ x = some-injective (k.made + 1) x e in
      let small : x ≤ r.given = ⊎_elim (λ (t : (j ≡ id) × (after_making k ≡ l)). h.below x (ap number_of t.1 ∙ el)) (λ (t : (j ≢ id) × (get_elem? s.views j ≡ some l)). (r.each j l t.1).below x el) (at_set s.views id j (after_making k) l ej) in omega arith)
      (λ x e. let q : k.made + 1 ≡ x = some-injective (k.made + 1) x e in omega arith)

  -- one token is told what another has seen, and the other is spent
  pub joins : (id other : ℕ) (k l : Knowledge E) → l.stage ≡ Idle → Joins S id k other l (told_of k l) spent
  joins id other k l idle s r at apart there =
      let h = r.each id k at in
      let there' : get_elem? s.views other ≡ some l = sym (set_else s.views id other (told_of k l) apart) ∙ there in
      let r' = renew stands frame begun about s r r.given id k (told_of k l) (le_refl r.given) (given_same s.views id k (told_of k l) r.given r.knows_given at refl) at
      record { at = h.at; framed = h.framed; begins = h.begins; told = (r.each other l there').begins; own = h.own; below = h.below } refl (λ x e. e) in
      renew stands frame begun about record { words = s.words; homes = s.homes; views = set s.views id (told_of k l) } r' r.given other l spent (le_refl r.given)
      (given_set (set s.views id (told_of k l)) other spent r.given r'.knows_given (λ m by. absurd (some-ne-none m (sym by)))) there
      record { at = refl; framed = λ e. absurd (e refl); begins = (r.log, refl); told = (r.log, refl); own = refl; below = λ x e. absurd (some-ne-none x (sym e)) }
      (sym (ap waiting_ticket idle)) (λ x e. absurd (some-ne-none x (sym e)))

  -- what was told is compared with what was seen
  pub compares : (slots id : ℕ) (m : Me (Option V) (Knowledge E)) → m.0.stage ≡ Idle → Allows S slots id m 1 (λ n. n) (Compares (step slots 1 0 0 none) m)
  compares slots id m idle s r len at bound =
      let k : Knowledge E = m.0 in
      let h = r.each id k at in
      let long : List (ℕ × E) = longer k.seen k.told in
      let facts = longer_begins k.seen k.told r.log h.begins h.told in
      let own : own_of k.is_note k.number long ≡ own_of k.is_note k.number k.seen = own_of-between k.is_note k.number k.seen long r.log facts.1 facts.0 h.own in
      let w : Knowledge E = having_seen k.stage long k in (
        w,
        keeps,
        tt,
        subst (λ ws. S record { words = ws; homes = s.homes; views = set s.views id w }) (sym (set-get_or s.words 1 0))
            (renew stands frame begun about s r r.given id k w (le_refl r.given) (given_same s.views id k w r.given r.knows_given at refl) at
            record { at = subst (λ g. IsAt r.next r.serving r.log r.turn id w g) (sym idle) tt; framed = h.framed; begins = facts.0; told = h.told; own = h.own ∙ sym own; below = h.below } refl (λ x e. e)),
        (refl, facts.2, facts.3, (facts.1, own, λ n by. NumbersUpTo-prefix n long r.log facts.0 (counts stands frame begun about s r id k at n by))),
      )
