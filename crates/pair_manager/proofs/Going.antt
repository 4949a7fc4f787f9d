-- Tokens that have seen on, step after step.
use Rattle.std.proofs.Common.{◌≡◌, ℕ, List, false, refl, ◌∙◌, subst, sym}
use Rattle.chronicle.specs.Shown.{Shown, MayTake, SameToken, SeesOn}
use Rattle.chronicle.proofs.Prefixes.{prefix_self, prefix_trans}
use Rattle.facet_model.specs.Histories.{Operation}
use Rattle.pair_manager.specs.Next.{GoOn}

module _ {E : Type 0} where
  pub same_self : (a : Shown E) → SameToken a a
  same_self a = (refl, refl, refl, refl, refl, refl)

  pub same_on : (a b c : Shown E) → SameToken a b → SameToken b c → SameToken a c
  same_on a b c p q = (q.0 ∙ p.0, q.1 ∙ p.1, q.2 ∙ p.2, q.3 ∙ p.3, q.4 ∙ p.4, q.5 ∙ p.5)

  -- a token that may take stays one
  pub rests_on : (a b : Shown E) → SameToken a b → b.holds_turn ≡ false → MayTake a → MayTake b
  rests_on a b p rests may = (p.2 ∙ may.0, rests, p.5 ∙ may.2)

  pub sees_self : (a : Shown E) → SeesOn a a
  sees_self a = (prefix_self a.seen, refl)

  pub sees_on : (a b c : Shown E) → SeesOn a b → SeesOn b c → SeesOn a c
  sees_on a b c p q = (prefix_trans a.seen b.seen c.seen p.0 q.0, q.1 ∙ p.1)

-- where the tokens are given by equations
pub go_as : (labels l l' : Shown (List (List ℕ))) (operations o o' : Shown Operation) → l' ≡ l → o' ≡ o → GoOn labels l operations o → GoOn labels l' operations o'
go_as labels l l' operations o o' p q go =
    subst (λ (t : Shown (List (List ℕ))). GoOn labels t operations o') (sym p) (subst (λ (t : Shown Operation). GoOn labels l operations t) (sym q) go)
