-- What a token knows between two calls.
use Rattle.std.proofs.Common.{◌≡◌, ◌≢◌, ⊎_elim, ℕ, ◌+◌, ◌≤◌, Bool, false, List, [], ◌∷◌, subst, ap, sym, ◌∙◌, arith}
use Rattle.std.proofs.lemmas.List.Elements.{All-weaker}
use mathlib.Core.Option.{some-injective}
use Rattle.atomic_table.specs.Seated.{TableId}
use Rattle.chronicle.specs.History.{own_of, numbered}
use Rattle.chronicle.specs.Knowledge.{Rests, Counts, after_making, made_from}
use Rattle.chronicle.specs.Shown.{Shown, mine, IsCounted}
use Rattle.chronicle.specs.TokenView.{shown}
use Rattle.chronicle.specs.declared.knowledge.Knowledge.{Knowledge}
use Rattle.chronicle.specs.declared.knowledge.Stage.{Stage}
use Rattle.chronicle.specs.declared.knowledge.Stage.TheVariants.{Spent, Idle, InTurn}
use Rattle.chronicle.proofs.Entries.{own_of-above, own_of-numbered}
use Rattle.chronicle.proofs.Seats.{given_by-first}

pub not_spent : (g : Stage) → Rests g → g ≢ Spent
not_spent g rests e = ⊎_elim (λ (a : g ≡ Idle). absurd (cc (a, e))) (λ (a : (t : ℕ) × (g ≡ InTurn t)). absurd (cc (a.1, e))) rests

module _ {E : Type 0} where
  pub counted : (z : TableId) (ended : Bool) (views : List (Knowledge E)) (k : Knowledge E) → views ≡ k ∷ [] → Counts k.seen k → IsCounted (shown z ended views)
  counted z ended views k is counts = subst (λ l. IsCounted (shown z ended l)) (sym is) (λ real first. counts k.made (given_by-first k real first))

  -- the first token gave one number more
  pub counts_making : (k : Knowledge E) → k.is_note ≡ false → k.number ≡ 0 → Counts k.seen k → Counts k.seen (after_making k)
  counts_making k real first counts m by =
      let more : k.made + 1 ≡ m = some-injective (k.made + 1) m (sym (given_by-first (after_making k) real first) ∙ by) in
      All-weaker (λ (x : ℕ × E). x.0 ≤ k.made) (λ (x : ℕ × E). x.0 ≤ m) (λ x le. omega arith) k.seen (counts k.made (given_by-first k real first))

  -- a token of a new number has seen nothing of its own
  pub mine-made_from : (z : TableId) (ended : Bool) (views : List (Knowledge E)) (k : Knowledge E) → views ≡ made_from k ∷ [] → k.is_note ≡ false → k.number ≡ 0 → Counts k.seen k → mine (shown z ended views) ≡ []
  mine-made_from z ended views k is real first counts = ap (λ l. mine (shown z ended l)) is ∙ own_of-above false (k.made + 1) k.made k.seen (counts k.made (given_by-first k real first)) (omega arith)

  -- the first token's own are all that it has seen at first
  pub mine-numbered : (t : Shown E) (es : List E) → t.is_note ≡ false → t.number ≡ 0 → t.seen ≡ numbered 0 es → mine t ≡ t.seen
  mine-numbered t es real first seen = (λ i. own_of (real i) (first i) (seen i)) ∙ own_of-numbered es ∙ sym seen
