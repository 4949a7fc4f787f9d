-- What each step on the table shows its caller. `m` is the seat before and `m'` after it: what it knows, and the slots
-- that are out with it. `r` is the number found.
use Rattle.std.specs.Prelude.{◌≡◌, ◌⊎◌, ◌≢◌, ℕ, List, [], ◌∷◌, ◌++◌, Option, Some, None}
use mathlib.Core.List.{IsPrefix}
use Rattle.atomic_table.specs.Table.{Me, Step}
use Rattle.chronicle.specs.Frame.{Frame}
use Rattle.chronicle.specs.History.{entries, longer}
use Rattle.chronicle.specs.Knowledge.{with_stage, having_seen, slot_out, slot_home, Learns}
use Rattle.chronicle.specs.declared.knowledge.Knowledge.{Knowledge}
use Rattle.chronicle.specs.declared.knowledge.Stage.TheVariants.{Idle, Waiting, WithSlot}

-- a step of a table whose slot has a V, and whose seats know of entries E
abbrev pub Telling : Type 0 → Type 0 → Type 1
Telling V E = Step (Option V) → Me (Option V) (Knowledge E) → ℕ → Me (Option V) (Knowledge E) → Type 0

module _ {V E : Type 0} where
  -- if the number found is the expected one, it is the caller's ticket
  abbrev pub Draws : Telling V E
  Draws st m r m' = (r ≡ st.first → m' ≡ (with_stage (Waiting st.first) m.0, m.1)) × (r ≢ st.first → m' ≡ m)

  -- nothing
  abbrev pub Calls : Telling V E
  Calls st m r m' = m' ≡ m

  -- If the served ticket is the caller's, the slot is out with it. Its value represents the whole history, which the
  -- caller has then seen.
  abbrev pub Looks : (V → List E → Type 0) → (V → Frame) → Telling V E
  Looks stands frame st m r m' =
      (m.0.stage ≡ Waiting r → (v : V) × (log : List (ℕ × E))
      × (m' ≡ (having_seen (WithSlot r) log m.0, (0, Some v) ∷ [])) × stands v (entries log)
      × (frame v ≡ m.0.frame) × Learns m.0 log)
      × (m.0.stage ≢ Waiting r → m' ≡ m)

  -- the empty slot is out with the caller
  abbrev pub TakesSlot : Telling V E
  TakesSlot st m r m' = m' ≡ (with_stage (slot_out m.0.stage) m.0, (0, None) ∷ [])

  -- the slot is back in its place, and no slot is out with the caller
  abbrev pub ReturnsSlot : Telling V E
  ReturnsSlot st m r m' = m' ≡ (with_stage (slot_home m.0.stage) m.0, [])

  -- the slot is back in its place, and the turn is over
  abbrev pub Passes : Telling V E
  Passes st m r m' = m' ≡ (with_stage Idle m.0, [])

  -- the entry is under the caller's number at the end of all that it has seen
  abbrev pub Enters : Option E → Telling V E
  Enters added st m r m' = (e : E) × (added ≡ Some e) × (m' ≡ (
    having_seen m.0.stage (m.0.seen
        ++ (m.0.number, e) ∷ []) m.0,
    m.1,
  ))

  -- of what it has seen and what it was shown, one is a prefix of the other, and it has then seen the longer
  abbrev pub Compares : Telling V E
  Compares st m r m' =
      (m' ≡ (having_seen m.0.stage (longer m.0.seen m.0.told) m.0, m.1))
      × (IsPrefix m.0.seen m.0.told ⊎ IsPrefix m.0.told m.0.seen)
      × IsPrefix m.0.told (longer m.0.seen m.0.told)
      × Learns m.0 (longer m.0.seen m.0.told)
