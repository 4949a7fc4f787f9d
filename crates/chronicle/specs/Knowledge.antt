-- How what a seat knows changes.
use Rattle.std.specs.Prelude.{◌≡◌, ◌⊎◌, ◌+◌, ℕ, zero, suc, Bool, true, false, List, []}
use mathlib.Core.Option.{Option, some, none}
use mathlib.Core.List.{IsPrefix}
use Rattle.chronicle.specs.Frame.{empty_frame}
use Rattle.chronicle.specs.History.{own_of, NumbersUpTo}
use Rattle.chronicle.specs.declared.knowledge.Knowledge.{Knowledge}
use Rattle.chronicle.specs.declared.knowledge.Stage.{Stage}
use Rattle.chronicle.specs.declared.knowledge.Stage.TheVariants.{Spent, Idle, Waiting, InTurn, WithSlot}

-- the ticket that a seat waits with
abbrev pub waiting_ticket : Stage → Option ℕ
waiting_ticket Spent = none
waiting_ticket Idle = none
waiting_ticket (Waiting t) = some t
waiting_ticket (InTurn t) = none
waiting_ticket (WithSlot t) = none

-- whether it holds the lock, with the slot in its place
abbrev pub is_in_turn : Stage → Bool
is_in_turn Spent = false
is_in_turn Idle = false
is_in_turn (Waiting t) = false
is_in_turn (InTurn t) = true
is_in_turn (WithSlot t) = false

-- between two calls it waits for nothing, and no slot is out with it
abbrev pub Rests : Stage → Type 0
Rests g = (g ≡ Idle) ⊎ ((ticket : ℕ) × (g ≡ InTurn ticket))

-- after the slot went out
abbrev pub slot_out : Stage → Stage
slot_out Spent = Spent
slot_out Idle = Idle
slot_out (Waiting t) = Waiting t
slot_out (InTurn t) = WithSlot t
slot_out (WithSlot t) = WithSlot t

-- after the slot was put back
abbrev pub slot_home : Stage → Stage
slot_home Spent = Spent
slot_home Idle = Idle
slot_home (Waiting t) = Waiting t
slot_home (InTurn t) = InTurn t
slot_home (WithSlot t) = InTurn t

-- the number, unless it is a note's
abbrev pub number_unless : Bool → ℕ → Option ℕ
number_unless true n = none
number_unless false n = some n

-- how many tokens were made from it, if it is no note and has number 0
abbrev pub made_if_first : Bool → ℕ → ℕ → Option ℕ
made_if_first true n m = none
made_if_first false zero m = some m
made_if_first false (suc n) m = none

module _ {E : Type 0} where
  -- the ticket that it waits with
  abbrev pub ticket_of : Knowledge E → Option ℕ
  ticket_of k = waiting_ticket k.stage

  -- the number under which it may enter
  abbrev pub number_of : Knowledge E → Option ℕ
  number_of k = number_unless k.is_note k.number

  -- how many numbers were given, which only the first token knows
  abbrev pub given_by : Knowledge E → Option ℕ
  given_by k = made_if_first k.is_note k.number k.made

  -- the same, at another stage
  abbrev pub with_stage : Stage → Knowledge E → Knowledge E
  with_stage g k = record {
    marker = k.marker;
    stage = g;
    is_note = k.is_note;
    number = k.number;
    made = k.made;
    seen = k.seen;
    told = k.told;
    frame = k.frame;
  }

  -- the same, at a stage and with a prefix of the history that it has seen
  abbrev pub having_seen : Stage → List (ℕ × E) → Knowledge E → Knowledge E
  having_seen g log k = record {
    marker = k.marker;
    stage = g;
    is_note = k.is_note;
    number = k.number;
    made = k.made;
    seen = log;
    told = k.told;
    frame = k.frame;
  }

  -- the first token, after one more was made from it
  abbrev pub after_making : Knowledge E → Knowledge E
  after_making k = record {
    marker = k.marker;
    stage = k.stage;
    is_note = k.is_note;
    number = k.number;
    made = k.made + 1;
    seen = k.seen;
    told = k.told;
    frame = k.frame;
  }

  -- the token that is made from it
  abbrev pub made_from : Knowledge E → Knowledge E
  made_from k = record {
    marker = k.marker;
    stage = Idle;
    is_note = false;
    number = k.made + 1;
    made = 0;
    seen = k.seen;
    told = [];
    frame = k.frame;
  }

  -- a note of what it has seen
  abbrev pub note_of : Knowledge E → Knowledge E
  note_of k = record {
    marker = k.marker;
    stage = Idle;
    is_note = true;
    number = 0;
    made = 0;
    seen = k.seen;
    told = [];
    frame = k.frame;
  }

  -- it is shown what another has seen
  abbrev pub told_of : Knowledge E → Knowledge E → Knowledge E
  told_of k other = record {
    marker = k.marker;
    stage = k.stage;
    is_note = k.is_note;
    number = k.number;
    made = k.made;
    seen = k.seen;
    told = other.seen;
    frame = k.frame;
  }

  -- the other one then
  abbrev pub spent : Knowledge E
  spent = record {
    marker = record {};
    stage = Spent;
    is_note = true;
    number = 0;
    made = 0;
    seen = [];
    told = [];
    frame = empty_frame;
  }

  -- the first token has seen no entry under a number that was not given yet
  abbrev pub Counts : List (ℕ × E) → Knowledge E → Type 0
  Counts log k = (m : ℕ) → given_by k ≡ some m → NumbersUpTo m log

  -- it has seen all that it had seen, and nothing more of its own
  abbrev pub Learns : Knowledge E → List (ℕ × E) → Type 0
  Learns k log = IsPrefix k.seen log × (own_of k.is_note k.number log ≡ own_of k.is_note k.number k.seen) × Counts log k
