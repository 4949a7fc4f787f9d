-- The rule of a chronicle, which holds between any two steps of any threads.
-- Word 0 is the next ticket. Word 1 is the ticket that is served. Word 2 is how many entries were entered since
-- opening,
-- modulo 2 ^ 64. Word 3 is whether a thread may be sleeping; the rule does not restrict it.
-- The only slot has the value, or None while a seat in its turn has it.
use Rattle.std.specs.Prelude.{◌≡◌, ◌≢◌, ℕ, ◌+◌, ◌%◌, ◌^◌, ◌<◌, ◌≤◌, true, false, List, [], ◌∷◌, length, Option, Some}
use Rattle.std.specs.Prelude.{None}
use mathlib.Core.Option.{some, none}
use mathlib.Core.Option as maybe
use mathlib.Core.List.{IsPrefix}
use lib.ListN.{get_elem?}
use Rattle.std.specs.declared.snapshot.Snapshot.{Snapshot}
use Rattle.atomic_table.specs.Table.{State}
use Rattle.chronicle.specs.Frame.{Frame}
use Rattle.chronicle.specs.History.{entries, own_of, numbered, NumbersUpTo}
use Rattle.chronicle.specs.Knowledge.{waiting_ticket, ticket_of, number_of, given_by}
use Rattle.chronicle.specs.declared.knowledge.Knowledge.{Knowledge}
use Rattle.chronicle.specs.declared.knowledge.Stage.{Stage}
use Rattle.chronicle.specs.declared.knowledge.Stage.TheVariants.{Spent, Idle, Waiting, InTurn, WithSlot}

-- Who holds the lock, and where the slot is: nobody, and the value is in its slot; one seat, and the slot is in its
-- place and empty;
-- or one seat, and the slot is out with it.
pub data Turn : Type 0 where
  nobody : Turn
  inside : ℕ → Turn
  reaching : ℕ → Turn

-- how many seats hold the lock
abbrev pub taken : Turn → ℕ
taken nobody = 0
taken (inside j) = 1
taken (reaching j) = 1

-- 1 for a ticket, 0 for none
abbrev pub one_if : maybe.Option ℕ → ℕ
one_if none = 0
one_if (some t) = 1

module _ {E : Type 0} where
  -- how many seats wait
  abbrev pub waiting : List (Knowledge E) → ℕ
  waiting [] = 0
  waiting (k ∷ ks) = one_if (waiting_ticket k.stage) + waiting ks

  -- no two seats have the same key
  abbrev pub Apart : (Knowledge E → maybe.Option ℕ) → List (Knowledge E) → Type 0
  Apart key views = (i j x : ℕ) (k l : Knowledge E) → get_elem? views i ≡ some k → get_elem? views j ≡ some l
      → key k ≡ some x → key l ≡ some x → i ≡ j

  -- the first token knows how many numbers were given
  abbrev pub KnowsGiven : ℕ → List (Knowledge E) → Type 0
  KnowsGiven given views = (j m : ℕ) (k : Knowledge E) → get_elem? views j ≡ some k → given_by k ≡ some m → m ≡ given

  -- A waiting ticket is not served yet. The seat that holds the lock has the served ticket, and has seen the whole
  -- history.
  abbrev pub IsAt : ℕ → ℕ → List (ℕ × E) → Turn → ℕ → Knowledge E → Stage → Type 0
  IsAt next serving log turn j k Spent = k.is_note ≡ true
  IsAt next serving log turn j k Idle = Unit {0}
  IsAt next serving log turn j k (Waiting ticket) = (serving + taken turn ≤ ticket) × (ticket < next)
  IsAt next serving log turn j k (InTurn ticket) = (turn ≡ inside j) × (ticket ≡ serving) × (k.seen ≡ log)
  IsAt next serving log turn j k (WithSlot ticket) = (turn ≡ reaching j) × (ticket ≡ serving) × (k.seen ≡ log)

  -- what the seat j knows is true
  pub record Fits (frame : Frame) (given next serving : ℕ) (log : List (ℕ
      × E)) (turn : Turn) (j : ℕ) (k : Knowledge E) : Type 0 where
    pub at : IsAt next serving log turn j k k.stage
    pub framed : k.stage ≢ Spent → k.frame ≡ frame
    pub begins : IsPrefix k.seen log
    pub told : IsPrefix k.told log
    pub below : (x : ℕ) → number_of k ≡ some x → x ≤ given
    -- it has seen all that was entered under its number
    pub own : own_of k.is_note k.number log ≡ own_of k.is_note k.number k.seen

module _ {V E : Type 0} where
  -- If nobody holds the lock, the slot has a value that represents the whole history, and has the frame.
  abbrev pub SlotAt : (V → List E → Type 0) → (V → Frame) → Frame → List (ℕ × E) → List (maybe.Option (Option V))
      → Turn → Type 0
  SlotAt stands frame f log homes nobody = (v : V) × (homes ≡ some (Some v) ∷ []) × stands v (entries log)
      × (frame v ≡ f)
  SlotAt stands frame f log homes (inside j) = homes ≡ some None ∷ []
  SlotAt stands frame f log homes (reaching j) = homes ≡ none ∷ []

  -- `about` is the value that the chronicle was opened with
  pub record IsChronicle (stands : V → List E → Type 0) (frame : V → Frame) (opening : V
      → List E) (about : Snapshot V) (s : State (Option V) (Knowledge E)) : Type 0 where
    -- the history, which exists in the proofs only
    pub log : List (ℕ × E)
    pub turn : Turn
    -- how many numbers were given after 0
    pub given : ℕ
    pub next : ℕ
    pub serving : ℕ
    pub entered : ℕ
    pub sleeping : ℕ
    pub words : s.words ≡ next ∷ serving ∷ (entered % 2 ^ 64) ∷ sleeping ∷ []
    pub counted : length log ≡ length (opening about.value) + entered
    -- the tickets out are as many as the difference
    pub tickets_out : serving + (taken turn + waiting s.views) ≡ next
    pub bounded : next < 2 ^ 64
    pub slot : SlotAt stands frame (frame about.value) log s.homes turn
    pub each : (j : ℕ) (k : Knowledge E) → get_elem? s.views j ≡ some k
        → Fits (frame about.value) given next serving log turn j k
    pub tickets : Apart ticket_of s.views
    pub numbers : Apart number_of s.views
    pub within : NumbersUpTo given log
    pub knows_given : KnowsGiven given s.views

  -- what the first seat knows
  abbrev pub first_of : (V → Frame) → (V → List E) → Snapshot V → Knowledge E
  first_of frame opening about = record {
    marker = record {};
    stage = Idle;
    is_note = false;
    number = 0;
    made = 0;
    seen = numbered 0 (opening about.value);
    told = [];
    frame = frame about.value;
  }
