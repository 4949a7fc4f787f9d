-- A token as contracts see it: what its only seat knows.
use Rattle.std.specs.Prelude.{◌≡◌, Bool, true, false, List, [], ◌∷◌}
use Rattle.atomic_table.specs.Seated.{TableId}
use Rattle.chronicle.specs.Frame.{empty_frame}
use Rattle.chronicle.specs.Knowledge.{is_in_turn, Rests, Counts}
use Rattle.chronicle.specs.Shown.{Shown}
use Rattle.chronicle.specs.declared.knowledge.Knowledge.{Knowledge}
use Rattle.chronicle.specs.declared.token.Token.TheInside.{Inside}

module _ {E : Type 0} where
  -- of a seat of the table z that knows k
  abbrev pub shown_by : TableId → Bool → Knowledge E → Shown E
  shown_by z ended k = record {
    seen = k.seen;
    number = k.number;
    made = k.made;
    is_note = k.is_note;
    holds_turn = is_in_turn k.stage;
    has_ended = ended;
    identity = z;
    frame = k.frame;
  }

  -- a token has one seat; with none it shows nothing
  abbrev pub shown : TableId → Bool → List (Knowledge E) → Shown E
  shown z ended [] = record {
    seen = [];
    number = 0;
    made = 0;
    is_note = true;
    holds_turn = false;
    has_ended = ended;
    identity = z;
    frame = empty_frame;
  }
  shown z ended (k ∷ ks) = shown_by z ended k

  abbrev pub view_of : Inside E → Shown E
  view_of t = shown t.badge.table_id t.ended t.badge.views

  -- the numbers that the code reads are those that the seat knows
  abbrev pub IsToken : Inside E → Type 0
  IsToken t = (k : Knowledge E) × (t.badge.views ≡ k ∷ []) × (t.number ≡ k.number) × (t.made ≡ k.made) × Rests k.stage
      × Counts k.seen k
