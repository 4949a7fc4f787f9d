-- What a token shows, and how it may change.
use Rattle.std.specs.Prelude.{◌≡◌, ◌+◌, ◌++◌, ℕ, Bool, true, false, List, [], ◌∷◌}
use mathlib.Core.List.{IsPrefix}
use base.Stored.{Coded, coded×, coded_ℕ, coded_bool, coded_list, coded_via}
use Rattle.atomic_table.specs.Seated.{TableId, table_id_coded}
use Rattle.chronicle.specs.Frame.{Frame, frame_coded}
use Rattle.chronicle.specs.History.{own_of, NumbersUpTo}

pub record Shown (E : Type 0) : Type 0 where
  -- the part of the history that its holder has seen
  pub seen : List (ℕ × E)
  -- the number under which it enters; it has no meaning for a note
  pub number : ℕ
  -- how many tokens were made from it
  pub made : ℕ
  pub is_note : Bool
  pub holds_turn : Bool
  -- it holds the lock for good
  pub has_ended : Bool
  -- the chronicle that it belongs to
  pub identity : TableId
  -- the frame of that chronicle's value
  pub frame : Frame

-- how the proofs store this next to a token
abbrev pub shown_coded : {E : Type 0} → Coded E → Coded (Shown E)
shown_coded {E} c = coded_via (coded× (coded_list (coded× coded_ℕ c))
    (coded× coded_ℕ (coded× coded_ℕ (coded× coded_bool (coded× coded_bool
    (coded× coded_bool (coded× table_id_coded frame_coded)))))))
    (λ (s : Shown E). (s.seen, (s.number, (s.made, (s.is_note, (s.holds_turn, (s.has_ended, (s.identity, s.frame))))))))
    (λ x y e i. record {
      seen = (e i).0;
      number = (e i).1.0;
      made = (e i).1.1.0;
      is_note = (e i).1.1.1.0;
      holds_turn = (e i).1.1.1.1.0;
      has_ended = (e i).1.1.1.1.1.0;
      identity = (e i).1.1.1.1.1.1.0;
      frame = (e i).1.1.1.1.1.1.1;
    })

module _ {E : Type 0} where
  -- the seen entries that its holder entered
  abbrev pub mine : Shown E → List (ℕ × E)
  mine t = own_of t.is_note t.number t.seen

  -- it is no note, and does not hold the lock
  abbrev pub MayTake : Shown E → Type 0
  MayTake t = (t.is_note ≡ false) × (t.holds_turn ≡ false) × (t.has_ended ≡ false)

  -- it holds the lock, and may release it
  abbrev pub MayGive : Shown E → Type 0
  MayGive t = (t.holds_turn ≡ true) × (t.has_ended ≡ false)

  -- it is no note, and holds the lock, but not for good
  abbrev pub MayEnter : Shown E → Type 0
  MayEnter t = (t.is_note ≡ false) × MayGive t

  -- the same token of the same chronicle; what it has seen may differ, and whether it holds the lock
  abbrev pub SameToken : Shown E → Shown E → Type 0
  SameToken old new = (new.number ≡ old.number) × (new.made ≡ old.made) × (new.is_note ≡ old.is_note)
      × (new.identity ≡ old.identity)
      × (new.frame ≡ old.frame) × (new.has_ended ≡ old.has_ended)

  -- the same token, which now holds the lock for good, and has maybe seen more
  abbrev pub EndsWith : Shown E → Shown E → Type 0
  EndsWith old new = new ≡ record old { seen = new.seen; holds_turn = true; has_ended = true }

  -- it has seen all that it had seen, and maybe more of others, but nothing more of its own
  abbrev pub SeesOn : Shown E → Shown E → Type 0
  SeesOn old new = IsPrefix old.seen new.seen × (mine new ≡ mine old)

  -- one more token was made from it, and nothing else changed
  abbrev pub MakesOne : Shown E → Shown E → Type 0
  MakesOne old new = (new.number ≡ old.number) × (new.made ≡ old.made + 1) × (new.is_note ≡ old.is_note)
      × (new.holds_turn ≡ old.holds_turn)
      × (new.seen ≡ old.seen) × (new.identity ≡ old.identity) × (new.frame ≡ old.frame)
      × (new.has_ended ≡ old.has_ended)

  -- a new token of the next number, which has seen the same
  abbrev pub IsMadeFrom : Shown E → Shown E → Type 0
  IsMadeFrom first t = (t.number ≡ first.made + 1) × (t.made ≡ 0) × MayTake t × (t.seen ≡ first.seen)
      × (t.identity ≡ first.identity) × (t.frame ≡ first.frame)

  -- a note of what it has seen
  abbrev pub IsNoteOf : Shown E → Shown E → Type 0
  IsNoteOf of note = (note.is_note ≡ true) × (note.holds_turn ≡ false) × (note.seen ≡ of.seen)
      × (note.identity ≡ of.identity)
      × (note.frame ≡ of.frame) × (note.has_ended ≡ false)

  -- the token of number 0 has seen no entry under a number that was not given yet
  abbrev pub IsCounted : Shown E → Type 0
  IsCounted t = t.is_note ≡ false → t.number ≡ 0 → NumbersUpTo t.made t.seen

-- The token entered this one entry, after all that was there when it got the lock.
pub record EntersBehind {E : Type 0} (entry : E) (old new : Shown E) : Type 0 where
  -- what was there when the entry came
  pub between : List (ℕ × E)
  pub on : IsPrefix old.seen between
  -- nothing of it is the token's own that it had not seen
  pub none : own_of old.is_note old.number between ≡ mine old
  pub seen : new.seen ≡ between ++ (old.number, entry) ∷ []
