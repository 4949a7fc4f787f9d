-- Bytes that were got and belong to lines that were not taken yet. A line ends with a line feed, byte 10.
use Rattle.std.specs.Prelude.{◌≡◌, ◌<◌, ◌+◌, ◌==◌, ◌++◌, ◌∷◌, ◌||◌, ℕ, if◌then◌else◌, nat_lt, Bool, true, false, List, []}
use Rattle.std.specs.Prelude.{length, take, drop, Option, None}
use Rattle.std.specs.List.{position, position_or_len}
use Rattle.std.specs.Io.KnownBytes.{Consumes, IsAtEnd}
use Rattle.live_io.specs.Events.{Event, got, noted}

-- the place of the first line feed
abbrev pub first_feed : List ℕ → Option ℕ
first_feed bytes = position (λ b. b == 10) bytes

-- how many bytes there are before the first line feed, or in all
abbrev pub line_len : List ℕ → ℕ
line_len bytes = position_or_len (λ b. b == 10) bytes

-- The bytes that were got and not taken. `dropped`: bytes before them, of the same line, were dropped, since the line is
-- longer than the limit.
pub record Unread : Type 0 where
  pub dropped : Bool
  pub bytes : List ℕ

abbrev pub nothing_unread : Unread
nothing_unread = record { dropped = false; bytes = [] }

-- after the first line, of `len` bytes, and its line feed
abbrev pub passed : ℕ → Unread → Unread
passed len u = record { dropped = false; bytes = drop (len + 1) u.bytes }

-- the bytes of the first line are dropped
abbrev pub shortened : List ℕ → Unread
shortened bytes = record { dropped = true; bytes = drop (line_len bytes) bytes }

-- These bytes were got too. If the first line now has more bytes than the limit, or bytes of it were dropped before, then
-- all its bytes are dropped.
abbrev pub with_got : ℕ → List ℕ → Unread → Unread
with_got limit more u =
    if u.dropped || nat_lt limit (line_len (u.bytes ++ more))
    then shortened (u.bytes ++ more)
    else record { dropped = false; bytes = u.bytes ++ more }

-- Of the bytes that were got, those of `consumed` were taken and those of `unread` are left. Between them are only bytes
-- of the first line that were dropped.
pub record IsUnread (limit : ℕ) (consumed : List ℕ) (unread : Unread) (got : List ℕ) : Type 0 where
  pub gone : List ℕ
  pub parts : got ≡ consumed ++ gone ++ unread.bytes
  pub no_feed : first_feed gone ≡ None
  pub kept : unread.dropped ≡ false → gone ≡ []
  pub long : unread.dropped ≡ true → limit < length gone

-- The first line was taken: what it is, and what is unread then.
pub record TakesLine (limit : ℕ) (consumed : List ℕ) (old : Unread) (len : ℕ) (new : Unread) (got : List ℕ) : Type 0 where
  pub line : List ℕ
  pub no_feed : first_feed line ≡ None
  pub kept : old.dropped ≡ false → line ≡ take len old.bytes
  pub long : old.dropped ≡ true → limit < length line
  pub unread : IsUnread limit (consumed ++ line ++ 10 ∷ []) new got

-- What is left of a line at the end of input.
pub record LeavesLine (limit : ℕ) (consumed : List ℕ) (unread : Unread) (got : List ℕ) : Type 0 where
  pub line : List ℕ
  pub parts : got ≡ consumed ++ line
  pub no_feed : first_feed line ≡ None
  pub kept : unread.dropped ≡ false → line ≡ unread.bytes
  pub long : unread.dropped ≡ true → limit < length line

-- One read call that returned n bytes: which bytes, where they come from, and what is unread then.
pub record Fills (limit n : ℕ) (old new : Unread) (left left' : Option (List ℕ)) (events events' : Option (List Event)) : Type 0 where
  pub bytes : List ℕ
  pub count : n ≡ length bytes
  pub state : new ≡ with_got limit bytes old
  pub taken : Consumes left left' bytes
  pub told : events' ≡ noted (got bytes) events
  pub end : n ≡ 0 → IsAtEnd left'
  pub unread : (consumed before : List ℕ) → IsUnread limit consumed old before → IsUnread limit consumed new (before ++ bytes)
