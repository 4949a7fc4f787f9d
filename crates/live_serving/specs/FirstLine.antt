-- What is got before the first line is whole.
use Rattle.std.specs.Prelude.{◌≡◌, ◌<◌, ◌≤◌, ℕ, Bool, true, false, List, [], ◌∷◌, length, Option, Some, None}
use Rattle.std.specs.Prelude.{Result, Ok, Err}
use Rattle.std.specs.Io.KnownBytes.{Consumes, IsAtEnd}
use Rattle.facet_io.specs.Faults.{Rose}
use Rattle.live_io.specs.Events.{Event, IsPrompt, flushed_in, got_in, put_in}
use Rattle.live_io.specs.Unread.{IsUnread, Unread, first_feed, line_len}
use Rattle.live_io.specs.declared.duplex.Duplex.{Ghosts}
use Rattle.live_lines.specs.Lines.{most_bytes}
use Rattle.live_serving.specs.Lines.{whole_lines}
use Rattle.live_serving.specs.declared.first_line.FirstFault.{FirstFault}
use Rattle.live_serving.specs.declared.first_line.FirstFault.TheVariants.{Read, TooLong, NoLine, NoMemory}
use Rattle.live_serving.specs.declared.first_line.FirstLine.{FirstLine}

-- nothing is due before the first line is whole
abbrev pub StartsLate : (List ℕ → List ℕ) → Type 0
StartsLate due_then = (bytes : List ℕ) → whole_lines bytes ≡ [] → due_then bytes ≡ []

module _ {X : Type 0} (io : Ghosts X) (before now : X) where
  -- These bytes were got, and nothing was put or flushed. No line was whole before the last read call.
  pub record HasGot (got : List ℕ) : Type 0 where
    pub consumed : Consumes (io.left before) (io.left now) got
    pub written : io.written now ≡ io.written before
    pub writes : io.write_faults now ≡ io.write_faults before
    pub told : io.events before ≡ Some [] → (es : List Event) × (io.events now ≡ Some es) × (got_in es ≡ got)
        × (put_in es ≡ []) × (flushed_in es ≡ [])
        × ((due_then : List ℕ → List ℕ) → StartsLate due_then → IsPrompt due_then es)

  -- the first line is there: whole, or what is left at the end of input
  pub record HasFirst (u : Unread) (line : FirstLine) : Type 0 where
    pub got : List ℕ
    pub has : HasGot got
    pub reads : io.read_faults now ≡ io.read_faults before
    pub unread : IsUnread most_bytes [] u got
    pub kept : u.dropped ≡ false
    pub fits : line.len ≤ most_bytes
    pub whole : line.is_ended ≡ false → first_feed u.bytes ≡ Some line.len
    pub ended : line.is_ended ≡ true → (first_feed u.bytes ≡ None) × (line.len ≡ length u.bytes) × (0 < line.len)
        × IsAtEnd (io.left now)

  -- no line was whole, whatever was got of the first one
  pub record HasNone (u : Unread) : Type 0 where
    pub got : List ℕ
    pub has : HasGot got
    pub unread : IsUnread most_bytes [] u got
    pub none : first_feed u.bytes ≡ None

  -- the first line has too many bytes
  pub record HasLong (u : Unread) : Type 0 where
    pub got : List ℕ
    pub has : HasGot got
    pub unread : IsUnread most_bytes [] u got
    pub long : u.dropped ≡ false → most_bytes < line_len u.bytes

  abbrev pub FailsFirst : Unread → FirstFault → Type 0
  FailsFirst u Read = Rose (io.read_faults before) (io.read_faults now) × HasNone u
  FailsFirst u NoMemory = (io.read_faults now ≡ io.read_faults before) × ((got : List ℕ) × HasGot got)
  FailsFirst u NoLine = (io.read_faults now ≡ io.read_faults before) × IsAtEnd (io.left now) × HasGot []
  FailsFirst u TooLong = (io.read_faults now ≡ io.read_faults before) × HasLong u

  -- Nothing was found yet: what was got has no whole line, and no byte of it was dropped.
  pub record GoesOnReading (u : Unread) : Type 0 where
    pub none : HasNone u
    pub kept : u.dropped ≡ false
    pub reads : io.read_faults now ≡ io.read_faults before

  -- what was found
  abbrev pub Finds : Unread → Result (Option FirstLine) FirstFault → Type 0
  Finds u (Ok None) = GoesOnReading u
  Finds u (Ok (Some line)) = HasFirst u line
  Finds u (Err fault) = FailsFirst u fault

-- what a look at the unread bytes finds, after a read call that got so many
abbrev pub Looks : ℕ → Unread → Result (Option FirstLine) FirstFault → Type 0
Looks count u (Ok None) = (u.dropped ≡ false) × (first_feed u.bytes ≡ None)
Looks count u (Ok (Some line)) = (u.dropped ≡ false) × (line.len ≤ most_bytes)
    × (line.is_ended ≡ false → first_feed u.bytes ≡ Some line.len)
    × (line.is_ended ≡ true → (count ≡ 0) × (line.len ≡ length u.bytes) × (0 < line.len))
Looks count u (Err TooLong) = u.dropped ≡ false → most_bytes < line_len u.bytes
Looks count u (Err NoLine) = (count ≡ 0) × (u.dropped ≡ false) × (u.bytes ≡ [])
Looks count u (Err Read) = ⊥
Looks count u (Err NoMemory) = ⊥
