-- What happened to a source and a sink that are one object, the newest event first.
use Rattle.std.specs.Prelude.{◌≡◌, ◌++◌, ℕ, List, [], ◌∷◌, take, Option, Some, None, option_map, Result, Ok, Err}

pub data Event : Type 0 where
  -- a read call, with the bytes that it returned; no byte is the end of input
  got : List ℕ → Event
  -- a write call, with the bytes that it appended
  put : List ℕ → Event
  flushed : Event

-- all bytes that were got
abbrev pub got_in : List Event → List ℕ
got_in [] = []
got_in (got bs ∷ earlier) = got_in earlier ++ bs
got_in (put bs ∷ earlier) = got_in earlier
got_in (flushed ∷ earlier) = got_in earlier

-- all bytes that were put
abbrev pub put_in : List Event → List ℕ
put_in [] = []
put_in (got bs ∷ earlier) = put_in earlier
put_in (put bs ∷ earlier) = put_in earlier ++ bs
put_in (flushed ∷ earlier) = put_in earlier

-- all bytes that were put before the last flush
abbrev pub flushed_in : List Event → List ℕ
flushed_in [] = []
flushed_in (got bs ∷ earlier) = flushed_in earlier
flushed_in (put bs ∷ earlier) = flushed_in earlier
flushed_in (flushed ∷ earlier) = put_in earlier

-- Before each read call, exactly the bytes that were due were put and flushed. `due` says which bytes are due once these
-- bytes were got.
abbrev pub IsPrompt : (List ℕ → List ℕ) → List Event → Type 0
IsPrompt due [] = Unit {0}
IsPrompt due (got bs ∷ earlier) = (flushed_in earlier ≡ due (got_in earlier)) × IsPrompt due earlier
IsPrompt due (put bs ∷ earlier) = IsPrompt due earlier
IsPrompt due (flushed ∷ earlier) = IsPrompt due earlier

-- What puts do to a list of events: nothing was got or flushed, these bytes were put, and what was prompt still is.
pub record PutAfter (bytes : List ℕ) (old new : List Event) : Type 0 where
  pub got_same : got_in new ≡ got_in old
  pub flushed_same : flushed_in new ≡ flushed_in old
  pub put_more : put_in new ≡ put_in old ++ bytes
  pub prompt : (due : List ℕ → List ℕ) → IsPrompt due old → IsPrompt due new

-- ---- events that contracts may know nothing of

-- these bytes were put, if the events are known
abbrev pub PutsAfter : List ℕ → Option (List Event) → Option (List Event) → Type 0
PutsAfter bytes None new = new ≡ None
PutsAfter bytes (Some old) None = ⊥
PutsAfter bytes (Some old) (Some new) = PutAfter bytes old new

-- one event more, if they are known
abbrev pub noted : Event → Option (List Event) → Option (List Event)
noted event events = option_map (λ earlier. event ∷ earlier) events

-- A read call that returned n notes the first n bytes of its buffer. One that failed notes nothing.
abbrev pub ReadNotes : {E : Type 0} → Result ℕ E → List ℕ → Option (List Event) → Option (List Event) → Type 0
ReadNotes (Ok n) into old new = new ≡ noted (got (take n into)) old
ReadNotes (Err e) into old new = new ≡ old

-- A write call that returned n notes the first n bytes of its piece. One that failed notes nothing.
abbrev pub WriteNotes : {E : Type 0} → Result ℕ E → List ℕ → Option (List Event) → Option (List Event) → Type 0
WriteNotes (Ok n) piece old new = new ≡ noted (put (take n piece)) old
WriteNotes (Err e) piece old new = new ≡ old

-- A flush notes that it was made. One that failed notes nothing.
abbrev pub FlushNotes : {A E : Type 0} → Result A E → Option (List Event) → Option (List Event) → Type 0
FlushNotes (Ok a) old new = new ≡ noted flushed old
FlushNotes (Err e) old new = new ≡ old
