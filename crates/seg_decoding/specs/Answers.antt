-- What calls that open a stored segment answer.
use Rattle.std.specs.Prelude.{◌≡◌, ℕ, ◌<◌, Result, Ok, Err}
use Rattle.seg_grammar.specs.declared.fault.SegFault.{SegFault}
use Rattle.seg_grammar.specs.declared.fault.SegFault.TheVariants as segments
use Rattle.seg_decoding.specs.declared.fault.StoredFault.{StoredFault}
use Rattle.seg_decoding.specs.declared.fault.StoredFault.TheVariants.{Malformed, NoMemory}

-- Unless memory ran out, the fault is the one that is met.
abbrev pub Fails : {Y : Type 0} → StoredFault → Result Y ℕ → Type 0
Fails (Malformed at) right = right ≡ Err at
Fails NoMemory right = Unit {0}

-- A call answered what is right.
abbrev pub Gives : {X Y : Type 0} → (X → Y) → Result X StoredFault → Result Y ℕ → Type 0
Gives view (Ok x) right = right ≡ Ok (view x)
Gives view (Err e) right = Fails e right

-- a segment's fault as one of a stored segment
abbrev pub told : SegFault → StoredFault
told segments.BadMagic = Malformed 0
told (segments.BadVersion v) = Malformed 4
told (segments.Codec at) = Malformed at
told (segments.Disorder at) = Malformed at
told segments.NoMemory = NoMemory

-- the ordinal of a label after the root, below `needs`
abbrev pub IsLeaf : ℕ → ℕ → Type 0
IsLeaf needs leaf = (0 < leaf) × (leaf < needs)
