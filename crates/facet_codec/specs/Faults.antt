-- Faults, and readers that report them as a kind of their own.
use Rattle.std.specs.Prelude.{ℕ, Result, Ok, Err}
use Rattle.facet_codec.specs.declared.fault.CodecFault.{CodecFault}
use Rattle.facet_codec.specs.declared.fault.CodecFault.TheVariants.{Short, LongSpelling, NotUtf8, OutOfRange}

-- where the value begins that could not be read
abbrev pub fault_at : CodecFault → ℕ
fault_at (Short at) = at
fault_at (LongSpelling at) = at
fault_at (NotUtf8 at) = at
fault_at (OutOfRange at) = at

-- the same, if a fault is reported as one of another kind
abbrev pub told_as : {A F G : Type 0} → (F → G) → Result A F → Result A G
told_as f (Ok x) = Ok x
told_as f (Err e) = Err (f e)
