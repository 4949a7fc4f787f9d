-- Live bits of small segments.
use Rattle.std.specs.Prelude.{◌≡◌, [], ◌∷◌, true, false, Ok, Err, refl}
use Rattle.commit_file.specs.declared.fault.FileFault.TheVariants.{Malformed}
use Rattle.commit_file.specs.LiveBits.{bits_of, dead_in, are_bits}
use Rattle.commit_file.specs.Spelling.{live_bytes}
use Rattle.commit_file.specs.Reading.{live_at, bits_at, live_records_at}

-- all of ten records but 1 and 9 are live
ten : bits_of 10 (1 ∷ 9 ∷ []) ≡ 253 ∷ 1 ∷ []
ten = refl

back : dead_in 10 (253 ∷ 1 ∷ []) ≡ 1 ∷ 9 ∷ []
back = refl

right : are_bits 10 8 (253 ∷ 1 ∷ []) ≡ true
right = refl

-- a bit past the last record; a wrong number
past : are_bits 10 8 (253 ∷ 5 ∷ []) ≡ false
past = refl

wrong : are_bits 10 7 (253 ∷ 1 ∷ []) ≡ false
wrong = refl

whole : live_bytes (record { part = record { number = 3; documents = 10; digest = [] }; dead = [] }) ≡ 0 ∷ 0 ∷ 0 ∷ 10 ∷ []
whole = refl

some : live_bytes (record { part = record { number = 3; documents = 10; digest = [] }; dead = 1 ∷ 9 ∷ [] }) ≡ 0 ∷ 0 ∷ 0 ∷ 8 ∷ 253 ∷ 1 ∷ []
some = refl

read : live_records_at 10 0 (record { at = 60; rest = 0 ∷ 0 ∷ 0 ∷ 8 ∷ 253 ∷ 1 ∷ 7 ∷ [] }) ≡ Ok (1 ∷ 9 ∷ [], record { at = 66; rest = 7 ∷ [] })
unfolding live_at bits_at live_records_at
read = refl

-- bits that break the rules, or end early, are a fault where they begin; a wrong number is one where it stands
broken : live_records_at 10 0 (record { at = 60; rest = 0 ∷ 0 ∷ 0 ∷ 8 ∷ 253 ∷ 5 ∷ [] }) ≡ Err (Malformed 64)
unfolding live_at bits_at live_records_at
broken = refl

cut : live_records_at 10 0 (record { at = 60; rest = 0 ∷ 0 ∷ 0 ∷ 8 ∷ 253 ∷ [] }) ≡ Err (Malformed 64)
unfolding live_at bits_at live_records_at
cut = refl

none : live_records_at 10 0 (record { at = 60; rest = 0 ∷ 0 ∷ 0 ∷ 0 ∷ 0 ∷ 0 ∷ [] }) ≡ Err (Malformed 60)
unfolding live_at bits_at live_records_at
none = refl

many : live_records_at 10 999993 (record { at = 60; rest = 0 ∷ 0 ∷ 0 ∷ 8 ∷ 253 ∷ 1 ∷ [] }) ≡ Err (Malformed 60)
unfolding live_at bits_at live_records_at
many = refl
