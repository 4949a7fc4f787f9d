-- A text that is a number, or is none, in its limits.
use Rattle.std.proofs.Common.{◌≡◌, ◌≤◌, ◌<◌, ◌^◌, ℕ, Bool, true, false, List, Some, None, Err, refl}
use Rattle.std.specs.Str.Parse.{IsNumeral, ParsesUnsigned, digits_value, without_leading_plus}
use Rattle.clap.proofs.ValueTestLemmas.{Accepts-accepts, accepts-Accepts}
use Rattle.clap.specs.ValueTests.{is_unsigned_in}
use Rattle.clap.specs.declared.builder.value_parser.ValueParser.TheVariants.{Unsigned}
use Rattle.command_line.specs.Words.{number_within}

abbrev value : List ℕ → ℕ
value text = digits_value 10 (without_leading_plus text)

pub inside : (low high n : ℕ) (text : List ℕ) → (IsNumeral 10 (without_leading_plus text) × (value text < 2 ^ 64)) × (n ≡ value text) → low ≤ n → n ≤ high
    → Some n ≡ number_within low high text
inside low high n text is least most =
    let low_ok : low ≤ value text = rw (← is.1) least in
    let high_ok : value text ≤ high = rw (← is.1) most in
    let taken : is_unsigned_in low high text ≡ true = Accepts-accepts false (Unsigned low high) text (is.0.0, is.0.1, low_ok, high_ok) in
    rw (taken, is.1) refl

pub no_number : {E : Type 0} (low high : ℕ) (text : List ℕ) (error : E) → ParsesUnsigned 64 10 text (Err error) → None ≡ number_within low high text
no_number low high text error fails = go (is_unsigned_in low high text) refl
  where
    go : (b : Bool) → is_unsigned_in low high text ≡ b → None ≡ number_within low high text
    go false e = rw e refl
    go true e =
        let taken = accepts-Accepts false (Unsigned low high) text e in
        absurd (fails (taken.0, taken.1))
