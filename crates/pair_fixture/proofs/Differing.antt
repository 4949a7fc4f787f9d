-- No two labels are equal: the digits of the first number end at the space.
use Rattle.std.proofs.Common.{◌≡◌, ℕ, ◌<◌, ◌^◌, ◌++◌, List, [], ◌∷◌, refl, arith}
use Rattle.std.specs.Fmt.{decimal}
use Rattle.std.specs.Str.Parse.{AllDigits}
use Rattle.std.proofs.lemmas.Fmt.{decimal_injective, decimal_is_IsNumeral}
use Rattle.std.proofs.lemmas.Str.Parse.{digit_from_value}
use Rattle.pair_fixture.specs.Names.{LabelsDiffer}

separated : (a b rest other : List ℕ) → AllDigits 10 a → AllDigits 10 b → a ++ 32 ∷ rest ≡ b ++ 32 ∷ other → (a ≡ b) × (rest ≡ other)
separated [] [] rest other of_a of_b e = (refl, cc)
separated [] (d ∷ b) rest other of_a of_b e = let same : 32 ≡ d = cc in absurd (omega (arith, same, digit_from_value d of_b.0))
separated (c ∷ a) [] rest other of_a of_b e = let same : c ≡ 32 = cc in absurd (omega (arith, same, digit_from_value c of_a.0))
separated (c ∷ a) (d ∷ b) rest other of_a of_b e =
    let first : c ≡ d = cc in
    let both = separated a b rest other of_a.1 of_b.1 cc in
    (λ i. first i ∷ both.0 i, both.1)

pub labels_apart : LabelsDiffer
labels_apart session number other next of_session of_number of_other of_next e =
    let digits = λ (n : ℕ) (few : n < 2 ^ 32). (decimal_is_IsNumeral n (omega (arith, few))).0.1 in
    let both = separated (decimal session) (decimal other) (decimal number) (decimal next) (digits session of_session) (digits other of_other) cc in
    (decimal_injective session other (omega (arith, of_session)) (omega (arith, of_other)) both.0, decimal_injective number next (omega (arith, of_number)) (omega (arith, of_next)) both.1)
