-- The texts of a config tell the config.
use Rattle.std.proofs.Common.{◌≡◌, ℕ, Bool, true, false, List, [], ◌∷◌, map, refl}
use Rattle.facet_model.specs.declared.flags.DimFlags.{DimFlags}
use Rattle.facet_model.specs.Flags.{Config}
use Rattle.facet_model.specs.ConfigTexts.{bit, declared_bytes, config_texts}

bit_tells : (a b : Bool) → bit a ≡ bit b → a ≡ b
bit_tells true true e = refl
bit_tells true false e = absurd cc
bit_tells false true e = absurd cc
bit_tells false false e = refl

one_tells : (d e : List ℕ × DimFlags) → declared_bytes d ≡ declared_bytes e → d ≡ e
one_tells d e same =
    let h : bit d.1.hierarchical ≡ bit e.1.hierarchical = cc in
    let m : bit d.1.multi_valued ≡ bit e.1.multi_valued = cc in
    let r : bit d.1.require_dim_count ≡ bit e.1.require_dim_count = cc in
    let name : d.0 ≡ e.0 = cc in
    λ i. (name i, record { hierarchical = bit_tells d.1.hierarchical e.1.hierarchical h i; multi_valued = bit_tells d.1.multi_valued e.1.multi_valued m i; require_dim_count = bit_tells d.1.require_dim_count e.1.require_dim_count r i })

-- configs of equal texts are equal
pub config_told : (c d : Config) → config_texts c ≡ config_texts d → c ≡ d
config_told [] [] same = refl
config_told [] (y ∷ d) same = absurd cc
config_told (x ∷ c) [] same = absurd cc
config_told (x ∷ c) (y ∷ d) same =
    let first : declared_bytes x ≡ declared_bytes y = cc in
    let rest : map declared_bytes c ≡ map declared_bytes d = cc in
    λ i. one_tells x y first i ∷ config_told c d rest i
