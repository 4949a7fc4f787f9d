-- Dimensions in the order of their bytes.
use Rattle.std.proofs.Common.{◌≡◌, ℕ, ◌≤◌, true, false, List, [], ◌∷◌, ◌++◌, length, None, sym, ap, refl, ◌∙◌, arith}
use Rattle.std.specs.List.{list_any, AllByRecursion}
use Rattle.std.specs.Str.{bytes_eq}
use Rattle.std.specs.declared.cmp.Ordering.{Ordering}
use Rattle.std.specs.declared.cmp.Ordering.TheVariants.{Less, Equal, Greater}
use Rattle.std.specs.Ordering.{is_lt, is_eq, ordering_reverse}
use Rattle.std.specs.Cmp.Lexicographic.{nat_list_cmp_total}
use Rattle.std.proofs.lemmas.Bool.{true≢false, le-ltb, ne_eqb}
use Rattle.std.proofs.lemmas.Map.Text.{is_eq-slice_cmp}
use Rattle.facet_model.specs.declared.flags.DimFlags.{DimFlags}
use Rattle.facet_model.specs.Flags.{Config}
use Rattle.facet_model.specs.Words.{word_cmp}
use Rattle.facet_config.specs.Faults.{declare_fault}
use Rattle.facet_names.proofs.Ordered.{is_less}
use Rattle.facet_model.proofs.WordOrder.{not_less_itself}

pub flipped : (x y : List ℕ) (o : Ordering) → word_cmp y x ≡ o → word_cmp x y ≡ ordering_reverse o
flipped x y o e = nat_list_cmp_total.antisymm x y ∙ ap ordering_reverse e

-- no dimension of the config is above this one
abbrev pub AreUpTo : List ℕ → Config → Type 0
AreUpTo before config = AllByRecursion (λ d. is_lt (word_cmp before d.0) ≡ false) config

below_next : (d before dim : List ℕ) → is_lt (word_cmp before d) ≡ false → is_lt (word_cmp before dim) ≡ true → word_cmp d dim ≡ Less
below_next d before dim up less = by (word_cmp before d) refl
  where
    by : (o : Ordering) → word_cmp before d ≡ o → word_cmp d dim ≡ Less
    by Less e = absurd (true≢false (sym (ap is_lt e) ∙ up))
    by Equal e = sym (nat_list_cmp_total.congr before d dim e) ∙ is_less (word_cmp before dim) less
    by Greater e = nat_list_cmp_total.trans d before dim (flipped d before Greater e) (is_less (word_cmp before dim) less)

other_name : (d dim : List ℕ) → word_cmp d dim ≡ Less → bytes_eq dim d ≡ false
other_name d dim less = sym (is_eq-slice_cmp dim d) ∙ ap is_eq (flipped dim d Less less)

none_twice : (before dim : List ℕ) (config : Config) → AreUpTo before config → is_lt (word_cmp before dim) ≡ true → list_any (λ d. bytes_eq dim d.0) config ≡ false
none_twice before dim [] up less = refl
none_twice before dim (d ∷ ds) up less = rw (other_name d.0 dim (below_next d.0 before dim up.0 less)) (none_twice before dim ds up.1 less)

-- what comes after a text is not empty
pub some_byte : (before dim : List ℕ) → is_lt (word_cmp before dim) ≡ true → 1 ≤ length dim
some_byte [] [] less = absurd cc
some_byte (x ∷ xs) [] less = absurd cc
some_byte before (y ∷ ys) less = omega arith

pub can_declare : (before dim : List ℕ) (config : Config) → AreUpTo before config → length dim ≤ 1024 → is_lt (word_cmp before dim) ≡ true → declare_fault config dim ≡ None
can_declare before dim config up short less =
    rw (ne_eqb (length dim) 0 (λ e. omega (arith, e, some_byte before dim less)), le-ltb 1024 (length dim) short, none_twice before dim config up less) refl

pub up_to_more : (before dim : List ℕ) (f : DimFlags) (config : Config) → is_lt (word_cmp before dim) ≡ true → AreUpTo before config → AreUpTo dim (config ++ (dim, f) ∷ [])
up_to_more before dim f [] less up = (not_less_itself dim, tt)
up_to_more before dim f (d ∷ ds) less up = (ap is_lt (flipped dim d.0 Less (below_next d.0 before dim up.0 less)), up_to_more before dim f ds less up.1)
