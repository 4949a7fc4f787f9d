-- Dimensions, declared one after the other.
use Rattle.std.proofs.Common.{◌≡◌, ℕ, ◌+◌, ◌<◌, ◌≤◌, Bool, true, false, cond, List, [], ◌∷◌, length, map, take, drop, get_or, Some, None, refl, sym, ap, ◌∙◌, add-one}
use Rattle.std.specs.Prelude.{◌&&◌, ◌==◌, ◌||◌, nat_lt, not}
use Rattle.std.specs.List.{list_any, list_all, enumerate_from}
use Rattle.std.specs.Str.{bytes_eq}
use Rattle.std.proofs.Math.Seq.{drop-cons}
use Rattle.std.proofs.Math.ListN.{drop_of_length-le}
use Rattle.std.proofs.lemmas.List.{take_all, take-map}
use Rattle.facet_model.specs.declared.flags.DimFlags.{DimFlags}
use Rattle.facet_model.specs.Flags.{Config}
use Rattle.facet_config.specs.Faults.{declare_fault}
use Rattle.facet_config.specs.declared.fault.DeclareFault.TheVariants.{BadName, Twice}
use Rattle.facet_words.specs.ConfigLines.{is_new, config_from}
use Rattle.facet_words.specs.Shapes.{when}

abbrev pub names_of : Config → List (List ℕ)
names_of dims = map (λ d. d.0) dims

abbrev pub is_declared : Config → List ℕ → Bool
is_declared config dim = list_any (λ d. bytes_eq dim d.0) config

-- whether the names from a place on differ from all before them
abbrev pub are_new_from : Config → ℕ → Bool
are_new_from dims i = list_all (is_new (names_of dims)) (enumerate_from i (names_of (drop i dims)))

pub twice_is_declared : (config : Config) (dim : List ℕ) → declare_fault config dim ≡ Some Twice → is_declared config dim ≡ true
twice_is_declared config dim e = by (length dim == 0 || nat_lt 1024 (length dim)) (is_declared config dim) e
  where
    by : (a b : Bool) → cond a (Some (BadName (length dim))) (cond b (Some Twice) None) ≡ Some Twice → b ≡ true
    by true b e = absurd cc
    by false true e = refl
    by false false e = absurd cc

pub none_is_new : (config : Config) (dim : List ℕ) → declare_fault config dim ≡ None → is_declared config dim ≡ false
none_is_new config dim e = by (length dim == 0 || nat_lt 1024 (length dim)) (is_declared config dim) e
  where
    by : (a b : Bool) → cond a (Some (BadName (length dim))) (cond b (Some Twice) None) ≡ None → b ≡ false
    by true b e = absurd cc
    by false true e = absurd cc
    by false false e = refl

any_name : (dim : List ℕ) (dims : Config) → list_any (bytes_eq dim) (names_of dims) ≡ is_declared dims dim
any_name dim [] = refl
any_name dim (d ∷ dims) = ap (λ b. bytes_eq dim d.0 || b) (any_name dim dims)

-- the name at a place is new where none before it is declared
new_at : (dims : Config) (i : ℕ) (x : List ℕ × DimFlags) (b : Bool) → is_declared (take i dims) x.0 ≡ b → is_new (names_of dims) (i, x.0) ≡ not b
new_at dims i x b e = ap (λ l. not (list_any (bytes_eq x.0) l)) (take-map (λ (d : List ℕ × DimFlags). d.0) i dims) ∙ ap not (any_name x.0 (take i dims) ∙ e)

from_here : (dims : Config) (i : ℕ) (x : List ℕ × DimFlags) (d : List ℕ × DimFlags) (b : Bool) → i < length dims → get_or dims i d ≡ x → is_declared (take i dims) x.0 ≡ b
    → are_new_from dims i ≡ (not b && are_new_from dims (i + 1))
from_here dims i x d b lt at e =
    let step : drop i dims ≡ x ∷ drop (i + 1) dims = rw (← at, add-one) (drop-cons dims i d lt) in
    ap (λ l. list_all (is_new (names_of dims)) (enumerate_from i (names_of l))) step ∙ ap (λ t. t && are_new_from dims (i + 1)) (new_at dims i x b e)

pub goes_on : (dims : Config) (i : ℕ) (x : List ℕ × DimFlags) (d : List ℕ × DimFlags) (all : Bool) → i < length dims → get_or dims i d ≡ x → is_declared (take i dims) x.0 ≡ false → are_new_from dims i ≡ all → are_new_from dims (i + 1) ≡ all
goes_on dims i x d all lt at e so_far = sym (from_here dims i x d false lt at e) ∙ so_far

pub stops : (dims : Config) (i : ℕ) (x : List ℕ × DimFlags) (d : List ℕ × DimFlags) → i < length dims → get_or dims i d ≡ x → is_declared (take i dims) x.0 ≡ true → are_new_from dims i ≡ are_new_from dims 0 → None ≡ config_from dims
stops dims i x d lt at e so_far =
    let not_new : are_new_from dims 0 ≡ false = sym so_far ∙ from_here dims i x d true lt at e in
    ap (λ b. when b dims) (sym not_new)

pub ends : (dims config : Config) (i : ℕ) → length dims ≤ i → config ≡ take i dims → are_new_from dims i ≡ are_new_from dims 0 → Some config ≡ config_from dims
ends dims config i le kept so_far =
    let none : drop i dims ≡ [] = drop_of_length-le dims le in
    let new : are_new_from dims 0 ≡ true = sym so_far ∙ ap (λ l. list_all (is_new (names_of dims)) (enumerate_from i (names_of l))) none in
    ap (λ l. Some l) (kept ∙ take_all i dims le) ∙ ap (λ b. when b dims) (sym new)
