-- Looking a dimension up in the map, and in the list of declarations.
use Rattle.std.proofs.Common.{◌≡◌, ℕ, Bool, true, false, List, [], ◌∷◌, ◌++◌, Option, Some, None, String, string_bytes, Global, is_some, refl, ap, sym, subst, ◌∙◌, map, slice_get, zero, suc}
use Rattle.std.specs.Prelude.{option_map}
use Rattle.std.proofs.lemmas.Option.{slice_get-map}
use Rattle.std.specs.Map.{lookup}
use Rattle.std.specs.List.{list_any, AllByRecursion, AllZip}
use Rattle.std.specs.Option.{option_map_or}
use Rattle.std.specs.Str.{bytes_eq}
use Rattle.facet_model.specs.declared.flags.DimFlags.{DimFlags}
use Rattle.facet_model.specs.Flags.{Config, flags, no_flags}
use Rattle.facet_config.specs.Declarations.{declarations, AreDimensions, IsDimension}
use Rattle.facet_names.proofs.Keys.{is_key}

abbrev Entry : Type 0
Entry = String Global × DimFlags

abbrev pub or_default : Option DimFlags → DimFlags
or_default o = option_map_or (λ f. f) o no_flags

pub lookup_is_flags : (dim : List ℕ) (es : List Entry) → or_default (lookup (is_key dim) es) ≡ flags (declarations es) dim
lookup_is_flags dim [] = refl
lookup_is_flags dim (e ∷ es) = by (is_key dim e.0) refl (lookup_is_flags dim es)
  where
    by : (b : Bool) → is_key dim e.0 ≡ b → or_default (lookup (is_key dim) es) ≡ flags (declarations es) dim → or_default (lookup (is_key dim) (e ∷ es)) ≡ flags (declarations (e ∷ es)) dim
    by true h rest = rw h refl
    by false h rest = rw h rest

pub lookup_is_any : (dim : List ℕ) (es : List Entry) → is_some (lookup (is_key dim) es) ≡ list_any (λ d. bytes_eq dim d.0) (declarations es)
lookup_is_any dim [] = refl
lookup_is_any dim (e ∷ es) = by (is_key dim e.0) refl (lookup_is_any dim es)
  where
    by : (b : Bool) → is_key dim e.0 ≡ b → is_some (lookup (is_key dim) es) ≡ list_any (λ d. bytes_eq dim d.0) (declarations es) → is_some (lookup (is_key dim) (e ∷ es)) ≡ list_any (λ d. bytes_eq dim d.0) (declarations (e ∷ es))
    by true h rest = rw h refl
    by false h rest = rw h rest

-- one more declaration goes last
pub one_more : (es new : List Entry) (key : String Global) (f : DimFlags) (dim : List ℕ) → string_bytes key ≡ dim → new ≡ es ++ (key, f) ∷ [] → declarations new ≡ declarations es ++ (dim, f) ∷ []
one_more es new key f dim is made = ap declarations made ∙ by es
  where
    by : (es : List Entry) → declarations (es ++ (key, f) ∷ []) ≡ declarations es ++ (dim, f) ∷ []
    by [] = λ i. (is i, f) ∷ []
    by (e ∷ es) = ap (λ (xs : Config). (string_bytes e.0, e.1) ∷ xs) (by es)

pub not_there : (dim : List ℕ) (es : List Entry) → list_any (λ d. bytes_eq dim d.0) (declarations es) ≡ false → lookup (is_key dim) es ≡ None
not_there dim es none = by (lookup (is_key dim) es) (lookup_is_any dim es ∙ none)
  where
    by : (o : Option DimFlags) → is_some o ≡ false → o ≡ None
    by None e = refl
    by (Some f) e = absurd cc

-- a map's clone has the same declarations
pub same_in_clone : (es fs : List Entry) → AllZip (λ p q. (string_bytes q.0 ≡ string_bytes p.0) × (q.1 ≡ p.1)) es fs → declarations fs ≡ declarations es
same_in_clone [] [] all = refl
same_in_clone [] (f ∷ fs) all = absurd all
same_in_clone (e ∷ es) [] all = absurd all
same_in_clone (e ∷ es) (f ∷ fs) all = λ i. (all.0.0 i, all.0.1 i) ∷ same_in_clone es fs all.1 i

-- the name of the declaration at a place
pub name_at : (es : List Entry) (at : ℕ) (e : Entry) → slice_get es at ≡ Some e → slice_get (map (λ d. d.0) (declarations es)) at ≡ Some (string_bytes e.0)
name_at es at e is =
    let named : Entry → List ℕ × DimFlags = λ e. (string_bytes e.0, e.1) in
    let name : List ℕ × DimFlags → List ℕ = λ d. d.0 in
    slice_get-map name (declarations es) at ∙ ap (option_map name) (slice_get-map named es at ∙ ap (option_map named) is)

-- ---- the names

named_push : (config : Config) (d : List ℕ × DimFlags) → IsDimension d.0 → AreDimensions config → AreDimensions (config ++ d ∷ [])
named_push [] d is all = (is, tt)
named_push (e ∷ es) d is all = (all.0, named_push es d is all.1)

pub named_more : (es new : List Entry) (key : String Global) (f : DimFlags) (dim : List ℕ) → string_bytes key ≡ dim → new ≡ es ++ (key, f) ∷ [] → IsDimension dim → AreDimensions (declarations es) → AreDimensions (declarations new)
named_more es new key f dim is made fits all = subst AreDimensions (sym (one_more es new key f dim is made)) (named_push (declarations es) (dim, f) fits all)

named_at : (config : Config) (at : ℕ) (d : List ℕ × DimFlags) → AreDimensions config → slice_get config at ≡ Some d → IsDimension d.0
named_at [] at d all there = absurd cc
named_at (e ∷ es) zero d all there = by cc
  where
    by : e ≡ d → IsDimension d.0
    by h = subst (λ (x : List ℕ × DimFlags). IsDimension x.0) h all.0
named_at (e ∷ es) (suc at) d all there = named_at es at d all.1 there

pub named_in : (es : List Entry) (at : ℕ) (e : Entry) (name : List ℕ) → AreDimensions (declarations es) → slice_get es at ≡ Some e → name ≡ string_bytes e.0 → IsDimension name
named_in es at e name all there is =
    let named : Entry → List ℕ × DimFlags = λ e. (string_bytes e.0, e.1) in
    subst IsDimension (sym is) (named_at (declarations es) at (named e) all (slice_get-map named es at ∙ ap (option_map named) there))

-- the names of the declarations, one by one
pub names_in : (es : List Entry) (names : List (String Global)) → names ≡ map (λ e. e.0) es → AreDimensions (declarations es) → AllByRecursion (λ name. IsDimension (string_bytes name)) names
names_in es names is all = subst (AllByRecursion (λ (name : String Global). IsDimension (string_bytes name))) (sym is) (by es all)
  where
    by : (es : List Entry) → AreDimensions (declarations es) → AllByRecursion (λ name. IsDimension (string_bytes name)) (map (λ e. e.0) es)
    by [] all = tt
    by (e ∷ es) all = (all.0, by es all.1)
