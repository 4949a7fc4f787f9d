-- A config as texts, for plain data that has to identify it.
use Rattle.std.specs.Prelude.{ℕ, Bool, if◌then◌else◌, List, ◌∷◌, map}
use Rattle.facet_model.specs.declared.flags.DimFlags.{DimFlags}
use Rattle.facet_model.specs.Flags.{Config}

abbrev pub bit : Bool → ℕ
bit b = if b then 1 else 0

-- a declaration as bytes: its three flags, and then its name
abbrev pub declared_bytes : List ℕ × DimFlags → List ℕ
declared_bytes d = bit d.1.hierarchical ∷ bit d.1.multi_valued ∷ bit d.1.require_dim_count ∷ d.0

-- a text for each declaration, in their order
abbrev pub config_texts : Config → List (List ℕ)
config_texts config = map declared_bytes config
