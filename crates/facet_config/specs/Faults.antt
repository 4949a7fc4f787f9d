-- Why a declaration or a document is rejected.
use Rattle.std.specs.Prelude.{◌==◌, ◌||◌, ℕ, nat_lt, if◌then◌else◌, List, length, Option, Some, None, Result, Ok, Err}
use Rattle.std.specs.List.{list_any}
use Rattle.std.specs.Str.{bytes_eq}
use Rattle.facet_model.specs.Flags.{Config}
use Rattle.facet_model.specs.Accepts.{Broken, no_component, not_hierarchical, not_multi_valued}
use Rattle.facet_config.specs.declared.fault.DeclareFault.{DeclareFault}
use Rattle.facet_config.specs.declared.fault.DeclareFault.TheVariants.{BadName, Twice}
use Rattle.facet_config.specs.declared.fault.DocFault.{DocFault}
use Rattle.facet_config.specs.declared.fault.DocFault.TheVariants as faults

-- the name has a wrong length, or was declared before
abbrev pub declare_fault : Config → List ℕ → Option DeclareFault
declare_fault config dim =
    if length dim == 0 || nat_lt 1024 (length dim) then Some (BadName (length dim))
    else (if list_any (λ d. bytes_eq dim d.0) config then Some Twice else None)

-- a fault as what a facet breaks
abbrev pub fault_view : DocFault → Broken
fault_view (faults.NoComponent facet) = no_component facet
fault_view (faults.NotHierarchical facet len) = not_hierarchical facet len
fault_view (faults.NotMultiValued facet) = not_multi_valued facet

-- what a check found broken
abbrev pub outcome : Result (Unit {0}) DocFault → Option Broken
outcome (Ok u) = None
outcome (Err e) = Some (fault_view e)
