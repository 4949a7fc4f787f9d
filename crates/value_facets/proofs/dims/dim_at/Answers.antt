use Rattle.std.proofs.Common.{◌≡◌, ℕ, Some, slice_get, subst}
use Rattle.std.specs.Prelude.{IfNone, IfSome}
use Rattle.value_facets.proofs.Below.{found, missed}
use Rattle.value_facets.proofs.dims.dim_at.Goals as goal

pub returns-in-Ok-clause-some : goal.returns-in-Ok-clause-some
returns-in-Ok-clause-some c = subst (λ p. IfSome c.ordinal_of.result (λ ord. slice_get c.args.view.now ord ≡ Some p)) c.in-Ok.ensures.ok (found c.args.view.now _ c.ordinal_of.result c.ordinal_of.ensures.ordinal)

pub returns-in-Ok-clause-none : goal.returns-in-Ok-clause-none
returns-in-Ok-clause-none c = subst (λ p. IfNone c.ordinal_of.result ((ord : ℕ) → slice_get c.args.view.now ord ≡ Some p → ⊥)) c.in-Ok.ensures.ok (missed c.args.view.now _ c.ordinal_of.result c.ordinal_of.ensures.there)
