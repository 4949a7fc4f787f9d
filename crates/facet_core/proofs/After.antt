-- A core that went through an event, or stopped before it, is valid if it was.
use Rattle.std.proofs.Common.{◌≡◌, Result, Ok, Err, sym, subst}
use Rattle.std.specs.Prelude.{OnOk, OnErr}
use Rattle.facet_model.specs.Core.{State, CoreEvent, step}
use Rattle.facet_model.specs.CoreStates.{Valid}
use Rattle.facet_core.proofs.Interleavings.{keeps_step}

pub valid_after : {A E : Type 0} (r : Result A E) (s t : State) (e : CoreEvent) → OnOk r (t ≡ step s e) → OnErr r (t ≡ s) → Valid s → Valid t
valid_after (Ok x) s t e went stayed v = subst Valid (sym went) (keeps_step s e v)
valid_after (Err x) s t e went stayed v = subst Valid (sym stayed) v
