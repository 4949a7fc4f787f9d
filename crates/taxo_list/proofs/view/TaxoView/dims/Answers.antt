use Rattle.std.proofs.Common.{List, ℕ, [], ◌∷◌, ◌<◌, ◌∙◌, sym, subst, length}
use Rattle.std.specs.Prelude.{All}
use Rattle.taxo_list.proofs.Walked.{dims_within}
use Rattle.taxo_list.proofs.view.TaxoView.dims.Goals as goal

pub returns-clause-each : goal.returns-clause-each
returns-clause-each c =
    let whole : All (λ ord. (0 < ord) × (ord < length ([] ∷ c.self.inside.labels))) c.ords.result.now = subst (All (λ ord. (0 < ord) × (ord < length ([] ∷ c.self.inside.labels)))) (sym (c.ords.ensures ∙ c.self.invariant.each_dim.dims)) (dims_within ([] ∷ c.self.inside.labels) c.self.invariant.list) in
    subst (λ (labels : List (List (List ℕ))). All (λ ord. (0 < ord) × (ord < length labels)) c.ords.result.now) c.self.view_is whole
