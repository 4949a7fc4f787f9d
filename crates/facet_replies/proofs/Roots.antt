-- A path of one component is below the root.
use Rattle.std.proofs.Common.{◌≡◌, ℕ, true, ltb, List, [], ◌∷◌, length, Some, None, slice_get, refl, ap, arith}
use Rattle.std.specs.Prelude.{unwrap_or}
use Rattle.std.proofs.lemmas.Bool.{lt-ltb}
use Rattle.facet_names.specs.Labels.{above, place}
use Rattle.facet_names.specs.Paths.{parent_of}
use Rattle.facet_names.proofs.LabelLists.{root_above}

pub below_root : (labels : List (List (List ℕ))) (path : List (List ℕ)) → slice_get labels 0 ≡ Some [] → parent_of path ≡ None → 0 ≡ unwrap_or (place labels (above path)) 0
below_root [] path e none = absurd cc
below_root (p ∷ ps) path e none =
    let first : p ≡ [] = ap (λ o. unwrap_or o p) e in
    let within : ltb 0 (length (p ∷ ps)) ≡ true = lt-ltb 0 (length (p ∷ ps)) (omega arith) in
    rw (root_above path none, first, within) refl
