-- The prefixes of a path, one after the other.
use Rattle.std.proofs.Common.{◌≡◌, ℕ, ◌+◌, ◌<◌, true, List, length, take, sym, ap, ◌∙◌, arith}
use Rattle.std.specs.List.{list_all}
use Rattle.std.proofs.lemmas.List.{take_all}
use Rattle.std.proofs.lemmas.List.Sums.{AllPass-from_list_all}
use Rattle.facet_names.specs.Labels.{GoesOn, prefixes, stands}
use Rattle.facet_names.proofs.LabelLists.{Labels}
use Rattle.facet_names.proofs.Fronts.{as_many_prefixes, prefix_at}

-- a list goes on from itself
pub stays : (xs : Labels) → GoesOn xs xs
stays xs = (omega arith, take_all (length xs) xs (omega arith))

module _ (path : List (List ℕ)) (n : ℕ) (lt : n < length path) where
  pub prefix_stands : (labels : Labels) → list_all (stands labels) (prefixes path) ≡ true → stands labels (take (n + 1) path) ≡ true
  prefix_stands labels all = ap (stands labels) (sym (prefix_at path n lt)) ∙ AllPass-from_list_all (stands labels) (prefixes path) all n (take (n + 1) path) (omega (arith, lt, as_many_prefixes path))
