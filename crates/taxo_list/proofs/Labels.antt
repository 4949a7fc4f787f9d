-- Labels behind the root, as they are stored.
use Rattle.std.proofs.Common.{◌≡◌, ℕ, is_some, position, arith, ◌<◌, List, [], ◌∷◌, length, slice_get, Some, ap, ◌∙◌}
use Rattle.std.proofs.lemmas.Option.{slice_get-get_or}
use Rattle.facet_names.specs.Paths.{path_eq}
use Rattle.facet_names.specs.Labels.{IsLabelList, stands}
use Rattle.facet_names.proofs.LabelLists.{root_first, some_label, is_some-position}
pub use Rattle.facet_names.proofs.LabelLists.{same_path, none_at, place_of, place_at, label_at, some_label, root_first, parent_before, parent_at_front, one_more_label, stands_by_place, parent_is_above, root_above, root_stands, goes_further, is_some-position, path_has_part}

-- a path that is not the root is among all where it is among them
pub stands_behind : (labels : List (List (List ℕ))) (path : List (List ℕ)) → 0 < length path → is_some (position (path_eq path) labels) ≡ stands ([] ∷ labels) path
stands_behind labels [] some = absurd (omega (arith, some))
stands_behind labels (part ∷ path) some = is_some-position (path_eq (part ∷ path)) labels []

-- the first is the root
pub root_is : (labels : List (List (List ℕ))) → IsLabelList labels → slice_get labels 0 ≡ Some []
root_is labels is = slice_get-get_or labels 0 [] (some_label labels is) ∙ ap Some (root_first labels is [])
