use Rattle.std.proofs.Common.{rules, ◌≡◌, ℕ, List, length, Some, Ok, refl, sym, ◌∙◌}
use Rattle.facet_names.specs.Labels.{above, stands, with_label}
use Rattle.label_file.specs.LabelReading.{label_at, parent_at, path_below}
use Rattle.facet_names.proofs.LabelLists.{place_at}
use Rattle.label_file.proofs.Below.{below_is}
use Rattle.label_file.proofs.reading.label.Goals as goal

pub add_under-requires-clause-parent : goal.add_under-requires-clause-parent
add_under-requires-clause-parent c =
    let found : path_below c.args.labels.now c.in_ok-parent.parent c.in_ok-part.part.now ≡ Some c.in-Some.path = sym c.in_ok-path.ensures.ok ∙ c.in-Some.is in
    place_at c.args.labels.now (search rules) c.in_ok-parent.parent (above c.in-Some.path) (below_is c.args.labels.now c.in_ok-parent.parent c.in_ok-part.part.now c.in-Some.path found).under

pub returns-in-Ok-clause-ok : goal.returns-in-Ok-clause-ok
unfolding label_at
returns-in-Ok-clause-ok c =
    let path : List (List ℕ) = c.in-Some.path in
    let found : path_below c.args.labels.now c.in_ok-parent.parent c.in_ok-part.part.now ≡ Some path = sym c.in_ok-path.ensures.ok ∙ c.in-Some.is in
    let fresh : stands c.args.labels.now path ≡ _ = (below_is c.args.labels.now c.in_ok-parent.parent c.in_ok-part.part.now path found).fresh in
    let added : c.add_under.new.self ≡ with_label c.args.labels.now path = search rules in
    let parent : parent_at (length c.args.labels.now) c.args.cursor.now ≡ Ok (c.in_ok-parent.parent, c.parent_at.new.cursor) = search rules in
    (path, rw (parent, c.in_ok-part.ensures, found) refl, added ∙ rw fresh refl)
