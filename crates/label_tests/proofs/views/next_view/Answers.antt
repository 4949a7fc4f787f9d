use Rattle.std.proofs.Common.{drop, length, subst, sym, ap, ◌∙◌, ◌++◌}
use Rattle.std.proofs.lemmas.List.{take-append-drop}
use mathlib.Core.List.{IsPrefix}
use Rattle.label_tests.proofs.views.next_view.Goals as goal

pub view_from-requires : goal.view_from-requires
view_from-requires g c =
    let before = c.args.list.now in
    let now = c.grow_to.new.list in
    record {
      last = subst (λ v. IsPrefix v now) (sym c.requires) (drop (length before) now, ap (λ l. l ++ drop (length before) now) (sym c.grow_to.ensures.1) ∙ take-append-drop (length before) now);
    }
