use Rattle.std.proofs.Common.{ap, sym, length, take, ◌∙◌, ◌≡◌}
use Rattle.taxo_list.specs.ArrayLists.{arrays_of}
use Rattle.label_tests.proofs.labels.go_on.Goals as goal

pub extend-requires : goal.extend-requires
extend-requires c =
    let list = c.args.list.now in
    let view : c.in_ok-view.field-0 ≡ c.put_all.new.list = c.in_ok-view.ensures in
    (length list, rw view c.put_all.ensures.0, c.requires ∙ ap arrays_of (sym c.put_all.ensures.1 ∙ ap (take (length list)) (sym view)))
