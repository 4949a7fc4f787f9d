use Rattle.std.proofs.Common.{◌≡◌, ◌++◌, ◌∙◌, List, [], length, ap, sym, arith}
use Rattle.std.proofs.lemmas.List.{append-nil, length-append, nil_from_length}
use Rattle.std.specs.Arc.{arc_value}
use mathlib.Core.List.{IsPrefix}
use Rattle.taxo_writer.proofs.viewing.renewed.Goals as goal

-- a beginning that is as long is the whole
whole : {A : Type 0} (xs ys : List A) → IsPrefix xs ys → length xs ≡ length ys → xs ≡ ys
whole xs ys begins same =
    let none : begins.0 ≡ [] = nil_from_length begins.0 (omega (arith, same, ap length begins.1, length-append xs begins.0)) in
    sym (append-nil xs) ∙ ap (λ l. xs ++ l) (sym none) ∙ begins.1

pub returns-then-size-clause-view : goal.returns-then-size-clause-view
returns-then-size-clause-view c =
    let as_long : length (arc_value c.args.last.now) ≡ length c.args.labels.now = omega (arith, ap length c.deref.ensures, c.size.ensures.size, c.size-2.ensures.size, c.if-size.true) in
    c.in_ok-try_clone.ensures ∙ whole (arc_value c.args.last.now) c.args.labels.now c.requires.last as_long
