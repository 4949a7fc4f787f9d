use Rattle.std.proofs.Common.{◌-◌, ◌∙◌, ◌/◌, ◌++◌, [], ◌∷◌, length, map, drop, sym, ap, arith}
use Rattle.std.specs.Arc.{arc_value}
use Rattle.std.specs.Prelude.{sum}
use Rattle.std.proofs.lemmas.List.{length-map, drop-map}
use Rattle.label_pieces.proofs.Growing.{full_within, tail_few}
use Rattle.label_pieces.proofs.Sizes.{sum_sizes}
use Rattle.label_pieces.proofs.sharing.count_kept.Goals as goal
use Rattle.label_pieces.proofs.sharing.count_kept.Goals.{then-first-pieces, else-first-pieces}

pub returns-then-all-full-clause-within : goal.returns-then-all-full-clause-within
returns-then-all-full-clause-within c = omega (arith, full_within (map arc_value c.args.pieces.now) c.args.size c.requires.pieces, length-map c.args.pieces.now arc_value)

pub split_at-requires : goal.split_at-requires
split_at-requires c = omega (arith, full_within (map arc_value c.args.pieces.now) c.args.size c.requires.pieces, length-map c.args.pieces.now arc_value)

pub merge_from-requires : goal.merge_from-requires
merge_from-requires c =
    let items = c.args.pieces.now in
    let full = c.args.size / 4096 in
    let tail = ap (λ l. map arc_value l) c.split_at.ensures.back ∙ sym (drop-map arc_value full items) in
    let few = tail_few (map arc_value items) c.args.size c.requires.pieces c.args.all c.requires.more c.if-all-full.false in
    let total = ap sum (c.deref.ensures.value ∙ c.in_ok-sizes.ensures ∙ ap (λ l. map length l ++ (c.args.all - c.args.size) ∷ []) tail) ∙ sum_sizes (drop full (map arc_value items)) (c.args.all - c.args.size) in
    record { few = omega (arith, total, few) }

pub returns-clause-full : goal.returns-clause-full
returns-clause-full c =
    elim c.if-first-pieces.branch [
      | then-first-pieces w ↦ omega (arith, w.result-is)
      | else-first-pieces w ↦ omega (arith, w.result-is, full_within (map arc_value c.args.pieces.now) c.args.size c.requires.pieces, length-map c.args.pieces.now arc_value)
    ]
