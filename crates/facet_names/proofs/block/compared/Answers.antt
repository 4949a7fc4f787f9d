use Rattle.std.proofs.Common.{rules, ◌≡◌, ◌<◌, ◌∙◌, length}
use Rattle.std.specs.Ordering.{nat_cmp}
use Rattle.facet_names.proofs.Blocks.{first_is_empty, second_is_empty}
use Rattle.facet_names.proofs.block.compared.Goals.{then-loop-mine-test+else-not-is_empty, else-loop-mine-test}
use Rattle.facet_names.proofs.block.compared.Goals as goal

pub returns : goal.returns
returns c =
    let mine = c.loop-mine.mine.now in
    let theirs = c.loop-mine.theirs.now in
    let lengths : c.cmp.result ≡ nat_cmp (length mine) (length theirs) = search rules in
    elim c.loop-mine-test.branch [
      | then-loop-mine-test+else-not-is_empty w ↦
          let some : 0 < length mine = search rules in
          let none : length theirs ≡ 0 = search rules in
          lengths ∙ second_is_empty mine theirs some none c.loop-mine.invariant.mine ∙ c.loop-mine.invariant.same
      | else-loop-mine-test w ↦
          let none : length mine ≡ 0 = search rules in
          lengths ∙ first_is_empty mine theirs none c.loop-mine.invariant.theirs ∙ c.loop-mine.invariant.same
    ]
