use Rattle.std.proofs.Common.{arith, refl, sym, subst, ◌∙◌, ◌≡◌, ◌<◌, ℕ, List, length}
use Rattle.facet_model.specs.Flags.{Config}
use Rattle.facet_counts.specs.Tallies.{Tally}
use Rattle.facet_counts.specs.Climbs.{IsRolledTo}
use Rattle.taxo_list.proofs.Labels.{some_label}
use Rattle.facet_counts.proofs.Turns.{rolled_none}
use Rattle.facet_counts.proofs.Pieces.{none_rolled}
use Rattle.facet_counts.proofs.rolled.roll.Goals as goal

abbrev tally_of : List (List (List ℕ)) → List ℕ → Config → ℕ → Tally
tally_of labels own config added = record { labels = labels; config = config; own = own; added = added }

pub returns-then-not-any_rolls_up : goal.returns-then-not-any_rolls_up
returns-then-not-any_rolls_up c =
    λ config added counter. none_rolled (tally_of c.args.view.now c.args.counts.now config added) c.args.rolled.now counter (sym c.any_rolls_up.ensures ∙ c.if-not-any_rolls_up.true) (some_label c.args.view.now counter.list)

pub loop-end-init : goal.loop-end-init
loop-end-init c =
    let size : length c.args.counts.now ≡ length c.args.view.now = c.requires.2.sized in
    let some : 0 < length c.args.view.now = some_label c.args.view.now c.requires.2.list in
    (omega arith, omega arith, λ config added counter. subst (λ n. IsRolledTo (tally_of c.args.view.now c.args.counts.now config added) n c.args.counts.now) (sym size) (rolled_none (tally_of c.args.view.now c.args.counts.now config added) c.args.rolled.now counter))

pub roll_piece-end-requires-clause-counter : goal.roll_piece-end-requires-clause-counter
roll_piece-end-requires-clause-counter c = (tally_of c.args.view.now c.args.counts.now c.requires.0 c.requires.1, refl, c.requires.2, c.loop-end.invariant.2 c.requires.0 c.requires.1 c.requires.2)

pub loop-end-preserved : goal.loop-end-preserved
loop-end-preserved c = (
  c.roll_piece-end.ensures.some,
  omega (arith, c.roll_piece-end.ensures.before, c.loop-end.invariant.1),
  λ config added counter. c.roll_piece-end.ensures.rolled (tally_of c.args.view.now c.args.counts.now config added) refl counter (c.loop-end.invariant.2 config added counter),
)

pub returns : goal.returns
returns c =
    let last : c.loop-end.end ≡ 1 = omega (arith, c.loop-end.invariant.0) in
    λ config added counter. subst (λ n. IsRolledTo (tally_of c.args.view.now c.args.counts.now config added) n c.loop-end.counts) last (c.loop-end.invariant.2 config added counter)
