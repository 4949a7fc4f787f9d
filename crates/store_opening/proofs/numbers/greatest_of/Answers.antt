use Rattle.std.proofs.Common.{rules, List, ◌<◌, ◌^◌, ℕ, Option, length, take, get_or, subst, arith}
use Rattle.std.specs.Prelude.{IfSome}
use Rattle.std.proofs.lemmas.List.{take_more, take_all}
use Rattle.facet_disk.specs.declared.name.Dir.TheVariants.{Taxonomy}
use Rattle.facet_disk.specs.declared.name.Kind.TheVariants.{Segment}
use Rattle.facet_disk.specs.declared.name.FileName.{FileName}
use Rattle.store_opening.proofs.Greatest.{IsBest, best_more, is_any, greatest_from, most_from, none_from}
use Rattle.store_opening.proofs.numbers.greatest_of.Goals as goal

pub loop-name-preserved : goal.loop-name-preserved
loop-name-preserved c =
    let names = c.args.names.now in
    let i = c.loop-name.name-index in
    let blank : FileName = record { dir = Taxonomy; kind = Segment; number = 0 } in
    let within : i < length names = search rules in
    let best = c.greater-best.ensures.best in
    let fits = subst (λ (o : Option ℕ). IfSome o (λ n. n < 2 ^ 64)) best c.greater-best.ensures.fits in
    rw (take_more names i blank within, best) (best_more is_any (take i names) (get_or names i blank) c.loop-name.best fits c.loop-name.invariant)

pub returns-clause-greatest : goal.returns-clause-greatest
returns-clause-greatest c = λ image listed. greatest_from image c.args.names.now listed c.loop-name.best (subst (λ (names : List FileName). IsBest is_any names c.loop-name.best) (take_all c.loop-name.name-index c.args.names.now (omega (arith, c.loop-name-test.false))) c.loop-name.invariant)

pub returns-clause-most : goal.returns-clause-most
returns-clause-most c = most_from c.args.names.now c.loop-name.best (subst (λ (names : List FileName). IsBest is_any names c.loop-name.best) (take_all c.loop-name.name-index c.args.names.now (omega (arith, c.loop-name-test.false))) c.loop-name.invariant)

pub returns-clause-none : goal.returns-clause-none
returns-clause-none c = none_from c.args.names.now c.loop-name.best (subst (λ (names : List FileName). IsBest is_any names c.loop-name.best) (take_all c.loop-name.name-index c.args.names.now (omega (arith, c.loop-name-test.false))) c.loop-name.invariant)
