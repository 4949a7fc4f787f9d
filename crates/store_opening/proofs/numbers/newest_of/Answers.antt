use Rattle.std.proofs.Common.{rules, ◌∙◌, ap, Bool, List, ◌<◌, ◌^◌, ℕ, Option, length, take, get_or, subst, arith}
use Rattle.std.specs.Prelude.{IfSome}
use Rattle.std.proofs.lemmas.List.{take_more, take_all}
use Rattle.facet_disk.specs.declared.name.Dir.TheVariants.{Taxonomy}
use Rattle.facet_disk.specs.declared.name.Kind.TheVariants.{Segment}
use Rattle.facet_disk.specs.declared.name.FileName.{FileName}
use Rattle.store_opening.proofs.Greatest.{IsBest, better, best_more, is_commit, newest_from}
use Rattle.store_opening.proofs.numbers.newest_of.Goals as goal

pub loop-name-preserved : goal.loop-name-preserved
loop-name-preserved c =
    let names = c.args.names.now in
    let i = c.loop-name.name-index in
    let blank : FileName = record { dir = Taxonomy; kind = Segment; number = 0 } in
    let within : i < length names = search rules in
    let best = c.greater-best.ensures.best ∙ ap (λ (b : Bool). better c.loop-name.best b (get_or names i blank).number) c.is_commit_of.ensures in
    let fits = subst (λ (o : Option ℕ). IfSome o (λ n. n < 2 ^ 64)) best c.greater-best.ensures.fits in
    rw (take_more names i blank within, best) (best_more (is_commit c.args.dir) (take i names) (get_or names i blank) c.loop-name.best fits c.loop-name.invariant)

pub returns : goal.returns
returns c = λ image listed. newest_from image c.args.names.now listed c.args.dir c.loop-name.best (subst (λ (names : List FileName). IsBest (is_commit c.args.dir) names c.loop-name.best) (take_all c.loop-name.name-index c.args.names.now (omega (arith, c.loop-name-test.false))) c.loop-name.invariant)
