use Rattle.std.proofs.Common.{◌∙◌, ◌<◌, ◌≤◌, length, map, sym, ap, subst, arith}
use Rattle.std.specs.Prelude.{All}
use Rattle.std.proofs.lemmas.List.{take_all}
use Rattle.std.proofs.lemmas.List.Elements.{All-more}
use Rattle.seg_documents.specs.Entries.{IsShort}
use Rattle.facet_adding.specs.Adding.{leaf_of}
use Rattle.facet_adding.proofs.Entered.{as_many_resolved, leaf_more, long_at}
use Rattle.facet_adding.proofs.adding.leaves_of.Goals as goal

pub bounds-resolved-at : goal.bounds-resolved-at
bounds-resolved-at c = omega (arith, as_many_resolved c.args.paths.now c.args.resolved.now c.requires.as_long, c.loop-at-test.true)

pub leaf_of-requires : goal.leaf_of-requires
leaf_of-requires c = record {
  as_long = ap length c.index-resolved-at.is ∙ long_at c.args.paths.now c.args.resolved.now c.loop-at.at c.index-paths-at.result c.index-resolved-at.result c.requires.as_long c.loop-at-test.true ∙ ap length (sym c.index-paths-at.is);
}

pub loop-at-preserved : goal.loop-at-preserved
loop-at-preserved c =
    let paths = c.args.paths.now in
    let resolved = c.args.resolved.now in
    let at = c.loop-at.at in
    let lt : c.loop-at.at < length c.args.resolved.now = omega (arith, as_many_resolved c.args.paths.now c.args.resolved.now c.requires.as_long, c.loop-at-test.true) in
    record {
      leaves = leaf_more resolved c.loop-at.leaves.items c.push.new.self.items at c.leaf_of.result c.index-resolved-at.result lt c.index-resolved-at.is c.leaf_of.ensures.leaf c.loop-at.invariant.leaves c.in_ok-push.ensures.items;
      short = All-more IsShort paths at c.index-paths-at.result c.loop-at-test.true c.loop-at.invariant.short (subst IsShort c.index-paths-at.is c.leaf_of.ensures.short);
    }

pub returns-clause-leaves : goal.returns-clause-leaves
returns-clause-leaves c =
    let all : length c.args.resolved.now ≤ c.loop-at.at = omega (arith, as_many_resolved c.args.paths.now c.args.resolved.now c.requires.as_long, c.loop-at-test.false) in
    c.loop-at.invariant.leaves ∙ ap (map leaf_of) (take_all c.loop-at.at c.args.resolved.now all)

pub returns-clause-short : goal.returns-clause-short
returns-clause-short c = subst (All IsShort) (take_all c.loop-at.at c.args.paths.now (omega (arith, c.loop-at-test.false))) c.loop-at.invariant.short
