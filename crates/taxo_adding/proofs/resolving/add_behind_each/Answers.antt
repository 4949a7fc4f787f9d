use Rattle.std.proofs.Common.{rules, arith, ◌≡◌, ◌∙◌, List, ℕ, [], take, sym, subst}
use Rattle.std.specs.Prelude.{flat_map}
use Rattle.std.proofs.lemmas.List.{take_all}
use mathlib.Core.List.{IsPrefix}
use Rattle.chronicle.proofs.Prefixes.{prefix_self, prefix_trans}
use Rattle.facet_names.specs.Labels.{prefixes}
use Rattle.taxo_cache.specs.Seen.{labels_of}
use Rattle.taxo_adding.specs.Several.{EachHaveOrdinals, IsInTurn}
use Rattle.taxo_adding.proofs.Entering.{adds_begins}
use Rattle.taxo_adding.proofs.Several.{each_none, next_new, each_next, contained, first_seen, first_at, as_many_found}
use Rattle.taxo_adding.proofs.resolving.add_behind_each.Goals as goal

pub loop-at-init : goal.loop-at-init
loop-at-init c =
    let token = c.args.token.now in
    record {
      turn = search rules;
      list = c.requires.list;
      labels = c.requires.labels;
      more = prefix_self token.seen;
      adds = each_none token.number (IsInTurn c.args.limit (labels_of token.seen) (flat_map prefixes c.args.paths.now)) token.seen;
      each = subst (λ (rs : List (List ℕ)). EachHaveOrdinals (labels_of token.seen) [] rs) (sym c.requires.none) tt;
    }

pub bounds-found-at : goal.bounds-found-at
bounds-found-at c = omega (arith, as_many_found (labels_of c.args.token.now.seen) c.args.paths.now c.args.found.now c.requires.known, c.loop-at-test.true)

pub add_behind-requires-clause-known : goal.add_behind-requires-clause-known
add_behind-requires-clause-known c =
    let paths = c.args.paths.now in
    let found = c.args.found.now in
    let now = c.loop-at.token.seen in
    first_at paths c.loop-at.at c.index-paths-at.result c.loop-at-test.true (sym c.index-paths-at.is) (labels_of now) found c.index-found-at.result (sym c.index-found-at.is)
    (first_seen c.args.token.now.seen now c.loop-at.invariant.more paths found c.requires.known)

pub returns-in-Err-clause-more : goal.returns-in-Err-clause-more
returns-in-Err-clause-more c =
    let new = c.add_behind.new.token in
    prefix_trans c.args.token.now.seen c.loop-at.token.seen new.seen c.loop-at.invariant.more (adds_begins c.index-paths-at.result c.args.limit c.loop-at.token new c.add_behind.ensures.adds)

pub returns-in-Err-clause-adds : goal.returns-in-Err-clause-adds
returns-in-Err-clause-adds c =
    let before = c.loop-at.invariant in
    let same = before.turn.0 in
    let new = c.add_behind.new.token in
    let after = c.add_behind.ensures.turn.0 in
    next_new c.args.paths.now c.loop-at.at c.index-paths-at.result c.loop-at-test.true (sym c.index-paths-at.is) c.args.limit c.args.token.now.number c.args.token.now c.loop-at.token new c.loop-at.resolved.items
    before.each same.0 after.0 (same.2 ∙ c.requires.turn.0) (after.2 ∙ same.2 ∙ c.requires.turn.0) c.add_behind.ensures.adds
    (adds_begins c.index-paths-at.result c.args.limit c.loop-at.token new c.add_behind.ensures.adds) before.adds

pub returns-in-Err-clause-full : goal.returns-in-Err-clause-full
returns-in-Err-clause-full c = λ not_memory.
    let paths = c.args.paths.now in
    (c.index-paths-at.result, contained paths c.loop-at.at c.index-paths-at.result c.loop-at-test.true (sym c.index-paths-at.is), c.in-Err.ensures.full not_memory)

pub returns-in_err-push-in-Ok-clause-more : goal.returns-in_err-push-in-Ok-clause-more
returns-in_err-push-in-Ok-clause-more c =
    let new = c.add_behind.new.token in
    prefix_trans c.args.token.now.seen c.loop-at.token.seen new.seen c.loop-at.invariant.more (adds_begins c.index-paths-at.result c.args.limit c.loop-at.token new c.add_behind.ensures.adds)

pub returns-in_err-push-in-Ok-clause-adds : goal.returns-in_err-push-in-Ok-clause-adds
returns-in_err-push-in-Ok-clause-adds c =
    let before = c.loop-at.invariant in
    let same = before.turn.0 in
    let new = c.add_behind.new.token in
    let after = c.add_behind.ensures.turn.0 in
    next_new c.args.paths.now c.loop-at.at c.index-paths-at.result c.loop-at-test.true (sym c.index-paths-at.is) c.args.limit c.args.token.now.number c.args.token.now c.loop-at.token new c.loop-at.resolved.items
    before.each same.0 after.0 (same.2 ∙ c.requires.turn.0) (after.2 ∙ same.2 ∙ c.requires.turn.0) c.add_behind.ensures.adds
    (adds_begins c.index-paths-at.result c.args.limit c.loop-at.token new c.add_behind.ensures.adds) before.adds

pub loop-at-preserved : goal.loop-at-preserved
loop-at-preserved c =
    let paths = c.args.paths.now in
    let i = c.loop-at.at in
    let p = c.index-paths-at.result in
    let before = c.loop-at.invariant in
    let same = before.turn.0 in
    let new = c.add_behind.new.token in
    let after = c.add_behind.ensures.turn.0 in
    let lt = c.loop-at-test.true in
    let at = sym c.index-paths-at.is in
    let more : IsPrefix c.loop-at.token.seen new.seen = adds_begins p c.args.limit c.loop-at.token new c.add_behind.ensures.adds in
    record {
      turn = search rules;
      list = c.add_behind.ensures.list;
      labels = c.add_behind.ensures.labels;
      more = prefix_trans c.args.token.now.seen c.loop-at.token.seen new.seen before.more more;
      adds = next_new paths i p lt at c.args.limit c.args.token.now.number c.args.token.now c.loop-at.token new c.loop-at.resolved.items
          before.each same.0 after.0 (same.2 ∙ c.requires.turn.0) (after.2 ∙ same.2 ∙ c.requires.turn.0) c.add_behind.ensures.adds more before.adds;
      each = each_next paths i p lt at c.loop-at.token.seen new.seen more c.loop-at.resolved.items c.push.new.self.items c.in-Ok.ordinals before.each c.in-Ok.ensures.ordinals c.in_ok-push-in-Ok.ensures.items;
    }

pub returns-clause-ordinals : goal.returns-clause-ordinals
returns-clause-ordinals c =
    let paths = c.args.paths.now in
    let all : take c.loop-at.at paths ≡ paths = take_all c.loop-at.at paths (omega (arith, c.loop-at-test.false)) in
    subst (λ (ps : List (List (List ℕ))). EachHaveOrdinals (labels_of c.loop-at.token.seen) ps c.loop-at.resolved.items) all c.loop-at.invariant.each
