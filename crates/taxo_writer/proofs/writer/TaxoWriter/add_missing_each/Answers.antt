use Rattle.std.proofs.Common.{◌≡◌, ◌∙◌, ap, sym, subst}
use Rattle.std.specs.Prelude.{flat_map}
use mathlib.Core.List.{IsPrefix}
use Rattle.chronicle.proofs.Prefixes.{prefix_trans}
use Rattle.facet_names.specs.Labels.{prefixes}
use Rattle.taxo_cache.specs.Seen.{labels_of}
use Rattle.taxo_adding.specs.Several.{IsInTurn}
use Rattle.taxo_adding.proofs.Several.{each_none, first_seen, full_given_each, new_since}
use Rattle.taxo_writer.proofs.writer.TaxoWriter.add_missing_each.Goals as goal

pub returns-in_err-resolved-clause-adds : goal.returns-in_err-resolved-clause-adds
returns-in_err-resolved-clause-adds g c =
    let token = c.args.token.now in
    each_none token.number (IsInTurn c.args.self.now.limit (labels_of token.seen) (flat_map prefixes c.args.paths.now)) token.seen

pub add_behind_each-added-requires-clause-known : goal.add_behind_each-added-requires-clause-known
add_behind_each-added-requires-clause-known g c = first_seen c.args.token.now.seen c.take.new.token.seen c.take.ensures.more.0 c.args.paths.now c.args.found.now c.requires.known

pub returns-clause-more : goal.returns-clause-more
returns-clause-more g c =
    let now = c.add_behind_each-added.new.token in
    prefix_trans c.args.token.now.seen c.take.new.token.seen c.give.new.token.seen c.take.ensures.more.0
    (subst (IsPrefix c.take.new.token.seen) (sym c.give.ensures.seen.0) c.add_behind_each-added.ensures.more)

pub returns-clause-adds : goal.returns-clause-adds
returns-clause-adds g c =
    let limit : c.self.inside.limit ≡ c.args.self.now.limit = ap (λ w. w.limit) c.self.view_is in
    let took = c.take.ensures.turn.0 in
    let added = c.add_behind_each-added in
    new_since c.args.self.now.limit (flat_map prefixes c.args.paths.now) c.self.inside.limit c.args.token.now c.take.new.token added.new.token c.give.new.token
    limit c.requires.idle.0 (took.2 ∙ c.requires.idle.0) took.0 c.take.ensures.more added.ensures.more c.give.ensures.seen.0 added.ensures.adds

pub returns-clause-full : goal.returns-clause-full
returns-clause-full g c = full_given_each c.add_behind_each-added.result c.args.paths.now c.self.inside.limit c.args.self.now.limit c.add_behind_each-added.new.token c.give.new.token
    (ap (λ w. w.limit) c.self.view_is) (sym c.give.ensures.seen.0) c.add_behind_each-added.ensures.full
