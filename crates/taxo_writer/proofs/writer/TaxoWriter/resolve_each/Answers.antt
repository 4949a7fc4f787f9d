use Rattle.std.proofs.Common.{◌≡◌, ◌∙◌, ℕ, List, length, ap, sym, subst, refl}
use Rattle.std.specs.Prelude.{flat_map}
use mathlib.Core.List.{IsPrefix}
use Rattle.chronicle.proofs.Prefixes.{prefix_trans}
use Rattle.facet_model.specs.CountedPaths.{AreResolved}
use Rattle.facet_names.specs.Labels.{prefixes}
use Rattle.taxo_cache.specs.Seen.{labels_of}
use Rattle.taxo_adding.proofs.Several.{are_resolved, as_many_found, new_since, none_new}
use Rattle.taxo_writer.proofs.writer.TaxoWriter.resolve_each.Goals as goal

pub returns-in_err-found-clause-adds : goal.returns-in_err-found-clause-adds
returns-in_err-found-clause-adds g c =
    let token = c.find_each.ensures.token in
    none_new c.args.self.now.limit (flat_map prefixes c.args.paths.now) c.args.token.now c.find_each.new.token c.requires.idle.0 (token.0.2 ∙ c.requires.idle.0) token.0.0 token.1

-- ---- all is known

pub returns-then-found-clause-adds : goal.returns-then-found-clause-adds
returns-then-found-clause-adds g c =
    let token = c.find_each.ensures.token in
    none_new c.args.self.now.limit (flat_map prefixes c.args.paths.now) c.args.token.now c.find_each.new.token c.requires.idle.0 (token.0.2 ∙ c.requires.idle.0) token.0.0 token.1

pub returns-then-found-clause-resolved : goal.returns-then-found-clause-resolved
returns-then-found-clause-resolved g c = are_resolved (labels_of c.find_each.new.token.seen) c.args.paths.now c.in_ok-found.found.each.items (c.in_ok-found.ensures.whole c.if-found.true)

-- ---- some are added

pub returns-in-Err-clause-more : goal.returns-in-Err-clause-more
returns-in-Err-clause-more g c = prefix_trans c.args.token.now.seen c.find_each.new.token.seen c.add_missing_each.new.token.seen c.find_each.ensures.token.1.0 c.add_missing_each.ensures.more

pub returns-in-Err-clause-adds : goal.returns-in-Err-clause-adds
returns-in-Err-clause-adds g c =
    let token = c.find_each.ensures.token in
    let new = c.add_missing_each.new.token in
    new_since c.args.self.now.limit (flat_map prefixes c.args.paths.now) c.args.self.now.limit c.args.token.now c.find_each.new.token new new
    refl c.requires.idle.0 (token.0.2 ∙ c.requires.idle.0) token.0.0 token.1 c.add_missing_each.ensures.more refl c.add_missing_each.ensures.adds

pub remember_each-requires-clause-as_many : goal.remember_each-requires-clause-as_many
remember_each-requires-clause-as_many g c = ap length c.deref-2.ensures.value ∙ sym (as_many_found (labels_of c.find_each.new.token.seen) c.args.paths.now c.in_ok-found.found.each.items c.in_ok-found.ensures.first)

pub returns-clause-more : goal.returns-clause-more
returns-clause-more g c =
    let seen : c.remember_each.new.token.seen ≡ c.add_missing_each.new.token.seen = ap (λ t. t.seen) c.remember_each.ensures.token in
    subst (IsPrefix c.args.token.now.seen) (sym seen)
    (prefix_trans c.args.token.now.seen c.find_each.new.token.seen c.add_missing_each.new.token.seen c.find_each.ensures.token.1.0 c.add_missing_each.ensures.more)

pub returns-clause-adds : goal.returns-clause-adds
returns-clause-adds g c =
    let token = c.find_each.ensures.token in
    let seen : c.remember_each.new.token.seen ≡ c.add_missing_each.new.token.seen = ap (λ t. t.seen) c.remember_each.ensures.token in
    new_since c.args.self.now.limit (flat_map prefixes c.args.paths.now) c.args.self.now.limit c.args.token.now c.find_each.new.token c.add_missing_each.new.token c.remember_each.new.token
    refl c.requires.idle.0 (token.0.2 ∙ c.requires.idle.0) token.0.0 token.1 c.add_missing_each.ensures.more seen c.add_missing_each.ensures.adds

pub returns-clause-resolved : goal.returns-clause-resolved
returns-clause-resolved g c =
    let paths = c.args.paths.now in
    let seen : c.remember_each.new.token.seen ≡ c.add_missing_each.new.token.seen = ap (λ t. t.seen) c.remember_each.ensures.token in
    subst (λ (l : List (ℕ × List (List ℕ))). AreResolved (labels_of l) paths c.in-Ok.resolved.items) (sym seen) (are_resolved (labels_of c.add_missing_each.new.token.seen) paths c.in-Ok.resolved.items c.in-Ok.ensures.ordinals)
