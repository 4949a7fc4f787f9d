use Rattle.std.proofs.Common.{rules, arith, ◌≡◌, ◌∙◌, ◌<◌, ◌≤◌, ◌+◌, ◌∷◌, ◌++◌, [], false, List, ℕ, Some, take, get_or, length, ap, sym, subst}
use Rattle.std.proofs.lemmas.List.{take_all, length-take-le}
use Rattle.chronicle.specs.History.{numbered}
use Rattle.chronicle.specs.Shown.{mine}
use Rattle.facet_names.specs.Labels.{above, prefixes, stands, place}
use Rattle.taxo_cache.specs.Seen.{labels_of}
use Rattle.taxo_adding.specs.Adding.{lacking, HaveOrdinals}
use Rattle.taxo_adding.proofs.Ordinals.{known_few, none_missing, one_ordinal_more, ordinals_seen, parent_placed, as_many_ordinals, lacks_one}
use Rattle.taxo_adding.proofs.Entering.{nothing_yet, so_far, next_so_far}
use Rattle.taxo_adding.proofs.resolving.add_each.Goals as goal
use Rattle.facet_names.proofs.Fronts.{as_many_prefixes, prefix_at}

pub loop-n-init : goal.loop-n-init
loop-n-init c =
    let path = c.args.path.now in
    let size : c.len-from.result ≡ length c.args.ords.now.items = search rules in
    let known : HaveOrdinals (labels_of c.args.token.now.seen) (take c.len-from.result (prefixes path)) c.args.ords.now.items = subst (λ (k : ℕ). HaveOrdinals (labels_of c.args.token.now.seen) (take k (prefixes path)) c.args.ords.now.items) (sym size) c.requires.known in
    record {
      turn = search rules;
      list = c.requires.list;
      labels = c.requires.labels;
      short = omega (arith, size, known_few (labels_of c.args.token.now.seen) path c.args.ords.now.items c.requires.known);
      ordinals = known;
      entered = nothing_yet path c.args.limit c.len-from.result c.args.token.now (none_missing (labels_of c.args.token.now.seen) (take c.len-from.result (prefixes path)) c.args.ords.now.items known);
    }

pub returns-in_err-prefix-clause-adds : goal.returns-in_err-prefix-clause-adds
returns-in_err-prefix-clause-adds c = so_far c.args.path.now c.args.limit c.loop-n.n c.args.token.now c.loop-n.token c.loop-n.invariant.entered c.loop-n.invariant.turn.0.0

pub parent_of-parent-requires : goal.parent_of-parent-requires
parent_of-parent-requires c =
    let path = c.args.path.now in
    let lt : c.loop-n.n < length path = omega (arith, c.loop-n-test.true, c.len-n-end.ensures.len) in
    let size : length (take c.loop-n.n (prefixes path)) ≡ c.loop-n.n = length-take-le c.loop-n.n (prefixes path) (omega (arith, lt, as_many_prefixes path)) in
    omega (arith, size, as_many_ordinals (labels_of c.loop-n.token.seen) (take c.loop-n.n (prefixes path)) c.loop-n.ords.items c.loop-n.invariant.ordinals)

pub add_label-requires-clause-parent : goal.add_label-requires-clause-parent
add_label-requires-clause-parent c =
    let path = c.args.path.now in
    let lt : c.loop-n.n < length path = omega (arith, c.loop-n-test.true, c.len-n-end.ensures.len) in
    let same : c.as_slice.result.now ≡ c.loop-n.ords.items = search rules in
    ap (λ p. place (labels_of c.loop-n.token.seen) (above p)) c.in_ok-prefix.ensures
    ∙ parent_placed c.loop-n.token.seen c.loop-n.invariant.labels path c.loop-n.n c.loop-n.ords.items c.parent_of-parent.result lt c.loop-n.invariant.ordinals c.parent_of-parent.ensures.first
    (λ m next. c.parent_of-parent.ensures.later m next ∙ ap (λ os. get_or os m 0) same)

pub returns-in_err-push-in-Ok-clause-adds : goal.returns-in_err-push-in-Ok-clause-adds
returns-in_err-push-in-Ok-clause-adds c =
    let path = c.args.path.now in
    let n = c.loop-n.n in
    let lt : n < length path = omega (arith, c.loop-n-test.true, c.len-n-end.ensures.len) in
    let seen : c.add_label.new.token.seen ≡ c.loop-n.token.seen ++ numbered c.args.token.now.number (lacking (labels_of c.loop-n.token.seen) (take (n + 1) path ∷ [])) = c.in-Ok.ensures.entered ∙ (λ i. c.loop-n.token.seen ++ numbered (c.loop-n.invariant.turn.0.0 i) (lacking (labels_of c.loop-n.token.seen) (c.in_ok-prefix.ensures i ∷ []))) in
    let own : mine c.add_label.new.token ≡ mine c.loop-n.token ++ numbered c.args.token.now.number (lacking (labels_of c.loop-n.token.seen) (take (n + 1) path ∷ [])) = c.in-Ok.ensures.mine ∙ (λ i. mine c.loop-n.token ++ numbered (c.loop-n.invariant.turn.0.0 i) (lacking (labels_of c.loop-n.token.seen) (c.in_ok-prefix.ensures i ∷ []))) in
    let room : stands (labels_of c.loop-n.token.seen) (take (n + 1) path) ≡ false → length (labels_of c.add_label.new.token.seen) ≤ c.args.limit = λ none. c.in-Ok.ensures.room (ap (stands (labels_of c.loop-n.token.seen)) c.in_ok-prefix.ensures ∙ none) in
    so_far path c.args.limit (n + 1) c.args.token.now c.add_label.new.token (next_so_far path c.args.limit n c.args.token.now c.loop-n.token c.loop-n.invariant.entered lt c.add_label.new.token seen own room) (search (rules, c.loop-n.invariant.turn, c.add_label.ensures.turn))

pub returns-in-Err-clause-adds : goal.returns-in-Err-clause-adds
returns-in-Err-clause-adds c = rw c.in-Err.ensures.refused (so_far c.args.path.now c.args.limit c.loop-n.n c.args.token.now c.loop-n.token c.loop-n.invariant.entered c.loop-n.invariant.turn.0.0)

pub returns-in-Err-clause-full : goal.returns-in-Err-clause-full
returns-in-Err-clause-full c = λ not_memory.
    let path = c.args.path.now in
    let n = c.loop-n.n in
    let lt : n < length path = omega (arith, c.loop-n-test.true, c.len-n-end.ensures.len) in
    let full = c.in-Err.ensures.full not_memory in
    rw c.in-Err.ensures.refused (record {
      size = full.0;
      full = full.1;
      lacks = lacks_one (labels_of c.loop-n.token.seen) path n lt (ap (stands (labels_of c.loop-n.token.seen)) (sym c.in_ok-prefix.ensures) ∙ full.2);
    })

pub loop-n-preserved : goal.loop-n-preserved
loop-n-preserved c =
    let path = c.args.path.now in
    let n = c.loop-n.n in
    let lt : n < length path = omega (arith, c.loop-n-test.true, c.len-n-end.ensures.len) in
    let seen : c.add_label.new.token.seen ≡ c.loop-n.token.seen ++ numbered c.args.token.now.number (lacking (labels_of c.loop-n.token.seen) (take (n + 1) path ∷ [])) = c.in-Ok.ensures.entered ∙ (λ i. c.loop-n.token.seen ++ numbered (c.loop-n.invariant.turn.0.0 i) (lacking (labels_of c.loop-n.token.seen) (c.in_ok-prefix.ensures i ∷ []))) in
    let own : mine c.add_label.new.token ≡ mine c.loop-n.token ++ numbered c.args.token.now.number (lacking (labels_of c.loop-n.token.seen) (take (n + 1) path ∷ [])) = c.in-Ok.ensures.mine ∙ (λ i. mine c.loop-n.token ++ numbered (c.loop-n.invariant.turn.0.0 i) (lacking (labels_of c.loop-n.token.seen) (c.in_ok-prefix.ensures i ∷ []))) in
    let room : stands (labels_of c.loop-n.token.seen) (take (n + 1) path) ≡ false → length (labels_of c.add_label.new.token.seen) ≤ c.args.limit = λ none. c.in-Ok.ensures.room (ap (stands (labels_of c.loop-n.token.seen)) c.in_ok-prefix.ensures ∙ none) in
    let at : place (labels_of c.add_label.new.token.seen) (take (n + 1) path) ≡ Some c.in-Ok.ord = ap (place (labels_of c.add_label.new.token.seen)) (sym c.in_ok-prefix.ensures) ∙ c.in-Ok.ensures.ordinal in
    let further = ordinals_seen c.loop-n.token.seen c.add_label.new.token.seen (numbered c.args.token.now.number (lacking (labels_of c.loop-n.token.seen) (take (n + 1) path ∷ [])), sym seen) (take n (prefixes path)) c.loop-n.ords.items c.loop-n.invariant.ordinals in
    record {
      turn = search rules;
      list = c.in-Ok.ensures.list;
      labels = c.add_label.ensures.labels;
      short = omega (arith, lt);
      ordinals = one_ordinal_more (labels_of c.add_label.new.token.seen) (prefixes path) c.loop-n.ords.items c.push.new.self.items n c.in-Ok.ord (take (n + 1) path) (omega (arith, lt, as_many_prefixes path)) (prefix_at path n lt) further at c.in_ok-push-in-Ok.ensures.items;
      entered = next_so_far path c.args.limit n c.args.token.now c.loop-n.token c.loop-n.invariant.entered lt c.add_label.new.token seen own room;
    }

pub returns-clause-adds : goal.returns-clause-adds
returns-clause-adds c = so_far c.args.path.now c.args.limit c.loop-n.n c.args.token.now c.loop-n.token c.loop-n.invariant.entered c.loop-n.invariant.turn.0.0

pub returns-clause-ordinals : goal.returns-clause-ordinals
returns-clause-ordinals c =
    let path = c.args.path.now in
    subst (λ (ps : List (List (List ℕ))). HaveOrdinals (labels_of c.loop-n.token.seen) ps c.loop-n.ords.items) (take_all c.loop-n.n (prefixes path) (omega (arith, as_many_prefixes path, c.loop-n-test.false, c.len-n-end.ensures.len))) c.loop-n.invariant.ordinals
