use Rattle.std.proofs.Common.{◌≡◌, ◌∙◌, ◌∷◌, [], sym, ap}
use Rattle.atomic_table.specs.Seated.{TableId}
use Rattle.chronicle.specs.Frame.{Frame}
use Rattle.pair_manager.proofs.Going.{rests_on, same_on, same_self, sees_on}
use Rattle.pair_manager.proofs.Refreshed.{may_publish, refreshed}
use Rattle.pair_manager.proofs.manager.Manager.refresh.Goals as goal

pub end_turn-requires-clause-next : goal.end_turn-requires-clause-next
end_turn-requires-clause-next g c =
    let t = c.take_last-last in
    let m = c.make_next-next in
    may_publish t.result c.args.pass.now.pairs t.new.pairs c.args.pass.now.labels t.new.labels m.new.labels c.args.pass.now.operations t.new.operations m.new.operations t.ensures.last t.ensures.told t.ensures.more_labels t.ensures.more_operations m.ensures.tokens
    m.result m.ensures.next t.ensures.frame (ap (λ (f : Frame). f.identities) t.ensures.pairs.0.4 ∙ c.args.pass.now.pairs_tied) t.ensures.labels.0.3 t.ensures.operations.0.3

pub returns-clause-same : goal.returns-clause-same
returns-clause-same g c =
    let pass = c.args.pass.now in
    let t = c.take_last-last in
    let m = c.make_next-next in
    record {
      labels = same_on pass.labels t.new.labels m.new.labels t.ensures.labels.0 m.ensures.tokens.known.0;
      operations = same_on pass.operations t.new.operations m.new.operations t.ensures.operations.0 m.ensures.tokens.history.0;
      pairs = same_on pass.pairs t.new.pairs c.end_turn.new.pairs t.ensures.pairs.0 c.end_turn.ensures.pairs.0;
      commits = same_self pass.commits;
    }

pub returns-clause-labels : goal.returns-clause-labels
returns-clause-labels g c = sees_on c.args.pass.now.labels c.take_last-last.new.labels c.make_next-next.new.labels c.take_last-last.ensures.more_labels c.make_next-next.ensures.tokens.more_labels

pub returns-clause-operations : goal.returns-clause-operations
returns-clause-operations g c = sees_on c.args.pass.now.operations c.take_last-last.new.operations c.make_next-next.new.operations c.take_last-last.ensures.more_operations c.make_next-next.ensures.tokens.more_operations

pub invariant_of-pass-clause-right : goal.invariant_of-pass-clause-right
invariant_of-pass-clause-right g c =
    let t = c.take_last-last in
    let m = c.make_next-next in
    let e = c.end_turn in
    (refreshed t.result c.args.pass.now.pairs t.new.pairs c.args.pass.now.labels t.new.labels m.new.labels c.args.pass.now.operations t.new.operations m.new.operations t.ensures.last t.ensures.told t.ensures.more_labels t.ensures.more_operations m.ensures.tokens
    e.new.pairs m.result e.result m.ensures.next t.ensures.pairs.0 t.ensures.more_pairs e.ensures.pairs.0 e.ensures.ended).right

pub returns-clause-pairs : goal.returns-clause-pairs
returns-clause-pairs g c =
    let t = c.take_last-last in
    let m = c.make_next-next in
    let e = c.end_turn in
    (refreshed t.result c.args.pass.now.pairs t.new.pairs c.args.pass.now.labels t.new.labels m.new.labels c.args.pass.now.operations t.new.operations m.new.operations t.ensures.last t.ensures.told t.ensures.more_labels t.ensures.more_operations m.ensures.tokens
    e.new.pairs m.result e.result m.ensures.next t.ensures.pairs.0 t.ensures.more_pairs e.ensures.pairs.0 e.ensures.ended).pairs

pub returns-clause-answer : goal.returns-clause-answer
returns-clause-answer g c =
    let t = c.take_last-last in
    let m = c.make_next-next in
    let e = c.end_turn in
    (refreshed t.result c.args.pass.now.pairs t.new.pairs c.args.pass.now.labels t.new.labels m.new.labels c.args.pass.now.operations t.new.operations m.new.operations t.ensures.last t.ensures.told t.ensures.more_labels t.ensures.more_operations m.ensures.tokens
    e.new.pairs m.result e.result m.ensures.next t.ensures.pairs.0 t.ensures.more_pairs e.ensures.pairs.0 e.ensures.ended).answer

pub returns-clause-fresh : goal.returns-clause-fresh
returns-clause-fresh g c =
    let t = c.take_last-last in
    let m = c.make_next-next in
    let e = c.end_turn in
    (refreshed t.result c.args.pass.now.pairs t.new.pairs c.args.pass.now.labels t.new.labels m.new.labels c.args.pass.now.operations t.new.operations m.new.operations t.ensures.last t.ensures.told t.ensures.more_labels t.ensures.more_operations m.ensures.tokens
    e.new.pairs m.result e.result m.ensures.next t.ensures.pairs.0 t.ensures.more_pairs e.ensures.pairs.0 e.ensures.ended).fresh

pub returns-clause-covers : goal.returns-clause-covers
returns-clause-covers g c =
    let t = c.take_last-last in
    let m = c.make_next-next in
    let e = c.end_turn in
    (refreshed t.result c.args.pass.now.pairs t.new.pairs c.args.pass.now.labels t.new.labels m.new.labels c.args.pass.now.operations t.new.operations m.new.operations t.ensures.last t.ensures.told t.ensures.more_labels t.ensures.more_operations m.ensures.tokens
    e.new.pairs m.result e.result m.ensures.next t.ensures.pairs.0 t.ensures.more_pairs e.ensures.pairs.0 e.ensures.ended).covers

pub returns-clause-enters : goal.returns-clause-enters
returns-clause-enters g c =
    let t = c.take_last-last in
    let m = c.make_next-next in
    let e = c.end_turn in
    (refreshed t.result c.args.pass.now.pairs t.new.pairs c.args.pass.now.labels t.new.labels m.new.labels c.args.pass.now.operations t.new.operations m.new.operations t.ensures.last t.ensures.told t.ensures.more_labels t.ensures.more_operations m.ensures.tokens
    e.new.pairs m.result e.result m.ensures.next t.ensures.pairs.0 t.ensures.more_pairs e.ensures.pairs.0 e.ensures.ended).enters

pub returns-clause-last : goal.returns-clause-last
returns-clause-last g c =
    let t = c.take_last-last in
    let m = c.make_next-next in
    let e = c.end_turn in
    (refreshed t.result c.args.pass.now.pairs t.new.pairs c.args.pass.now.labels t.new.labels m.new.labels c.args.pass.now.operations t.new.operations m.new.operations t.ensures.last t.ensures.told t.ensures.more_labels t.ensures.more_operations m.ensures.tokens
    e.new.pairs m.result e.result m.ensures.next t.ensures.pairs.0 t.ensures.more_pairs e.ensures.pairs.0 e.ensures.ended).newest

pub returns-clause-none : goal.returns-clause-none
returns-clause-none g c =
    let t = c.take_last-last in
    let m = c.make_next-next in
    let e = c.end_turn in
    (refreshed t.result c.args.pass.now.pairs t.new.pairs c.args.pass.now.labels t.new.labels m.new.labels c.args.pass.now.operations t.new.operations m.new.operations t.ensures.last t.ensures.told t.ensures.more_labels t.ensures.more_operations m.ensures.tokens
    e.new.pairs m.result e.result m.ensures.next t.ensures.pairs.0 t.ensures.more_pairs e.ensures.pairs.0 e.ensures.ended).none

pub make_next-next-requires-clause-own : goal.make_next-next-requires-clause-own
make_next-next-requires-clause-own g c =
    let pass = c.args.pass.now in
    let t = c.take_last-last in
    (t.ensures.labels.0.3 ∙ c.requires.own.labels, t.ensures.operations.0.3 ∙ c.requires.own.operations)

pub make_next-next-requires-clause-idle : goal.make_next-next-requires-clause-idle
make_next-next-requires-clause-idle g c =
    let pass = c.args.pass.now in
    let t = c.take_last-last in
    (rests_on pass.labels t.new.labels t.ensures.labels.0 t.ensures.labels.1 pass.labels_rest, rests_on pass.operations t.new.operations t.ensures.operations.0 t.ensures.operations.1 pass.operations_rest)

pub make_next-next-requires-clause-config : goal.make_next-next-requires-clause-config
make_next-next-requires-clause-config g c =
    let pass = c.args.pass.now in
    let t = c.take_last-last in
    ap (λ (f : Frame). f.texts) (t.ensures.frame ∙ t.ensures.pairs.0.4) ∙ pass.one_config.0 ∙ sym (ap (λ (f : Frame). f.texts) t.ensures.operations.0.4)

pub end_turn-requires-clause-turn : goal.end_turn-requires-clause-turn
end_turn-requires-clause-turn g c =
    let pass = c.args.pass.now in
    let t = c.take_last-last in
    (t.ensures.pairs.0.2 ∙ pass.pairs_rest.0, (t.ensures.pairs.1, t.ensures.pairs.0.5 ∙ pass.pairs_rest.2))

pub invariant_of-pass-clause-labels_rest : goal.invariant_of-pass-clause-labels_rest
invariant_of-pass-clause-labels_rest g c =
    let pass = c.args.pass.now in
    let t = c.take_last-last in
    let m = c.make_next-next in
    rests_on pass.labels m.new.labels (same_on pass.labels t.new.labels m.new.labels t.ensures.labels.0 m.ensures.tokens.known.0) m.ensures.tokens.known.1 pass.labels_rest

pub invariant_of-pass-clause-operations_rest : goal.invariant_of-pass-clause-operations_rest
invariant_of-pass-clause-operations_rest g c =
    let pass = c.args.pass.now in
    let t = c.take_last-last in
    let m = c.make_next-next in
    rests_on pass.operations m.new.operations (same_on pass.operations t.new.operations m.new.operations t.ensures.operations.0 m.ensures.tokens.history.0) m.ensures.tokens.history.1 pass.operations_rest

pub invariant_of-pass-clause-pairs_rest : goal.invariant_of-pass-clause-pairs_rest
invariant_of-pass-clause-pairs_rest g c =
    let pass = c.args.pass.now in
    let t = c.take_last-last in
    let e = c.end_turn in
    rests_on pass.pairs e.new.pairs (same_on pass.pairs t.new.pairs e.new.pairs t.ensures.pairs.0 e.ensures.pairs.0) e.ensures.pairs.1 pass.pairs_rest

pub invariant_of-pass-clause-list : goal.invariant_of-pass-clause-list
invariant_of-pass-clause-list g c =
    c.make_next-next.ensures.tokens.list

pub invariant_of-pass-clause-index_tied : goal.invariant_of-pass-clause-index_tied
invariant_of-pass-clause-index_tied g c =
    let pass = c.args.pass.now in
    let t = c.take_last-last in
    let m = c.make_next-next in
    let labels : m.new.labels.identity ≡ pass.labels.identity = m.ensures.tokens.known.0.3 ∙ t.ensures.labels.0.3 in
    let framed = m.ensures.tokens.history.0.4 ∙ t.ensures.operations.0.4 in
    ap (λ (f : Frame). f.identities) framed ∙ pass.index_tied ∙ ap (λ (i : TableId). i ∷ []) (sym labels)

pub invariant_of-pass-clause-pairs_tied : goal.invariant_of-pass-clause-pairs_tied
invariant_of-pass-clause-pairs_tied g c =
    let pass = c.args.pass.now in
    let t = c.take_last-last in
    let m = c.make_next-next in
    let labels : m.new.labels.identity ≡ pass.labels.identity = m.ensures.tokens.known.0.3 ∙ t.ensures.labels.0.3 in
    let operations : m.new.operations.identity ≡ pass.operations.identity = m.ensures.tokens.history.0.3 ∙ t.ensures.operations.0.3 in
    let pairs = c.end_turn.ensures.pairs.0.4 ∙ t.ensures.pairs.0.4 in
    ap (λ (f : Frame). f.identities) pairs ∙ pass.pairs_tied ∙ (λ i. sym operations i ∷ sym labels i ∷ [])

pub invariant_of-pass-clause-commits_tied : goal.invariant_of-pass-clause-commits_tied
invariant_of-pass-clause-commits_tied g c =
    let pass = c.args.pass.now in
    let t = c.take_last-last in
    let m = c.make_next-next in
    let labels : m.new.labels.identity ≡ pass.labels.identity = m.ensures.tokens.known.0.3 ∙ t.ensures.labels.0.3 in
    let operations : m.new.operations.identity ≡ pass.operations.identity = m.ensures.tokens.history.0.3 ∙ t.ensures.operations.0.3 in
    pass.commits_tied ∙ (λ i. sym operations i ∷ sym labels i ∷ [])

pub invariant_of-pass-clause-one_config : goal.invariant_of-pass-clause-one_config
invariant_of-pass-clause-one_config g c =
    let pass = c.args.pass.now in
    let t = c.take_last-last in
    let m = c.make_next-next in
    let framed = m.ensures.tokens.history.0.4 ∙ t.ensures.operations.0.4 in
    let pairs = c.end_turn.ensures.pairs.0.4 ∙ t.ensures.pairs.0.4 in
    (ap (λ (f : Frame). f.texts) pairs ∙ pass.one_config.0 ∙ sym (ap (λ (f : Frame). f.texts) framed), pass.one_config.1 ∙ sym (ap (λ (f : Frame). f.texts) framed))
