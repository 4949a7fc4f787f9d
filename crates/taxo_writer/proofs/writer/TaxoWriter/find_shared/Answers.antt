use Rattle.std.proofs.Common.{arith, ◌≡◌, ◌<◌, ◌+◌, Some, take, length}
use Rattle.facet_names.specs.Labels.{prefixes, place}
use Rattle.taxo_cache.specs.Seen.{labels_of}
use Rattle.taxo_adding.proofs.Ordinals.{known_taken, one_ordinal_more, ordinals_seen}
use Rattle.taxo_adding.proofs.Entering.{sees_further}
use Rattle.taxo_writer.proofs.writer.TaxoWriter.find_shared.Goals as goal
use Rattle.facet_names.proofs.Fronts.{as_many_prefixes, prefix_at}

pub returns-in_err-push-in-Hit-clause-token : goal.returns-in_err-push-in-Hit-clause-token
returns-in_err-push-in-Hit-clause-token g c = sees_further c.args.token.now c.loop-n.token c.look_at.new.token c.loop-n.invariant.token c.look_at.ensures.token

pub returns-in-Miss-clause-known : goal.returns-in-Miss-clause-known
returns-in-Miss-clause-known g c =
    let ords = c.loop-n.ords.items in
    ordinals_seen c.loop-n.token.seen c.look_at.new.token.seen c.look_at.ensures.token.1.0 (take (length ords) (prefixes c.args.path.now)) ords (known_taken (labels_of c.loop-n.token.seen) c.args.path.now ords c.loop-n.n c.loop-n.invariant.known)

pub loop-n-preserved : goal.loop-n-preserved
loop-n-preserved g c =
    let path = c.args.path.now in
    let n = c.loop-n.n in
    let lt : n < length path = omega (arith, c.loop-n-test.true, c.len-n-end.ensures.len) in
    let at : place (labels_of c.look_at.new.token.seen) (take (n + 1) path) ≡ Some c.in-Hit.ord = c.in_ok-found.ensures.hit c.in-Hit.ord c.in-Hit.is in
    let further = ordinals_seen c.loop-n.token.seen c.look_at.new.token.seen c.look_at.ensures.token.1.0 (take n (prefixes path)) c.loop-n.ords.items c.loop-n.invariant.known in
    record {
      token = sees_further c.args.token.now c.loop-n.token c.look_at.new.token c.loop-n.invariant.token c.look_at.ensures.token;
      labels = λ is. c.look_at.ensures.labels (c.loop-n.invariant.labels is);
      counted = λ is. c.look_at.ensures.counted (c.loop-n.invariant.counted is);
      known = one_ordinal_more (labels_of c.look_at.new.token.seen) (prefixes path) c.loop-n.ords.items c.push.new.self.items n c.in-Hit.ord (take (n + 1) path) (omega (arith, lt, as_many_prefixes path)) (prefix_at path n lt) further at c.in_ok-push-in-Hit.ensures.items;
    }

pub returns-clause-known : goal.returns-clause-known
returns-clause-known g c = known_taken (labels_of c.loop-n.token.seen) c.args.path.now c.loop-n.ords.items c.loop-n.n c.loop-n.invariant.known
