use Rattle.std.proofs.Common.{rules, arith, ◌≡◌, List, ℕ, take, length, ap, sym, subst}
use Rattle.std.proofs.lemmas.List.{take_all}
use Rattle.facet_names.specs.Labels.{prefixes}
use Rattle.taxo_cache.specs.Seen.{labels_of}
use Rattle.taxo_adding.specs.Adding.{HaveOrdinals}
use Rattle.taxo_adding.specs.Several.{EachHaveFirst, EachHaveOrdinals}
use Rattle.taxo_adding.proofs.Entering.{sees_further}
use Rattle.taxo_adding.proofs.Several.{first_next, each_next, all_found}
use Rattle.taxo_writer.proofs.writer.TaxoWriter.find_each.Goals as goal

pub returns-in_err-push-clause-token : goal.returns-in_err-push-clause-token
returns-in_err-push-clause-token g c = sees_further c.args.token.now c.loop-path.token c.find_known.new.token c.loop-path.invariant.token c.find_known.ensures.token

pub loop-path-preserved : goal.loop-path-preserved
loop-path-preserved g c =
    let paths = c.args.paths.now in
    let i = c.loop-path.path-index in
    let p = c.path-item.result in
    let lt = c.loop-path-test.true in
    let at = sym c.path-item.is in
    let before = c.loop-path.invariant in
    let new = c.find_known.new.token in
    let more = c.find_known.ensures.token.1.0 in
    let r = c.new.result in
    let known : HaveOrdinals (labels_of new.seen) (take (length r) (prefixes p)) r = subst (λ (r : List ℕ). HaveOrdinals (labels_of new.seen) (take (length r) (prefixes p)) r) (sym c.new.ensures) c.in_ok-ords.ensures.known in
    record {
      token = sees_further c.args.token.now c.loop-path.token new before.token c.find_known.ensures.token;
      labels = c.find_known.ensures.labels;
      counted = λ is. c.find_known.ensures.counted (before.counted is);
      first = first_next paths i p lt at c.loop-path.token.seen new.seen more c.loop-path.each.items c.push.new.self.items r before.first known c.in_ok-push.ensures.items;
      whole = λ is.
          let parts = c.is_whole-whole.ensures is in
          let many : c.len.result ≡ length c.in_ok-ords.ords.items = search rules in
          let size : length r ≡ length p = omega (arith, ap length c.new.ensures, parts.1, many, c.len-in-loop-path.ensures.len) in
          each_next paths i p lt at c.loop-path.token.seen new.seen more c.loop-path.each.items c.push.new.self.items r (before.whole parts.0) (all_found (labels_of new.seen) p r size known) c.in_ok-push.ensures.items;
    }

pub returns-clause-first : goal.returns-clause-first
returns-clause-first g c =
    let paths = c.args.paths.now in
    let all : take c.loop-path.path-index paths ≡ paths = take_all c.loop-path.path-index paths (omega (arith, c.loop-path-test.false)) in
    subst (λ (ps : List (List (List ℕ))). EachHaveFirst (labels_of c.loop-path.token.seen) ps c.loop-path.each.items) all c.loop-path.invariant.first

pub returns-clause-whole : goal.returns-clause-whole
returns-clause-whole g c = λ is.
    let paths = c.args.paths.now in
    let all : take c.loop-path.path-index paths ≡ paths = take_all c.loop-path.path-index paths (omega (arith, c.loop-path-test.false)) in
    subst (λ (ps : List (List (List ℕ))). EachHaveOrdinals (labels_of c.loop-path.token.seen) ps c.loop-path.each.items) all (c.loop-path.invariant.whole is)
