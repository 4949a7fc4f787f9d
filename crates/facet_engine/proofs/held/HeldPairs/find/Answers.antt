use Rattle.std.proofs.Common.{◌≡◌, ◌∙◌, true, false, sym, ap, arith}
use Rattle.std.specs.Prelude.{string_bytes}
use Rattle.std.specs.Str.{bytes_eq}
use Rattle.facet_engine.specs.HeldPairs.{pair_under}
use Rattle.facet_engine.specs.Leases.{pairs_in}
use Rattle.facet_engine.proofs.Naming.{lease_here, lease_later, none_left}
use Rattle.facet_engine.proofs.held.HeldPairs.find.Goals as goal

pub returns-then-eq : goal.returns-then-eq
returns-then-eq c =
    let items = c.deref-held-items.result.now in
    let name = c.args.name.now in
    let all : pairs_in items ≡ c.args.self.now = ap pairs_in c.deref-held-items.ensures.value ∙ c.self.view_is in
    let is : bytes_eq (string_bytes c.held-item.result.name) name ≡ true = ap (λ text. bytes_eq text name) (sym c.as_str.ensures.value) ∙ sym c.eq.ensures ∙ c.if-eq.true in
    ap (λ held. pair_under held name) (sym all) ∙ sym c.loop-held.invariant ∙ lease_here items c.loop-held.held-index c.held-item.result c.loop-held-test.true (sym c.held-item.is) name is

pub loop-held-preserved : goal.loop-held-preserved
loop-held-preserved c =
    let name = c.args.name.now in
    let is : bytes_eq (string_bytes c.held-item.result.name) name ≡ false = ap (λ text. bytes_eq text name) (sym c.as_str.ensures.value) ∙ sym c.eq.ensures ∙ c.if-eq.false in
    sym (lease_later c.deref-held-items.result.now c.loop-held.held-index c.held-item.result c.loop-held-test.true (sym c.held-item.is) name is) ∙ c.loop-held.invariant

pub returns : goal.returns
returns c =
    let items = c.deref-held-items.result.now in
    let name = c.args.name.now in
    let all : pairs_in items ≡ c.args.self.now = ap pairs_in c.deref-held-items.ensures.value ∙ c.self.view_is in
    ap (λ held. pair_under held name) (sym all) ∙ sym c.loop-held.invariant ∙ ap (λ rest. pair_under (pairs_in rest) name) (none_left items c.loop-held.held-index (omega (arith, c.loop-held-test.false)))
