use Rattle.std.proofs.Common.{◌<◌, ℕ, List, length, get_or, nat_eq, not, sym, ap, ◌∙◌, arith}
use Rattle.std.proofs.lemmas.Bool.{eq-eqb}
use Rattle.live_records.proofs.Ranks.{live_end, live_at, same_get}
use Rattle.live_records.proofs.live.LiveRecords.is_live.Goals as goal

pub returns-then-at-len : goal.returns-then-at-len
returns-then-at-len c =
    eq-eqb _ _ c.if-at-len.true
    ∙ live_end c.self.inside.docs c.self.inside.dead.items c.self.invariant.0 c.self.invariant.1 _ c.self.view_is _ c.deref.ensures.value c.args.place _ c.first_from-at.ensures.within c.first_from-at.ensures.first (omega (arith, c.len.ensures))

pub returns-else-at-len : goal.returns-else-at-len
returns-else-at-len c =
    let there : c.first_from-at.result < length c.self.inside.dead.items = omega (arith, c.if-at-len.false, c.len.ensures, c.first_from-at.ensures.within, ap length c.deref.ensures.value) in
    ap not
    (ap (λ n. nat_eq n c.args.place) (c.index.ensures ∙ same_get c.self.inside.dead.items c.first_from-at.result c.index.result.now 0 there ∙ ap (λ (xs : List ℕ). get_or xs c.first_from-at.result 0) (sym c.deref.ensures.value))
    ∙ live_at c.self.inside.docs c.self.inside.dead.items c.self.invariant.0 c.self.invariant.1 _ c.self.view_is _ c.deref.ensures.value c.args.place _ (omega (arith, ap length c.deref.ensures.value)) c.first_from-at.ensures.first)
