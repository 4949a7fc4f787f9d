use Rattle.std.proofs.Common.{rules, ◌≡◌, ◌∙◌, ap, inl, subst, sym, false, [], ◌∷◌, Some}
use Rattle.chronicle.specs.History.{entries, numbered, NumbersUpTo}
use Rattle.chronicle.specs.TokenView.{shown}
use Rattle.chronicle.proofs.Entries.{NumbersUpTo-numbered, entries-numbered}
use Rattle.chronicle.proofs.Keeping.{opens}
use Rattle.chronicle.proofs.Resting.{counted, mine-numbered}
use Rattle.chronicle.proofs.chronicle.Chronicle.open.Goals as goal

pub new-requires : goal.new-requires
new-requires g c =
    let items : c.push.new.self.items ≡ Some c.args.value ∷ [] = search rules in
    rw items (opens _ _ _ c.of-about.result c.args.value (search rules) (search rules))

pub invariant_of-token : goal.invariant_of-token
invariant_of-token g c =
    let seen : c.in-Ok.seat.me.0.seen ≡ numbered 0 (g.V.Standing.opening c.args.value) = search rules in
    (c.in-Ok.seat.me.0, search rules, search rules, search rules, inl (search rules), λ m by. subst (λ l. NumbersUpTo m l) (sym seen) (NumbersUpTo-numbered m (g.V.Standing.opening c.args.value)))

pub returns-in-Ok-clause-entries : goal.returns-in-Ok-clause-entries
returns-in-Ok-clause-entries g c =
    let token = shown c.into_badge.result.table_id false c.into_badge.result.views in
    let begun = g.V.Standing.opening c.args.value in
    let seen : token.seen ≡ numbered 0 begun = search rules in
    ap entries seen ∙ entries-numbered 0 begun

pub returns-in-Ok-clause-mine : goal.returns-in-Ok-clause-mine
returns-in-Ok-clause-mine g c =
    mine-numbered (shown c.into_badge.result.table_id false c.into_badge.result.views) (g.V.Standing.opening c.args.value) (search rules) (search rules) (search rules)

pub returns-in-Ok-clause-counted : goal.returns-in-Ok-clause-counted
returns-in-Ok-clause-counted g c =
    let seen : c.in-Ok.seat.me.0.seen ≡ numbered 0 (g.V.Standing.opening c.args.value) = search rules in
    counted c.into_badge.result.table_id false c.into_badge.result.views c.in-Ok.seat.me.0 (search rules) (λ m by. subst (λ l. NumbersUpTo m l) (sym seen) (NumbersUpTo-numbered m (g.V.Standing.opening c.args.value)))
