use Rattle.std.proofs.Common.{ℕ, List, sym, subst}
use Rattle.std.proofs.lemmas.Result.{IfOk-weaker}
use Rattle.facet_model.specs.Histories.{Operation}
use Rattle.chronicle.specs.Shown.{Shown}
use Rattle.pair_manager.specs.Next.{IsNext}
use Rattle.pair_manager.proofs.Going.{go_as}
use Rattle.pair_manager.proofs.manager.Manager.make_next.Goals as goal

pub returns-clause-tokens : goal.returns-clause-tokens
returns-clause-tokens g c =
    go_as c.args.labels.now c.make_pair.new.labels c.note-2.new.of c.args.operations.now c.make_pair.new.operations c.note.new.of c.note-2.ensures.of c.note.ensures.of c.make_pair.ensures.tokens

pub returns-clause-next : goal.returns-clause-next
returns-clause-next g c =
    let config = c.args.last.now.config in
    let pair = c.in_ok-pair.pair in
    let labels = c.note-2.new.of in
    let operations = c.note.new.of in
    let next : IsNext config c.note.new.of c.note-2.new.of pair =
    subst (λ (t : Shown (List (List ℕ))). IsNext config operations t pair) (sym c.note-2.ensures.of)
    (subst (λ (t : Shown Operation). IsNext config t c.make_pair.new.labels pair) (sym c.note.ensures.of) c.in_ok-pair.ensures.next) in
    IfOk-weaker c.new.result _ _ (λ state is. subst (IsNext config operations labels) (sym is) next) c.new.ensures
