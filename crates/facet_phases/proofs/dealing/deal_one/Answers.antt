use Rattle.std.proofs.Common.{◌∙◌, ◌-◌, ap, sym, arith, ◌++◌, ◌∷◌, []}
use Rattle.facet_phases.proofs.Dealt.{dealt_one, session_kept}
use Rattle.facet_phases.specs.declared.lane.Lane.{Lane}
use Rattle.facet_phases.proofs.dealing.deal_one.Goals as goal

pub returns-clause-dealt : goal.returns-clause-dealt
returns-clause-dealt g c =
    let item : Lane g.row.C.Denot = c.index-lanes-at.result in
    let same = sym c.index-lanes-at.is in
    dealt_one c.args.lanes.now (c.args.order.session - 1) item _ c.args.order (omega arith) c.index-lanes-at.is c.requires.numbered (omega arith)
    (ap (λ l. l.session) same) (ap (λ l. l.replies) same) (c.in_ok-push.ensures.items ∙ ap (λ l. l.orders.items ++ c.args.order ∷ []) same)

pub returns-clause-sessions : goal.returns-clause-sessions
returns-clause-sessions g c =
    let item : Lane g.row.C.Denot = c.index-lanes-at.result in
    session_kept c.args.lanes.now (c.args.order.session - 1) item _ (omega arith) c.index-lanes-at.is (ap (λ l. l.session) (sym c.index-lanes-at.is))

pub returns-in_err-push-clause-sessions : goal.returns-in_err-push-clause-sessions
returns-in_err-push-clause-sessions g c =
    let item : Lane g.row.C.Denot = c.index-lanes-at.result in
    session_kept c.args.lanes.now (c.args.order.session - 1) item _ (omega arith) c.index-lanes-at.is (ap (λ l. l.session) (sym c.index-lanes-at.is))
