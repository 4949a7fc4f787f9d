use Rattle.std.proofs.Common.{arith, ◌≤◌, ◌+◌, refl, subst, sym, List}
use Rattle.commit_calls.specs.Plans.{Rises}
use Rattle.commit_calls.specs.declared.plan.Write.{Write}
use Rattle.commit_plan.proofs.Rising.{rises_more}
use Rattle.commit_plan.proofs.draft.Draft.put.Goals as goal

pub invariant_of-self-2 : goal.invariant_of-self-2
invariant_of-self-2 c =
    let room : c.self.inside.from ≤ c.self.inside.next + 1 = omega (arith, c.self.invariant.0) in (
      room,
      subst (λ (ws : List Write). Rises c.self.inside.from (c.self.inside.next + 1) ws) (sym c.in_ok-push.ensures.items)
          (rises_more c.self.inside.from c.self.inside.next c.self.inside.writes.items _ c.self.invariant.0 c.self.invariant.1 refl c.requires.kind),
    )
