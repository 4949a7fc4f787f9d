-- Files with rising numbers, and one more.
use Rattle.std.proofs.Common.{◌≡◌, ◌≢◌, ◌≤◌, ◌+◌, ℕ, List, [], ◌∷◌, ◌++◌, arith}
use Rattle.facet_disk.specs.declared.name.Kind.TheVariants.{Commit}
use Rattle.commit_calls.specs.declared.plan.Write.{Write}
use Rattle.commit_calls.specs.Plans.{Rises}

pub rises_more : (from to : ℕ) (ws : List Write) (w : Write) → from ≤ to → Rises from to ws → w.name.number ≡ to → w.name.kind ≢ Commit → Rises from (to + 1) (ws ++ w ∷ [])
rises_more from to [] w le rises is kind = (omega (arith, le, is), omega (arith, is), kind, tt)
rises_more from to (v ∷ ws) w le rises is kind = (rises.0, omega (arith, rises.1), rises.2, rises_more (v.name.number + 1) to ws w (omega (arith, rises.1)) rises.3 is kind)
