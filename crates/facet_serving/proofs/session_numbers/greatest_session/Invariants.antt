use Rattle.std.proofs.Common.{◌≤◌, ℕ, take}
use Rattle.std.specs.Prelude.{All}
use Rattle.facet_serving.proofs.session_numbers.greatest_session.Given as goal

abbrev pub invariant-loop-orders : goal.invariant-loop-orders
invariant-loop-orders l = record {
  most : l.greatest ≤ 64;
  no_more : (n : ℕ) → All (λ phase. All (λ o. o.session ≤ n) phase.items) l.phases → l.greatest ≤ n;
  all : All (λ phase. All (λ o. o.session ≤ l.greatest) phase.items) (take l.orders-index l.phases);
}
