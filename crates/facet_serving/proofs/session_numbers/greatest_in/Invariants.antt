use Rattle.std.proofs.Common.{◌≤◌, ℕ, take}
use Rattle.std.specs.Prelude.{All}
use Rattle.facet_serving.proofs.session_numbers.greatest_in.Given as goal

abbrev pub invariant-loop-order : goal.invariant-loop-order
invariant-loop-order l = record {
  least : l.fn.least ≤ l.greatest;
  most : l.greatest ≤ 64;
  no_more : (n : ℕ) → l.fn.least ≤ n → All (λ o. o.session ≤ n) l.orders → l.greatest ≤ n;
  all : All (λ o. o.session ≤ l.greatest) (take l.order-index l.orders);
}
