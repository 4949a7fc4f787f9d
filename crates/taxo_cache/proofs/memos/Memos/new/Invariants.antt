use Rattle.std.proofs.Common.{◌≡◌}
use Rattle.taxo_cache.proofs.memos.Memos.new.Given as goal

abbrev pub invariant-loop : goal.invariant-loop
invariant-loop g l = (l.token ≡ l.initial.token) × (l.all.len ≡ l.counter)
