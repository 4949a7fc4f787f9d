use Rattle.std.proofs.Common.{◌≡◌, ◌+◌, ◌++◌, ◌-◌, ◌≤◌, vec_len, vec_capacity}
use Rattle.facet_codec.specs.Spelling.{groups}
use Rattle.facet_codec.proofs.writing.put_vint.Given as goal

abbrev pub invariant-loop : goal.invariant-loop
invariant-loop l = record {
  written : l.out.items ++ groups (5 - l.counter) l.left ≡ l.fn.out.items ++ groups 5 l.v;
  room : vec_len l.out + (5 - l.counter) ≤ vec_capacity l.out;
}
