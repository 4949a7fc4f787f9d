use Rattle.std.proofs.Common.{◌≡◌, take, map, string_bytes}
use Rattle.facet_words.proofs.Dimensions.{are_new_from}
use Rattle.facet_words.proofs.config_line.declared.Given as goal

abbrev pub invariant-loop-dim : goal.invariant-loop-dim
invariant-loop-dim l = record {
  kept : l.config ≡ take l.dim-index (map (λ d. (string_bytes d.name, d.flags)) l.dims);
  new : are_new_from (map (λ d. (string_bytes d.name, d.flags)) l.dims) l.dim-index ≡ are_new_from (map (λ d. (string_bytes d.name, d.flags)) l.dims) 0;
}
