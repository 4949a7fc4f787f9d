-- The prefixes of a path, one after the other.
use Rattle.std.proofs.Common.{◌≡◌, ℕ, ◌+◌, ◌<◌, List, length, take, get_or, arith}
use Rattle.std.proofs.lemmas.List.FromFn.{get_or-map-range_with_len, length-map-range_with_len}
use Rattle.facet_names.specs.Labels.{prefixes}

pub as_many_prefixes : (path : List (List ℕ)) → length (prefixes path) ≡ length path
as_many_prefixes path = length-map-range_with_len (λ k. take k path) 1 (length path)

pub prefix_at : (path : List (List ℕ)) (n : ℕ) → n < length path → get_or (prefixes path) n (take (n + 1) path) ≡ take (n + 1) path
prefix_at path n lt = get_or-map-range_with_len (λ k. take k path) 1 (length path) n (n + 1) (take (n + 1) path) lt (omega arith)
