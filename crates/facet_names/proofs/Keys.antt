-- The keys of a map of texts, by their bytes.
use Rattle.std.proofs.Common.{ℕ, Bool, List, String, string_bytes, Global}
use Rattle.std.specs.Str.{bytes_eq}

abbrev pub is_key : List ℕ → String Global → Bool
is_key name key = bytes_eq name (string_bytes key)
