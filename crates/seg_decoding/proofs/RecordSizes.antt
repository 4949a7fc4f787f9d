-- How many bytes the parts of a record take.
use Rattle.std.proofs.Common.{◌≡◌, ℕ, ◌+◌, ◌*◌, ◌/◌, ◌<◌, ◌≤◌, List, [], ◌∷◌, ◌++◌, length, refl, arith}
use Rattle.std.specs.List.{flat_map}
use Rattle.std.proofs.lemmas.Bool.{lt-ltb, le-ltb}
use Rattle.std.proofs.lemmas.List.{length-append}
use Rattle.facet_codec.specs.Spelling.{groups, be32, vint, text}
use Rattle.facet_model.specs.Stored.{Stored}
use Rattle.seg_grammar.specs.Spelling.{list_bytes, front_bytes, record_bytes}
use Rattle.seg_decoding.specs.Opening.{leaves_place}

pub one_group : (n : ℕ) → n < 128 → length (vint n) ≡ 1
unfolding groups
one_group n lt = rw (lt-ltb n 128 lt) refl

pub two_groups : (n : ℕ) → 128 ≤ n → n < 16384 → length (vint n) ≡ 2
unfolding groups
two_groups n le lt = rw (le-ltb n 128 le, lt-ltb (n / 128) 128 (omega arith)) refl

pub three_groups : (n : ℕ) → 16384 ≤ n → n < 2097152 → length (vint n) ≡ 3
unfolding groups
three_groups n le lt = rw (le-ltb n 128 (omega arith), le-ltb (n / 128) 128 (omega arith), lt-ltb (n / 128 / 128) 128 (omega arith)) refl

numbers_size : (ns : List ℕ) → length (flat_map be32 ns) ≡ 4 * length ns
numbers_size [] = refl
numbers_size (n ∷ ns) = omega (arith, numbers_size ns)

list_size : (ns : List ℕ) → length (list_bytes ns) ≡ length (vint (length ns)) + 4 * length ns
list_size ns = omega (arith, length-append (vint (length ns)) (flat_map be32 ns), numbers_size ns)

pub record_size : (at : ℕ) (r : Stored) → leaves_place at r + 4 * length r.leaves + length (vint (length r.counted)) + 4 * length r.counted ≡ at + length (record_bytes r)
unfolding record_bytes front_bytes
record_size at r = omega (arith, list_size r.leaves, list_size r.counted, length-append (front_bytes r) (list_bytes r.counted), length-append (text r.id) (text r.text ++ list_bytes r.leaves), length-append (text r.text) (list_bytes r.leaves))
