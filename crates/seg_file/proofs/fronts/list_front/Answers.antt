use Rattle.std.proofs.Common.{◌++◌, length}
use Rattle.std.specs.List.{flat_map}
use Rattle.facet_codec.specs.Spelling.{be32}
use Rattle.seg_file.proofs.AtFront.{vint_front, no_vint_fault, bytes_front, no_bytes_fault, list_split, four_each, are_numbers}
use Rattle.seg_file.proofs.fronts.list_front.Goals as goal

pub unreachable-requires : goal.unreachable-requires
unreachable-requires c =
    let ns = c.requires.0 in
    let tail = c.requires.1 in
    no_vint_fault c.args.cursor.now c.in_default.field-0 (length ns) (flat_map be32 ns ++ tail) c.requires.2.few (list_split c.args.cursor.now.rest ns tail c.requires.2) c.in_default.ensures.0

pub unreachable-requires-in_default-bytes : goal.unreachable-requires-in_default-bytes
unreachable-requires-in_default-bytes c =
    let ns = c.requires.0 in
    let tail = c.requires.1 in
    let k = vint_front c.args.cursor.now c.vint.new.self c.in-Ok.n (length ns) (flat_map be32 ns ++ tail) c.requires.2.few (list_split c.args.cursor.now.rest ns tail c.requires.2) c.in-Ok.ensures in
    no_bytes_fault c.vint.new.self _ c.in_default-bytes.field-0 (flat_map be32 ns) tail (four_each c.in-Ok.n ns k.0) k.1 c.in_default-bytes.ensures.0

pub new-requires : goal.new-requires
new-requires c =
    let ns = c.requires.0 in
    let tail = c.requires.1 in
    let k = vint_front c.args.cursor.now c.vint.new.self c.in-Ok.n (length ns) (flat_map be32 ns ++ tail) c.requires.2.few (list_split c.args.cursor.now.rest ns tail c.requires.2) c.in-Ok.ensures in
    let b = bytes_front c.vint.new.self c.bytes.new.self _ c.in-Ok-bytes.bytes.now (flat_map be32 ns) tail (four_each c.in-Ok.n ns k.0) k.1 c.in-Ok-bytes.ensures in
    (ns, are_numbers c.in-Ok-bytes.bytes.now c.args.cursor.now.rest ns tail c.requires.2 b.0)

pub returns : goal.returns
returns c = λ ns tail h.
    let k = vint_front c.args.cursor.now c.vint.new.self c.in-Ok.n (length ns) (flat_map be32 ns ++ tail) h.few (list_split c.args.cursor.now.rest ns tail h) c.in-Ok.ensures in
    let b = bytes_front c.vint.new.self c.bytes.new.self _ c.in-Ok-bytes.bytes.now (flat_map be32 ns) tail (four_each c.in-Ok.n ns k.0) k.1 c.in-Ok-bytes.ensures in
    c.new.ensures ns (are_numbers c.in-Ok-bytes.bytes.now c.args.cursor.now.rest ns tail h b.0)
