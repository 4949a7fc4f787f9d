use Rattle.std.proofs.Common.{◌++◌, length}
use Rattle.std.specs.List.{flat_map}
use Rattle.facet_codec.specs.Spelling.{be32}
use Rattle.seg_file.proofs.AtFront.{number_front, bytes_front, no_bytes_fault, places_split, four_each, are_places}
use Rattle.seg_file.proofs.fronts.places_front.Goals as goal

pub unreachable-requires-in_default-bytes : goal.unreachable-requires-in_default-bytes
unreachable-requires-in_default-bytes c =
    let ps = c.requires.0 in
    let tail = c.requires.1 in
    let k = number_front c.args.cursor.now c.u32.new.self c.in-Ok.n (length ps) (flat_map be32 ps ++ tail) c.requires.2.few (places_split c.args.cursor.now.rest ps tail c.requires.2) c.in-Ok.ensures in
    no_bytes_fault c.u32.new.self _ c.in_default-bytes.field-0 (flat_map be32 ps) tail (four_each c.in-Ok.n ps k.0) k.1 c.in_default-bytes.ensures.0

pub new-requires : goal.new-requires
new-requires c =
    let ps = c.requires.0 in
    let tail = c.requires.1 in
    let k = number_front c.args.cursor.now c.u32.new.self c.in-Ok.n (length ps) (flat_map be32 ps ++ tail) c.requires.2.few (places_split c.args.cursor.now.rest ps tail c.requires.2) c.in-Ok.ensures in
    let b = bytes_front c.u32.new.self c.bytes.new.self _ c.in-Ok-bytes.bytes.now (flat_map be32 ps) tail (four_each c.in-Ok.n ps k.0) k.1 c.in-Ok-bytes.ensures in
    (ps, are_places c.in-Ok-bytes.bytes.now c.args.cursor.now.rest ps tail c.requires.2 b.0)

pub returns : goal.returns
returns c = λ ps tail h.
    let k = number_front c.args.cursor.now c.u32.new.self c.in-Ok.n (length ps) (flat_map be32 ps ++ tail) h.few (places_split c.args.cursor.now.rest ps tail h) c.in-Ok.ensures in
    let b = bytes_front c.u32.new.self c.bytes.new.self _ c.in-Ok-bytes.bytes.now (flat_map be32 ps) tail (four_each c.in-Ok.n ps k.0) k.1 c.in-Ok-bytes.ensures in
    c.new.ensures ps (are_places c.in-Ok-bytes.bytes.now c.args.cursor.now.rest ps tail h b.0)
