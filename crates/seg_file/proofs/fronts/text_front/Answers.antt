use Rattle.std.proofs.Common.{◌++◌, sym, subst, length, ◌∙◌}
use Rattle.std.specs.Str.{IsUtf8}
use Rattle.std.proofs.lemmas.Str.{IsUtf8-from_is_utf8}
use Rattle.seg_file.proofs.AtFront.{vint_front, no_vint_fault, bytes_front, no_bytes_fault, text_split}
use Rattle.seg_file.proofs.fronts.text_front.Goals as goal

pub unreachable-requires : goal.unreachable-requires
unreachable-requires c =
    let t = c.requires.0 in
    let tail = c.requires.1 in
    no_vint_fault c.args.cursor.now c.in_default.field-0 (length t) (t ++ tail) c.requires.2.short (text_split c.args.cursor.now.rest t tail c.requires.2) c.in_default.ensures.0

pub unreachable-requires-in_default-bytes : goal.unreachable-requires-in_default-bytes
unreachable-requires-in_default-bytes c =
    let t = c.requires.0 in
    let tail = c.requires.1 in
    let k = vint_front c.args.cursor.now c.vint.new.self c.in-Ok.n (length t) (t ++ tail) c.requires.2.short (text_split c.args.cursor.now.rest t tail c.requires.2) c.in-Ok.ensures in
    no_bytes_fault c.vint.new.self c.in-Ok.n c.in_default-bytes.field-0 t tail k.0 k.1 c.in_default-bytes.ensures.0

pub from_utf8_unchecked-requires : goal.from_utf8_unchecked-requires
from_utf8_unchecked-requires c =
    let t = c.requires.0 in
    let tail = c.requires.1 in
    let k = vint_front c.args.cursor.now c.vint.new.self c.in-Ok.n (length t) (t ++ tail) c.requires.2.short (text_split c.args.cursor.now.rest t tail c.requires.2) c.in-Ok.ensures in
    let b = bytes_front c.vint.new.self c.bytes.new.self c.in-Ok.n c.in-Ok-bytes.bytes.now t tail k.0 k.1 c.in-Ok-bytes.ensures in
    subst IsUtf8 (sym b.0) (IsUtf8-from_is_utf8 t c.requires.2.utf8)

pub returns : goal.returns
returns c = λ t tail h.
    let k = vint_front c.args.cursor.now c.vint.new.self c.in-Ok.n (length t) (t ++ tail) h.short (text_split c.args.cursor.now.rest t tail h) c.in-Ok.ensures in
    let b = bytes_front c.vint.new.self c.bytes.new.self c.in-Ok.n c.in-Ok-bytes.bytes.now t tail k.0 k.1 c.in-Ok-bytes.ensures in
    (c.from_utf8_unchecked.ensures ∙ b.0, b.1)
