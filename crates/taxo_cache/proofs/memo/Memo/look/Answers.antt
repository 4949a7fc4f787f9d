use Rattle.std.proofs.Common.{rules}
use Rattle.taxo_cache.specs.Seen.{labels_of}
use Rattle.taxo_cache.specs.Memos.{HasOrdinals}
use Rattle.taxo_cache.proofs.Remembered.{ordinals_seen}
use Rattle.taxo_cache.proofs.memo.Memo.look.Goals as goal

pub returns-clause-hit : goal.returns-clause-hit
returns-clause-hit g c =
    let path = c.args.path.now in
    let there : HasOrdinals (labels_of c.note-note.result.seen) path c.in-Some.ords.items = search rules in
    ordinals_seen c.note-note.result.seen c.meet.new.into.seen path c.in-Some.ords.items c.meet.ensures.told there
