use Rattle.facet_codec.proofs.EachKind.{text_spelled}
use Rattle.commit_file.proofs.index.dim.Goals as goal

pub returns-clause-short : goal.returns-clause-short
returns-clause-short c = (text_spelled 1024 c.args.cursor.now c.in_ok-dim.dim.now _ c.bounds.ensures.bytes c.in_ok-dim.ensures).1.length
