use Rattle.seg_postings.proofs.Chunks.{numbers_are}
use Rattle.seg_postings.proofs.ords.Ords.new.Goals as goal

pub returns : goal.returns
returns c numbers h = rw c.as_chunks.ensures.front (numbers_are c.args.bytes.now numbers h)
