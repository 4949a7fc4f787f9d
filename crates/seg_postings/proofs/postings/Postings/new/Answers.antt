use Rattle.seg_postings.proofs.Chunks.{places_are, rising_in}
use Rattle.seg_postings.proofs.postings.Postings.new.Goals as goal

pub invariant_of-result : goal.invariant_of-result
invariant_of-result c = rw c.as_chunks.ensures.front (rising_in c.args.bytes.now c.requires)

pub returns : goal.returns
returns c places h = rw c.as_chunks.ensures.front (places_are c.args.bytes.now places h)
