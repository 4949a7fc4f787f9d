use Rattle.std.proofs.Common.{[], ◌∷◌, map, append_assoc}
use Rattle.std.specs.List.{range_with_len}
use Rattle.commit_file.specs.LiveBits.{byte_at}
use Rattle.commit_file.proofs.LiveBytes.{bytes_more}
use Rattle.commit_file.proofs.bits.put_full.Goals as goal

pub loop-at-preserved : goal.loop-at-preserved
loop-at-preserved c = rw (c.in_ok-put_u8.ensures, c.full_byte.ensures, c.loop-at.invariant, bytes_more c.args.documents [] c.loop-at.at) (append_assoc c.args.out.now.items (map (byte_at c.args.documents []) (range_with_len 0 c.loop-at.at)) (byte_at c.args.documents [] c.loop-at.at ∷ []))
