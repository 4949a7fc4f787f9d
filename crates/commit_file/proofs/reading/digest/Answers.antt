use Rattle.commit_file.proofs.Each.{bytes_length}
use Rattle.commit_file.proofs.reading.digest.Goals as goal

pub copy_from_slice-requires : goal.copy_from_slice-requires
copy_from_slice-requires c = bytes_length 32 c.args.cursor.now c.in_ok-bytes.bytes.now _ c.in_ok-bytes.ensures
