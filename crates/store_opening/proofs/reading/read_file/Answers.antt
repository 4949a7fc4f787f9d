use Rattle.std.proofs.Common.{rules}
use Rattle.store_opening.proofs.reading.read_file.Goals as goal

pub returns-in_err-bytes-clause-read : goal.returns-in_err-bytes-clause-read
returns-in_err-bytes-clause-read g c = record {
  quiet = search rules;
  counted = search rules;
  still = search rules;
  unfailed = search rules;
  sound = search rules;
}
