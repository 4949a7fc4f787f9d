use Rattle.facet_model.specs.Stored.{Records}
use Rattle.seg_decoding.proofs.Compared.{leaves_low}
use Rattle.seg_decoding.proofs.Verified.{right_fits, verified_opens, verified_decodes}
use Rattle.seg_decoding.proofs.opening.check_documents.Goals as goal

pub returns-in-Ok-clause-ok : goal.returns-in-Ok-clause-ok
returns-in-Ok-clause-ok c documents bytes read found =
    let config = c.args.config.now in
    let known = c.args.labels.now in
    let needs = c.args.needs in
    let s : Records = c.args.segment.now in
    let right = c.in-Ok.ensures.right in
    let theirs = c.in-Ok.ensures.theirs in
    record {
      stored = verified_opens config known needs documents bytes s found right theirs read;
      decodes = verified_decodes config known needs documents bytes s found right theirs read c.verify.ensures.list c.requires.needs;
      leaves = leaves_low config known needs s.records (right_fits config known needs documents bytes s found right theirs);
    }

pub returns-in-Err-NoMemory-clause-err : goal.returns-in-Err-NoMemory-clause-err
returns-in-Err-NoMemory-clause-err c documents bytes read found = tt
