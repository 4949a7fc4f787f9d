use Rattle.std.proofs.lemmas.Result.{err_from_is_err_and}
use Rattle.commit_file.specs.Commits.{end_of}
use Rattle.commit_file.specs.Reading.{label_part_at}
use Rattle.commit_file.proofs.Each.{each_more, each_fails, each_done}
use Rattle.commit_file.proofs.taxonomy.label_parts.Goals as goal

pub returns-in_err-part : goal.returns-in_err-part
returns-in_err-part c = let p = err_from_is_err_and c.from_residual.result c.from_residual.ensures.1 in
    rw (p.1, p.2) (each_fails (label_part_at c.args.labels) (λ _ part. end_of part) c.args.n c.loop-at.at c.loop-at.start c.loop-at.cursor c.loop-at.parts.items c.in_err-part.field-0.0 _ c.loop-at-test.true c.in_err-part.ensures c.loop-at.invariant)

pub loop-at-preserved : goal.loop-at-preserved
loop-at-preserved c = rw c.in_ok-push.ensures.items (each_more (label_part_at c.args.labels) (λ _ part. end_of part) c.args.n c.loop-at.at c.loop-at.start c.loop-at.cursor c.label_part.new.cursor c.loop-at.parts.items c.in_ok-part.part _ c.loop-at-test.true c.in_ok-part.ensures c.loop-at.invariant)

pub returns : goal.returns
returns c = each_done (label_part_at c.args.labels) (λ _ part. end_of part) c.args.n c.loop-at.at c.loop-at.start c.loop-at.cursor c.loop-at.parts.items _ c.loop-at-test.false c.loop-at.invariant
