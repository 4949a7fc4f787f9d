use Rattle.std.proofs.lemmas.Result.{err_from_is_err_and}
use Rattle.commit_file.specs.LiveParts.{with_live}
use Rattle.commit_file.specs.Reading.{part_at}
use Rattle.commit_file.proofs.Each.{each_more, each_fails, each_done}
use Rattle.commit_file.proofs.parts.parts.Goals as goal

pub returns-in_err-part : goal.returns-in_err-part
returns-in_err-part c = let p = err_from_is_err_and c.from_residual.result c.from_residual.ensures.1 in
    rw (p.1, p.2) (each_fails (λ _. part_at c.args.version) with_live c.args.n c.loop.counter c.loop.before c.loop.cursor c.loop.parts.items c.in_err-part.field-0.0 _ c.loop-test.true c.in_err-part.ensures.read c.loop.invariant.read)

pub loop-preserved : goal.loop-preserved
loop-preserved c = record {
  few = rw c.live_of.ensures c.in_ok-part.ensures.few;
  read = rw (c.in_ok-push.ensures.items, c.live_of.ensures) (each_more (λ _. part_at c.args.version) with_live c.args.n c.loop.counter c.loop.before c.loop.cursor c.part.new.cursor c.loop.parts.items c.in_ok-part.part _ c.loop-test.true c.in_ok-part.ensures.read c.loop.invariant.read);
}

pub returns : goal.returns
returns c = each_done (λ _. part_at c.args.version) with_live c.args.n c.loop.counter c.loop.before c.loop.cursor c.loop.parts.items _ c.loop-test.false c.loop.invariant.read
