use Rattle.std.proofs.Common.{rules}
use Rattle.std.proofs.lemmas.Result.{err_from_is_err_and}
use Rattle.commit_file.specs.Commits.{declaration}
use Rattle.commit_file.specs.Reading.{declaration_at}
use Rattle.commit_file.proofs.Rising.{can_declare, up_to_more}
use Rattle.commit_file.proofs.Each.{each_more, each_fails, each_done}
use Rattle.commit_file.proofs.index.declarations.Goals as goal

pub returns-in_err-next : goal.returns-in_err-next
returns-in_err-next c = let p = err_from_is_err_and c.from_residual.result c.from_residual.ensures.1 in
    rw (p.1, p.2) (each_fails (λ _. declaration_at) (λ _ d. d.0) c.args.n c.loop.counter c.loop.before.now c.loop.cursor c.loop.kept c.in_err-next.field-0.0 _ c.loop-test.true c.in_err-next.ensures.read c.loop.invariant.read)

pub loop-preserved : goal.loop-preserved
loop-preserved c = record {
  utf8 = search rules;
  up_to = rw c.in_ok-keep.ensures.ok (up_to_more c.loop.before.now c.in_ok-next.next.dim.now c.in_ok-next.next.flags c.loop.kept c.in_ok-next.ensures.after c.loop.invariant.up_to);
  read = rw c.in_ok-keep.ensures.ok (each_more (λ _. declaration_at) (λ _ d. d.0) c.args.n c.loop.counter c.loop.before.now c.loop.cursor c.declaration.new.cursor c.loop.kept (declaration c.in_ok-next.next) _ c.loop-test.true c.in_ok-next.ensures.read c.loop.invariant.read);
}

pub keep-requires : goal.keep-requires
keep-requires c = can_declare c.loop.before.now c.in_ok-next.next.dim.now c.loop.kept c.loop.invariant.up_to c.in_ok-next.ensures.short c.in_ok-next.ensures.after

pub returns : goal.returns
returns c = each_done (λ _. declaration_at) (λ _ d. d.0) c.args.n c.loop.counter c.loop.before.now c.loop.cursor c.loop.kept _ c.loop-test.false c.loop.invariant.read
