use Rattle.std.proofs.Common.{refl, arith, sym, ◌∙◌, ap, length, length-append, [], ◌∷◌, Ok}
use Rattle.std.proofs.lemmas.List.{take_all}
use Rattle.std.proofs.lemmas.Result.{err_from_is_err_and}
use Rattle.facet_names.proofs.LabelLists.{goes_further}
use Rattle.label_file.specs.LabelReading.{labels_at}
use Rattle.label_file.proofs.Read.{labels_more, labels_push, labels_fail, labels_done}
use Rattle.label_file.proofs.reading.labels_after.Goals as goal

pub loop-init : goal.loop-init
unfolding labels_at
loop-init c = record { read = ap (λ n. labels_at n c.args.labels.now c.args.cursor.now) (omega arith); size = omega arith; front = refl; goes_on = (omega arith, take_all (length c.args.labels.now) c.args.labels.now (omega arith)) }

pub returns-in_err-label-clause-err : goal.returns-in_err-label-clause-err
returns-in_err-label-clause-err c = let p = err_from_is_err_and c.from_residual.result c.from_residual.ensures.1 in
    rw (p.1, p.2) (labels_fail c.args.count c.loop.counter c.loop.labels c.loop.cursor c.in_err-label.field-0.0 _ c.loop-test.true c.in_err-label.ensures.err c.loop.invariant.read)

pub loop-preserved : goal.loop-preserved
loop-preserved c =
    let made = c.in_ok-label.ensures.ok in
    record {
      read = rw made.2 (sym (labels_more c.args.count c.loop.counter c.loop.labels c.loop.cursor c.label.new.cursor made.0 c.loop-test.true made.1)) ∙ c.loop.invariant.read;
      size = ap length made.2 ∙ omega (arith, length-append c.loop.labels (made.0 ∷ []), c.loop.invariant.size);
      front = labels_push c.loop.counter c.args.labels.now c.args.cursor.now c.loop.labels c.loop.cursor made.0 c.label.new.cursor c.loop.invariant.front made.1 ∙ ap (λ l. Ok (l, c.label.new.cursor)) (sym made.2);
      goes_on = goes_further c.args.labels.now c.loop.labels c.label.new.labels c.loop.invariant.goes_on c.in_ok-label.ensures.goes_on;
    }

pub returns-clause-ok : goal.returns-clause-ok
returns-clause-ok c = sym c.loop.invariant.read ∙ labels_done c.args.count c.loop.counter c.loop.labels c.loop.cursor c.loop-test.false
