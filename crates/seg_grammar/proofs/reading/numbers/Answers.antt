use Rattle.std.proofs.Common.{refl}
use Rattle.std.proofs.lemmas.Result.{err_from_is_err_and}
use Rattle.facet_codec.specs.Faults.{fault_at}
use Rattle.facet_codec.proofs.Lists.{list_more, list_fails, list_done}
use Rattle.seg_grammar.specs.declared.fault.SegFault.TheVariants.{Codec}
use Rattle.seg_grammar.specs.Reading.{number_at}
use Rattle.seg_grammar.proofs.reading.numbers.Goals as goal

pub loop-preserved : goal.loop-preserved
loop-preserved c = list_more number_at c.args.n c.loop.counter c.loop.cursor c.u32.new.self c.in_ok-u32.field-0 _ c.loop-test.true (rw c.in_ok-u32.ensures refl) c.loop.invariant

pub returns-in_err-u32 : goal.returns-in_err-u32
returns-in_err-u32 c = let p = err_from_is_err_and c.from_residual.result c.from_residual.ensures.1 in
    rw (p.1, p.2) (list_fails number_at c.args.n c.loop.counter c.loop.cursor (Codec (fault_at c.in_err-u32.field-0.0)) _ c.loop-test.true (rw c.in_err-u32.ensures.0 refl) c.loop.invariant)

pub returns : goal.returns
returns c = list_done number_at c.args.n c.loop.counter c.loop.cursor _ c.loop-test.false c.loop.invariant
