use Rattle.std.proofs.Common.{inl, subst}
use Rattle.facet_serving.specs.Closing.{IsWritten}
use Rattle.facet_serving.proofs.generating.write_summed.Goals as goal

pub returns-in-Ok : goal.returns-in-Ok
returns-in-Ok g c = inl (c.in-Ok.line.items, c.in-Ok.ensures, subst (λ l. IsWritten l g.K.Sink c.args.sink.now c.write.new.sink c.write.result) c.deref.ensures.value c.write.ensures)
