use Rattle.std.proofs.Common.{refl, ap, length}
use Rattle.live_serving.proofs.Taking.{rests_none, rests_some}
use Rattle.live_serving.proofs.line_phases.LinePhases.take_rest.Goals as goal

pub returns-then-not-has_rest-clause-ok : goal.returns-then-not-has_rest-clause-ok
returns-then-not-has_rest-clause-ok c = λ first got items u.
    let none = c.has_rest.ensures.none c.if-not-has_rest.true in
    rests_none c.args.self.now.only_reads first got items c.args.self.now _ refl none.0 none.1 (λ limit consumed before. c.rest-len.ensures.line limit consumed before c.requires) u

pub returns-in-Ok-clause-ok : goal.returns-in-Ok-clause-ok
returns-in-Ok-clause-ok c = λ first got items u.
    rests_some c.args.self.now.only_reads first got items c.args.self.now c.read_line.new.self _ _ (ap length c.rest-len.ensures.bytes) (c.has_rest.ensures.some c.if-not-has_rest.false)
    (λ limit consumed before. c.rest-len.ensures.line limit consumed before c.requires) c.in-Ok.ensures.ok u
