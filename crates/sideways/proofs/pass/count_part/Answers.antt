use Rattle.std.proofs.Common.{ap, arith, length}
use Rattle.std.proofs.lemmas.List.{length-append}
use Rattle.sideways.proofs.Placed.{noted_more, rest_counted, rest_ready}
use Rattle.sideways.proofs.pass.count_part.Goals as goal

pub count-requires : goal.count-requires
count-requires c =
    let ready = rest_ready c.args.part.now c.take_hits-first.new.part c.args.counter.now c.take_hits-first.new.counter c.args.base c.args.limit c.args.hits.now.items c.take_hits-first.new.hits.items c.take_hits-first.result c.take_hits-first.ensures.taking (record { countable = c.requires.countable; room = c.requires.room }) in
    record { countable = ready.countable; room = ready.room }

pub overflow_add-result : goal.overflow_add-result
overflow_add-result c =
    let taking = c.take_hits-first.ensures.taking in
    omega (arith, c.requires.room, taking.as_many, c.count.ensures.number, ap length taking.left, length-append taking.first c.take_hits-first.new.part.left)

pub returns-clause-grown : goal.returns-clause-grown
returns-clause-grown c =
    rest_counted c.args.part.now c.take_hits-first.new.part c.args.counter.now c.take_hits-first.new.counter c.count.new.counter c.args.base c.args.limit c.args.hits.now.items c.take_hits-first.new.hits.items c.take_hits-first.result c.take_hits-first.ensures.taking c.count.ensures.grown

pub returns-clause-number : goal.returns-clause-number
returns-clause-number c =
    let taking = c.take_hits-first.ensures.taking in
    omega (arith, taking.as_many, c.count.ensures.number, ap length taking.left, length-append taking.first c.take_hits-first.new.part.left)

pub returns-clause-noted : goal.returns-clause-noted
returns-clause-noted c =
    let taking = c.take_hits-first.ensures.taking in
    noted_more c.args.part.now c.args.base c.args.limit c.args.hits.now.items c.take_hits-first.new.hits.items taking.first c.take_hits-first.new.part.left taking.left taking.noted taking.few c.take_hits-first.ensures.enough
