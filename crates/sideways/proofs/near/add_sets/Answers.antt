use Rattle.std.proofs.Common.{◌≡◌, ◌∙◌, ◌∷◌, ◌++◌, ◌<◌, [], length, get_or, sym, ap, arith}
use Rattle.std.proofs.lemmas.List.{length_push}
use Rattle.std.proofs.lemmas.Iterator.Adapters.{YieldsList-from_vec}
use Rattle.std.proofs.lemmas.Iterator.Consumers.{YieldsList-turn}
use Rattle.sideways.specs.declared.pass.LiftedPass.{LiftedPass}
use Rattle.sideways.proofs.Sets.{given_more}
use Rattle.sideways.proofs.near.add_sets.Goals as goal

pub loop-set-preserved : goal.loop-set-preserved
loop-set-preserved c =
    let loop = c.loop-set.invariant in
    let turn = YieldsList-turn (YieldsList-from_vec c.args.sets.items (cc) (cc)) c.loop-set.yielded _ c.loop-set.yielded_by c.next.result c.next.new.self c.in-Some.set c.in-Some.is c.next.ensures.steps in
    let here : c.in-Some.set ≡ get_or c.args.sets.items c.loop-set.k c.in-Some.set = turn.1 ∙ ap (λ k. get_or c.args.sets.items k c.in-Some.set) (sym loop.number) in
    let within : c.loop-set.k < length c.args.sets.items = omega (arith, turn.0, loop.number) in
    let part : c.marked.result ≡ record { segment = c.args.segment.now; left = c.in-Some.set.places } = λ i. record { segment = c.marked.ensures.segment i; left = c.marked.ensures.left i } in
    let item : c.index_mut.result.now ≡ get_or c.loop-set.lifted.items c.loop-set.k c.index_mut.result.now = c.index_mut.ensures.value in
    record {
      number = omega (arith, loop.number, length_push c.loop-set.yielded c.in-Some.set);
      given = given_more c.args.segment.now c.args.sets.items c.loop-set.k c.args.lifted.now.items c.loop-set.lifted.items c.in-Some.set _ c.index_mut.result.now loop.given (omega (arith, within, c.requires.same)) within here
          (record {
            dim = ap (λ (l : LiftedPass). l.dim) item;
            parts = c.in_ok-add.ensures.parts ∙ (λ i. (item i).pass.parts.items ++ part i ∷ []);
            counter = c.in_ok-add.ensures.counter ∙ ap (λ (l : LiftedPass). l.pass.counter) item;
          });
    }
