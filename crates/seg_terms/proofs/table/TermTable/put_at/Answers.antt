use Rattle.std.specs.String.{string_eq_equiv}
use Rattle.std.proofs.lemmas.Result.{on_ok_weaker}
use Rattle.indexmap.specs.IndexMap.{with_value_at}
use Rattle.indexmap.proofs.CallerLemmas.{updates-with_value_at}
use Rattle.seg_terms.proofs.Tables.{noted_at}
use Rattle.seg_terms.proofs.table.TermTable.put_at.Goals as goal

pub returns : goal.returns
returns c =
    let m = c.self.inside.terms in
    let e = c.pair_mut-places.ensures in
    let pair = c.pair_mut-places.result in
    let v = c.put_place.new.places in
    rw (← c.self.view_is) (
    on_ok_weaker c.put_place.result (λ put. noted_at m (with_value_at m c.args.number v) c.args.number pair.0.now pair.1.now v c.args.place e.unique e.value (updates-with_value_at m c.args.number v string_eq_equiv e.unique pair.0.now pair.1.now e.value) put) c.put_place.ensures
    )
