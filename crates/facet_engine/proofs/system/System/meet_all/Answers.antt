use Rattle.facet_model.specs.Histories.{Operation}
use Rattle.facet_engine.proofs.Told.{HasMet, meets, meets_all, met_list, met_right}
use Rattle.facet_engine.proofs.system.System.meet_all.Goals as goal

pub invariant_of-pass-clause-right : goal.invariant_of-pass-clause-right
invariant_of-pass-clause-right g c =
    let pass = c.args.pass.now in
    let notes = c.args.notes in
    let l = c.meet.ensures in
    let o = c.meet-2.ensures in
    let p = c.meet-3.ensures in
    met_right pass.labels c.meet.new.into notes.labels pass.operations c.meet-2.new.into notes.operations pass.pairs c.meet-3.new.into notes.pairs
    (record { same = l.same; one = l.one; longest = l.longer; told = l.told; more = l.more; counted = l.counted })
    (record { same = o.same; one = o.one; longest = o.longer; told = o.told; more = o.more; counted = o.counted })
    (record { same = p.same; one = p.one; longest = p.longer; told = p.told; more = p.more; counted = p.counted })
    pass.right notes.right

pub returns : goal.returns
returns g c = record {
  told = λ number have.
      let l = c.meet.ensures in
      let o = c.meet-2.ensures in
      let p = c.meet-3.ensures in
      let k = c.meet-4.ensures in
      let operations : HasMet c.args.pass.now.operations c.meet-2.new.into c.args.notes.operations = record { same = o.same; one = o.one; longest = o.longer; told = o.told; more = o.more; counted = o.counted } in (
        meets number c.args.pass.now _ c.args.notes have
            (record { same = l.same; one = l.one; longest = l.longer; told = l.told; more = l.more; counted = l.counted })
            operations
            (record { same = p.same; one = p.one; longest = p.longer; told = p.told; more = p.more; counted = p.counted })
            (record { same = k.same; one = k.one; longest = k.longer; told = k.told; more = k.more; counted = k.counted }),
        λ sees. meets_all (λ (x : Operation). x.change) c.args.pass.now.operations c.meet-2.new.into c.args.notes.operations operations sees.operations,
      );
}

pub invariant_of-pass-clause-list : goal.invariant_of-pass-clause-list
invariant_of-pass-clause-list g c =
    let pass = c.args.pass.now in
    met_list pass.labels c.meet.new.into c.args.notes.labels c.meet.ensures.longer pass.list c.args.notes.list
