use Rattle.std.proofs.Common.{◌∙◌, subst, arith}
use Rattle.std.proofs.lemmas.Slice.Zip.{AllZip-long}
use Rattle.facet_names.specs.Labels.{IsLabelList}
use Rattle.sideways.specs.Searches.{question_of, records_of}
use Rattle.sideways.proofs.Gathered.{hits_are_of, lifted_are_of, same_any}
use Rattle.sideways.proofs.Ready.{each_has}
use Rattle.sideways.proofs.plan.DrillPlan.fit.Goals as goal

pub add_segments-requires : goal.add_segments-requires
add_segments-requires c =
    let decoded = c.requires.docs.1 in
    record {
      has = each_has (question_of c.args.view.now c.args.config.now c.args.segments.now c.args.ask.now) (records_of c.args.segments.now) decoded.0 decoded.1;
      covers = c.in_ok-lifted.ensures.covers;
      distinct = c.in_ok-lifted.ensures.distinct;
    }

pub invariant_of-result : goal.invariant_of-result
invariant_of-result c =
    let q = question_of c.args.view.now c.args.config.now c.args.segments.now c.args.ask.now in
    let added = c.in_ok-add_segments.ensures in
    let hits = c.in_ok-hits.ensures in (
      record {
        docs = c.requires.docs;
        list = subst IsLabelList hits.labels hits.list;
        fit = c.requires.fit;
        hits = hits_are_of q q.segments c.in_ok-hits.hits c.add_segments.new.hits hits.none hits.fresh hits.labels hits.config added.hits;
        each = lifted_are_of q q.segments c.in_ok-lifted.lifted.items c.add_segments.new.lifted.items c.in_ok-lifted.ensures.each added.lifted;
        covers = λ d. same_any q.query q.drill q.segments d c.in_ok-lifted.lifted.items c.add_segments.new.lifted.items added.lifted ∙ c.in_ok-lifted.ensures.covers d;
      },
      record {
        no_places = c.in_ok-places.ensures.items;
        for_places = omega (arith, c.in_ok-places.ensures.exact, c.limit_of.ensures);
        no_counts = c.in_ok-counted.ensures.items;
        for_counts = omega (arith, c.in_ok-counted.ensures.exact, c.len.ensures, AllZip-long _ c.in_ok-lifted.lifted.items c.add_segments.new.lifted.items c.in_ok-add_segments.ensures.lifted, c.add_segments.new.lifted.ok.0);
      },
    )
