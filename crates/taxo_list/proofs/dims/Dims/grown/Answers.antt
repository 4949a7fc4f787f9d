use Rattle.std.proofs.Common.{arith, ◌≡◌, ◌+◌, ◌∙◌, subst, sym, ap, length}
use Rattle.taxo_list.specs.DimLists.{DimLists, AreDimLists}
use Rattle.taxo_list.specs.Links.{noted}
use Rattle.taxo_list.proofs.Front.{front_dims}
use Rattle.taxo_list.proofs.Linked.{length-parents_of}
use Rattle.taxo_list.proofs.Walked.{noted_sizes, noted_next}
use Rattle.taxo_list.proofs.dims.Dims.grown.Goals as goal

pub loop-ord-init : goal.loop-ord-init
loop-ord-init c =
    let many : c.len-ord.result ≡ length c.args.self.now.numbers = c.len-ord.ensures ∙ ap (λ (d : DimLists). length d.numbers) c.self.view_is in
    record {
      some = omega (arith, c.self.invariant, c.len-ord.ensures);
      within = omega (arith, many, c.requires.within);
      as_many = ap (λ (d : DimLists). length d.numbers) c.in_ok-grown.ensures ∙ sym many;
      walked = λ labels n is are within first. subst (AreDimLists labels c.len-ord.result) (sym c.in_ok-grown.ensures) (subst (λ m. AreDimLists labels m c.args.self.now) (sym (many ∙ first.as_many)) (front_dims labels n c.args.self.now first));
    }

pub loop-ord-preserved : goal.loop-ord-preserved
loop-ord-preserved c =
    let old : DimLists = c.loop-ord.grown in
    let new : DimLists = c.note.new.self in
    let more : new ≡ noted old c.parent_or_root.result = c.in_ok-note.ensures in
    record {
      some = omega arith;
      within = omega (arith, c.loop-ord-test.true);
      as_many = ap (λ (d : DimLists). length d.numbers) more ∙ (noted_sizes old c.parent_or_root.result).0 ∙ ap (λ n. n + 1) c.loop-ord.invariant.as_many;
      walked = λ labels n is are within first. noted_next labels is c.args.parents.now are c.loop-ord.ord c.parent_or_root.result c.loop-ord.invariant.some c.loop-ord-test.true c.parent_or_root.ensures old new more (c.loop-ord.invariant.walked labels n is are within first);
    }

pub returns : goal.returns
returns c = λ labels n is are within first.
    let last : c.loop-ord.ord ≡ length labels = omega (arith, c.loop-ord-test.false, c.loop-ord.invariant.within, ap length are, length-parents_of labels) in
    subst (λ m. AreDimLists labels m c.loop-ord.grown) last (c.loop-ord.invariant.walked labels n is are within first)
