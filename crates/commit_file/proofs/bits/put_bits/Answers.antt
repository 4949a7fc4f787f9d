use Rattle.std.proofs.Common.{arith, ℕ, List, ◌+◌, ◌/◌, ◌++◌, take, get_or, ap, sym, ◌∙◌}
use Rattle.std.proofs.lemmas.List.{take_more}
use Rattle.facet_codec.specs.Laws.{IsBelow}
use Rattle.commit_file.specs.LiveBits.{bits_of}
use Rattle.commit_file.proofs.LiveBytes.{EndsWithBits, is_inside, one_cleared}
use Rattle.commit_file.proofs.Puts.{each_of}
use Rattle.commit_file.proofs.bits.put_bits.Goals as goal

pub index_mut-requires : goal.index_mut-requires
index_mut-requires c =
    let dead = c.args.dead.now in
    let i = c.loop-place.place-index in
    let k : ℕ = get_or dead i 0 in
    let ends : EndsWithBits c.args.out.now.items c.args.documents (take i dead) c.loop-place.out.items (c.len-start.result + k / 8) k = record {
      are = c.loop-place.invariant;
      place = omega (arith, c.len-start.ensures);
      within = each_of (IsBelow c.args.documents) dead i 0 c.requires c.loop-place-test.true;
    } in
    omega (arith, is_inside c.args.out.now.items c.args.documents (take i dead) c.loop-place.out.items (c.len-start.result + k / 8) k ends)

pub loop-place-preserved : goal.loop-place-preserved
loop-place-preserved c =
    let dead = c.args.dead.now in
    let i = c.loop-place.place-index in
    let k : ℕ = get_or dead i 0 in
    let ends : EndsWithBits c.args.out.now.items c.args.documents (take i dead) c.loop-place.out.items (c.len-start.result + k / 8) k = record {
      are = c.loop-place.invariant;
      place = omega (arith, c.len-start.ensures);
      within = each_of (IsBelow c.args.documents) dead i 0 c.requires c.loop-place-test.true;
    } in
    one_cleared c.args.out.now.items c.args.documents (take i dead) c.loop-place.out.items (c.len-start.result + k / 8) k c.index_mut.result.now ends c.index_mut.ensures.value
    ∙ ap (λ (places : List ℕ). c.args.out.now.items ++ bits_of c.args.documents places) (sym (take_more dead i 0 c.loop-place-test.true))
