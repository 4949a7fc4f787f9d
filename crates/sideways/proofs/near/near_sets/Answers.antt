use Rattle.std.proofs.Common.{◌≡◌, ◌∙◌, ◌+◌, ◌/◌, ◌&&◌, Bool, length, ap, sym, subst, arith}
use Rattle.std.specs.Vec.{with_items}
use Rattle.std.proofs.lemmas.List.{with_items_is}
use Rattle.std.proofs.lemmas.Slice.Zip.{AllZip-long}
use Rattle.facet_model.specs.CountedPaths.{places}
use Rattle.facet_model.specs.Documents.{Doc}
use Rattle.std.specs.List.{AllZip}
use Rattle.place_bits.specs.Misses.{HaveWords}
use Rattle.place_bits.specs.Words.{Marked}
use Rattle.seg_postings.specs.Sets.{without}
use Rattle.sideways.specs.Counted.{IsMarkedBy, fails_alone}
use Rattle.sideways.proofs.Sets.{have_words, hits_are, near_words, nears_are, sets_of}
use Rattle.sideways.proofs.Shared.{nodes_for_among}
use Rattle.sideways.proofs.near.near_sets.Goals as goal

pub in_common-requires : goal.in_common-requires
in_common-requires c = record { within = (c.requires.within.0, c.requires.within.1, c.requires.within.3, c.requires.within.5); rise = c.requires.rise; below = c.requires.below }

pub marked_each-requires : goal.marked_each-requires
marked_each-requires c = nodes_for_among c.requires.within.0 c.args.docs c.requires.within.2 c.args.dims.items c.requires.within.5 c.requires.within.4

pub leave_near-requires : goal.leave_near-requires
leave_near-requires c =
    let marked : AllZip (IsMarkedBy c.args.docs) c.args.dims.items c.deref_mut.result.now = subst (AllZip (IsMarkedBy c.args.docs) c.args.dims.items) (sym c.deref_mut.ensures.value) c.in_ok-near.ensures in
    record {
      words = c.in_ok-hits.ensures.words;
      dims = subst (λ w. HaveWords w c.deref_mut.result.now) (sym c.in_ok-hits.ensures.words) (have_words c.args.docs c.args.dims.items c.deref_mut.result.now marked);
    }

pub returns-clause-hits_words : goal.returns-clause-hits_words
returns-clause-hits_words c = c.in_ok-leave_near.ensures.words ∙ c.in_ok-hits.ensures.words

pub returns-clause-near_words : goal.returns-clause-near_words
returns-clause-near_words c =
    let marked : AllZip (IsMarkedBy c.args.docs) c.args.dims.items c.deref_mut.result.now = subst (AllZip (IsMarkedBy c.args.docs) c.args.dims.items) (sym c.deref_mut.ensures.value) c.in_ok-near.ensures in
    let size : length c.leave_near.new.dims ≡ length c.in_ok-near.near.items = AllZip-long _ c.deref_mut.result.now c.leave_near.new.dims c.in_ok-leave_near.ensures.near ∙ ap length c.deref_mut.ensures.value in
    let items : (with_items c.in_ok-near.near c.leave_near.new.dims).items ≡ c.leave_near.new.dims = with_items_is c.in_ok-near.near c.leave_near.new.dims (omega (arith, size, c.in_ok-near.near.ok.0)) in
    subst (HaveWords ((c.args.docs + 63) / 64)) (sym items) (near_words _ _ _ c.deref_mut.result.now c.leave_near.new.dims (have_words c.args.docs c.args.dims.items c.deref_mut.result.now marked) c.in_ok-leave_near.ensures.near)

pub returns-clause-hits : goal.returns-clause-hits
returns-clause-hits c = λ among test tests long base dims.
    let marked : AllZip (IsMarkedBy c.args.docs) c.args.dims.items c.deref_mut.result.now = subst (AllZip (IsMarkedBy c.args.docs) c.args.dims.items) (sym c.deref_mut.ensures.value) c.in_ok-near.ensures in
    hits_are among test c.in_ok-hits.hits.places c.args.dead.now (c.in_ok-hits.ensures.places among test long base) tests c.deref_mut.result.now (sets_of among c.args.docs tests c.args.dims.items c.deref_mut.result.now dims marked)
    c.leave_near.new.base.places c.in_ok-leave_near.ensures.rising c.in_ok-leave_near.ensures.hits

pub returns-clause-near : goal.returns-clause-near
returns-clause-near c = λ among test tests long base dims.
    let marked : AllZip (IsMarkedBy c.args.docs) c.args.dims.items c.deref_mut.result.now = subst (AllZip (IsMarkedBy c.args.docs) c.args.dims.items) (sym c.deref_mut.ensures.value) c.in_ok-near.ensures in
    let own = sets_of among c.args.docs tests c.args.dims.items c.deref_mut.result.now dims marked in
    let size : length c.leave_near.new.dims ≡ length c.in_ok-near.near.items = AllZip-long _ c.deref_mut.result.now c.leave_near.new.dims c.in_ok-leave_near.ensures.near ∙ ap length c.deref_mut.ensures.value in
    let items : (with_items c.in_ok-near.near c.leave_near.new.dims).items ≡ c.leave_near.new.dims = with_items_is c.in_ok-near.near c.leave_near.new.dims (omega (arith, size, c.in_ok-near.near.ok.0)) in
    subst (AllZip (λ (t : Doc → Bool) (s : Marked). s.places ≡ without (places (λ doc. test doc && fails_alone tests t doc) among) c.args.dead.now) tests) (sym items)
    (nears_are among test c.in_ok-hits.hits.places c.args.dead.now (c.in_ok-hits.ensures.places among test long base) tests c.deref_mut.result.now own tests c.deref_mut.result.now c.leave_near.new.dims own c.in_ok-leave_near.ensures.near)
