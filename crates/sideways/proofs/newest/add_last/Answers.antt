use Rattle.std.proofs.Common.{◌≡◌, ◌∙◌, ◌<◌, ◌-◌, ◌++◌, [], length, reverse, ap, sym, subst, refl, arith}
use Rattle.std.specs.List.{AllByRecursion}
use Rattle.std.proofs.lemmas.List.{append-nil, nil_from_length}
use Rattle.facet_codec.specs.Laws.{IsBelow}
use Rattle.facet_model.specs.Stored.{Records, live_before}
use Rattle.sideways.specs.Counted.{AreLast, ranks_from}
use Rattle.sideways.proofs.Gathered.{all_front, all_last}
use Rattle.sideways.proofs.LastHits.{all_noted_back, noted_back}
use Rattle.sideways.proofs.Placed.{rank_most}
use Rattle.sideways.proofs.newest.add_last.Goals as goal

pub loop-place-init : goal.loop-place-init
loop-place-init c = record { noted = refl; within = c.in_ok-places.ensures.within }

pub rank-requires : goal.rank-requires
rank-requires c =
    let below = IsBelow (length c.args.part.segment.records) in
    subst (λ (s : Records). c.in-Some.place < length s.records) (sym c.in_ok-places.ensures.segment)
    (all_last below c.pop_back.new.self.items c.in-Some.place (subst (AllByRecursion below) c.in-Some.ensures.items c.loop-place.invariant.within))

pub overflow_add-base : goal.overflow_add-base
overflow_add-base c =
    let segment : Records = c.args.part.segment in
    let below = IsBelow (length segment.records) in
    let within : c.in-Some.place < length segment.records = all_last below c.pop_back.new.self.items c.in-Some.place (subst (AllByRecursion below) c.in-Some.ensures.items c.loop-place.invariant.within) in
    let ranked : c.rank.result ≡ live_before segment.dead c.in-Some.place = c.rank.ensures ∙ ap (λ (s : Records). live_before s.dead c.in-Some.place) c.in_ok-places.ensures.segment in
    omega (arith, ranked, rank_most segment.dead c.in-Some.place (length segment.records) (omega (arith, within)), c.requires.few)

pub loop-place-preserved : goal.loop-place-preserved
loop-place-preserved c =
    let segment : Records = c.args.part.segment in
    let below = IsBelow (length segment.records) in
    let ranked : c.rank.result ≡ live_before segment.dead c.in-Some.place = c.rank.ensures ∙ ap (λ (s : Records). live_before s.dead c.in-Some.place) c.in_ok-places.ensures.segment in
    record {
      noted = noted_back c.args.base segment _ c.loop-place.kept.items c.push.new.self.items c.loop-place.places.items c.pop_back.new.self.items c.in-Some.place c.rank.result c.loop-place.invariant.noted c.in-Some.ensures.items ranked c.in_ok-push.ensures.items;
      within = all_front below c.pop_back.new.self.items c.in-Some.place (subst (AllByRecursion below) c.in-Some.ensures.items c.loop-place.invariant.within);
    }

pub returns : goal.returns
returns c =
    let segment : Records = c.args.part.segment in
    let kept = c.args.kept.now.items in
    let long : c.len.result ≡ length kept = omega (arith, c.len.ensures, c.args.kept.now.ok.0) in
    let none : c.loop-place.places.items ≡ [] = nil_from_length c.loop-place.places.items (omega (arith, c.in_default.ensures.cases.0, c.loop-place.places.ok)) in
    let noted : kept ++ reverse (ranks_from c.args.base segment c.in_ok-places.places.items) ≡ c.loop-place.kept.items =
    c.loop-place.invariant.noted ∙ ap (λ xs. c.loop-place.kept.items ++ reverse (ranks_from c.args.base segment xs)) none ∙ append-nil c.loop-place.kept.items in
    all_noted_back c.args.base c.args.limit segment kept c.loop-place.kept.items c.args.part.left c.in_ok-places.places.items c.requires.fewer (subst (λ n. AreLast (c.args.limit - n) c.args.part.left c.in_ok-places.places.items) long c.in_ok-places.ensures.last) noted
