use Rattle.std.proofs.Common.{◌≡◌, ◌≤◌, ◌∙◌, List, length, map, take, drop, sym, ap, subst, arith, refl}
use Rattle.std.specs.Arc.{arc_value}
use Rattle.std.proofs.lemmas.List.{drop-map}
use Rattle.facet_model.specs.Stored.{Records}
use Rattle.seg_documents.specs.Decoding.{records_in}
use Rattle.index_state.proofs.Placing.{behind_few, is_place, none_before, none_behind}
use Rattle.index_state.proofs.places.find_range.Goals.{After-split_at}
use Rattle.index_state.proofs.places.find_range.Goals as goal

behind : (c : After-split_at) → map arc_value c.split_at.result.1.now ≡ drop c.in_ok-first.first (map arc_value c.args.segments.now)
behind c = ap (map arc_value) c.split_at.ensures.back ∙ sym (drop-map arc_value c.in_ok-first.first c.args.segments.now)

pub returns-in_err-first-clause-none : goal.returns-in_err-first-clause-none
returns-in_err-first-clause-none c is = none_before (map arc_value c.args.segments.now) c.args.before c.args.many (c.in_err-first.ensures.none refl)

pub cut_at-requires-2 : goal.cut_at-requires-2
cut_at-requires-2 c =
    subst (λ (ss : List Records). length (records_in ss) ≤ 1000000) (sym (behind (goal.at.cut_at-requires-2 c).After-split_at)) (omega (arith, behind_few (map arc_value c.args.segments.now) c.in_ok-first.first, c.requires))

pub returns-in_err-count-clause-none : goal.returns-in_err-count-clause-none
returns-in_err-count-clause-none c is =
    none_behind (map arc_value c.args.segments.now) c.args.before c.args.many c.in_ok-first.first c.in_ok-first.ensures.found
    (λ k e. c.in_err-count.ensures.none refl k (ap (λ (ss : List Records). length (records_in (take k ss))) (behind (goal.at.returns-in_err-count-clause-none c).After-split_at) ∙ e))

pub returns-clause-within : goal.returns-clause-within
returns-clause-within c = omega (arith, c.in_ok-count.ensures.within, c.split_at.ensures.back_len)

pub returns-clause-found : goal.returns-clause-found
returns-clause-found c =
    let count = c.in_ok-count.count in
    is_place (map arc_value c.args.segments.now) c.args.before c.args.many c.in_ok-first.first count c.in_ok-first.ensures.found
    (ap (λ (ss : List Records). length (records_in (take count ss))) (sym (behind (goal.at.returns-clause-found c).After-split_at)) ∙ c.in_ok-count.ensures.found)
