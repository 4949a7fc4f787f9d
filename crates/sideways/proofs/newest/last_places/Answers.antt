use Rattle.std.proofs.Common.{◌≡◌, ◌∙◌, length, ap, sym, subst}
use Rattle.std.specs.List.{AllByRecursion}
use Rattle.facet_codec.specs.Laws.{IsBelow}
use Rattle.facet_model.specs.Stored.{Records}
use Rattle.sideways.proofs.MarkedLast.{all_below}
use Rattle.sideways.proofs.newest.last_places.Goals as goal

pub marked_last-requires-clause-within : goal.marked_last-requires-clause-within
marked_last-requires-clause-within c =
    let many : length c.args.part.now.segment.records ≡ c.docs.result = ap (λ (s : Records). length s.records) (sym c.take_set.ensures.segment) ∙ sym c.docs.ensures in
    subst (λ n. AllByRecursion (IsBelow n) c.in-Some.set.places) many (all_below (length c.args.part.now.segment.records) c.in-Some.set.places c.in-Some.ensures.some.1.within.within)
