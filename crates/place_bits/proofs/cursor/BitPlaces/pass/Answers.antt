use Rattle.std.proofs.Common.{◌∙◌, ap, sym, subst, arith, length}
use Rattle.seg_postings.specs.Rising.{IsRising, from_place}
use Rattle.place_bits.specs.Words.{Marked, with_places}
use Rattle.place_bits.proofs.Firsts.{rising_left, later, keeps}
use Rattle.place_bits.proofs.cursor.BitPlaces.pass.Goals as goal

pub returns-then-self-place-clause-moved : goal.returns-then-self-place-clause-moved
returns-then-self-place-clause-moved c =
    (λ i. record { words = length c.self.inside.words.items; places = later c.self.inside.next c.args.place c.self.inside.words.items (omega arith) i })
    ∙ ap (λ (m : Marked). with_places (from_place c.args.place m.places) m) c.self.view_is

pub returns-else-self-place-clause-moved : goal.returns-else-self-place-clause-moved
returns-else-self-place-clause-moved c =
    sym c.self.view_is ∙ (λ i. record { words = length c.self.inside.words.items; places = keeps c.self.inside.next c.args.place c.self.inside.words.items (omega arith) i })
    ∙ ap (λ (m : Marked). with_places (from_place c.args.place m.places) m) c.self.view_is

pub returns-then-self-place-clause-rising : goal.returns-then-self-place-clause-rising
returns-then-self-place-clause-rising c = subst (λ (m : Marked). IsRising m.places) c.self.view_is (rising_left c.self.inside.words.items c.self.inside.next)

pub returns-else-self-place-clause-rising : goal.returns-else-self-place-clause-rising
returns-else-self-place-clause-rising c = subst (λ (m : Marked). IsRising m.places) c.self.view_is (rising_left c.self.inside.words.items c.self.inside.next)
