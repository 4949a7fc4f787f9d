use Rattle.std.proofs.Common.{◌∙◌, ap, sym, subst}
use Rattle.seg_postings.specs.Rising.{IsRising, is_in}
use Rattle.place_bits.specs.Words.{Marked, has}
use Rattle.place_bits.proofs.Lists.{is_in_members, rising_members}
use Rattle.place_bits.proofs.bits.Bits.has.Goals as goal

pub returns-clause-has : goal.returns-clause-has
returns-clause-has c =
    c.has_place.ensures
    ∙ (λ i. has (c.deref.ensures.value i) c.args.place)
    ∙ sym (is_in_members c.self.inside.words.items c.args.place)
    ∙ ap (λ (m : Marked). is_in c.args.place m.places) c.self.view_is

pub returns-clause-rising : goal.returns-clause-rising
returns-clause-rising c = subst (λ (m : Marked). IsRising m.places) c.self.view_is (rising_members c.self.inside.words.items)
